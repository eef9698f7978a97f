-- `decimal::digits` meets its contract: whenever the loop's test is reached, all bytes are digits exactly where those from the index on are, and these appended
-- to v have the value of all.
-- Assumes nothing.
use Rattle.std.proofs.Common.{◌≡◌, sym, ◌∙◌, ◌+◌, ◌-◌, ◌*◌, arith, drop, get_or}
use Rattle.fox_text.specs.Decimal.{decimal_of}
use Rattle.fox_text.proofs.Laws.Decimals.{not_found, is_found, digits-here, onward-here, digits-done, grows, no-digits, too_large, in-range}
use Rattle.fox_text_read.proofs.decimal.digits.Goals as goal

pub returns-then-not-is_digit : goal.returns-then-not-is_digit
returns-then-not-is_digit c =
    let a = c.args in
    let here = digits-here a.ds.now c.loop-d.d-index (omega arith) in
    let no = sym c.is_digit.ensures ∙ c.if-not-is_digit.true in
    not_found _ (no-digits a.most a.ds.now (sym c.loop-d.invariant.right ∙ here ∙ rw no))

pub returns-then-v-from : goal.returns-then-v-from
returns-then-v-from c =
    let ds = c.args.ds.now in
    let v = c.loop-d.v * 10 + (get_or ds c.loop-d.d-index 0 - 48) in
    let on = onward-here c.loop-d.v ds c.loop-d.d-index (omega arith) in
    not_found _ (too_large c.args.most ds (omega (arith, c.if-v-from.true, grows v (drop (c.loop-d.d-index + 1) ds), on, c.loop-d.invariant.value)))

pub loop-d-preserved : goal.loop-d-preserved
loop-d-preserved c =
    let ds = c.args.ds.now in
    let here = digits-here ds c.loop-d.d-index (omega arith) in
    let yes = sym c.is_digit.ensures ∙ c.if-not-is_digit.false in
    let on = onward-here c.loop-d.v ds c.loop-d.d-index (omega arith) in
    let from : c.from.result ≡ get_or ds c.loop-d.d-index 0 - 48 = omega arith in
    record {
      small = omega arith;
      right = sym (here ∙ rw yes) ∙ c.loop-d.invariant.right;
      value = rw from (sym on ∙ c.loop-d.invariant.value);
    }

pub returns : goal.returns
returns c =
    let a = c.args in
    let (none, same) = digits-done c.loop-d.v a.ds.now c.loop-d.d-index c.loop-d-test.false in
    let e : c.loop-d.v ≡ decimal_of a.ds.now = sym same ∙ c.loop-d.invariant.value in
    is_found (in-range a.most a.ds.now (sym c.loop-d.invariant.right ∙ none) (omega (arith, c.loop-d.invariant.small, e))) e
