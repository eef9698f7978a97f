-- `writing::put_digits` meets its contract: a number below ten is its digit, and any other is the digits of its tenth and then its last digit.
-- Assumes nothing.
use mathlib.Core.Path.{◌≡◌, ◌∙◌}
use mathlib.Core.List.{◌∷◌, ◌++◌, []}
use Prim.Native.Nat.{◌+◌, ◌-◌, ◌/◌, ◌%◌}
use native.Mathlib.Omega.{arith}
use borrow.Author.Tests.{lt-ltb, le-ltb}
use Rattle.fox_text.specs.Decimal.{digits_text}
use Rattle.fox_text.proofs.Laws.Decimals.{digits_more}
use Rattle.fox_text.proofs.Laws.Stores.{one, then, at-most}
use Rattle.fox_text_write.proofs.writing.+put_digits.Goals as goal

pub returns-then-places-eq0 : goal.returns-then-places-eq0
unfolding digits_text
returns-then-places-eq0 t c = record { place = rw c.if-places-eq0.true (omega arith); short = omega arith; bytes = rw c.if-places-eq0.true }

pub returns-then-n-lt10 : goal.returns-then-n-lt10
returns-then-n-lt10 t c =
    let a = c.args in
    let e : digits_text a.places a.n ≡ (48 + a.n) ∷ [] = digits_more a.places a.n (omega arith) ∙ rw (lt-ltb _ _ c.if-n-lt10.true) in
    rw e (at-most (one _ _ _) (omega arith))

pub returns : goal.returns
returns t c =
    let a = c.args in
    let e : digits_text a.places a.n ≡ digits_text (a.places - 1) (a.n / 10) ++ ((48 + a.n % 10) ∷ []) =
    digits_more a.places a.n (omega arith) ∙ rw (le-ltb _ _ c.if-n-lt10.false) in
    rw e (at-most (then c.put_digits-last.ensures (one _ _ _)) (omega arith))
