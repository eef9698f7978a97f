-- `tbs::tbs` meets its contract: whenever the loop's test is reached, the first i entries are those of the TBS tables.
-- Assumes nothing.
use Rattle.std.proofs.Common.{arith, ◌≡◌, sym, ap, ◌∙◌, List, ℕ, zero, suc, ◌<◌, ◌*◌, ◌-◌, ◌/◌, ◌%◌, ◌^◌, get_or}
use lib.ListN.{length-set}
use Rattle.fox_layers.specs.Substitution.{sbox}
use Rattle.fox_layers.specs.Tables.{TBS}
use Rattle.fox_layers.proofs.Laws.Tables.{TBS-entry, length-TBS, sbox_table-entry, sbox-lt}
use Rattle.fox_server_tables.proofs.Laws.Filled.{entered, filled}
use Rattle.fox_server_tables.proofs.tbs.tbs.Goals as goal

-- a byte shifted to byte number j of a word loses no bit
shifted : (b j : ℕ) → b < 256 → j < 4 → b * 2 ^ (24 - j * 8) % 4294967296 ≡ b * 2 ^ (8 * (4 - 1 - j))
shifted b zero h l = omega arith
shifted b (suc zero) h l = omega arith
shifted b (suc (suc zero)) h l = omega arith
shifted b (suc (suc (suc zero))) h l = omega arith
shifted b (suc (suc (suc (suc j)))) h l = absurd (omega arith)

pub loop-i-preserved : goal.loop-i-preserved
loop-i-preserved c =
    let i = c.loop-i.i in
    let items = c.loop-i.entry-items in
    let inv = c.loop-i.invariant in
    let byte : c.from.result ≡ sbox (i % 256) =
    c.from.ensures ∙ ap (λ (s : List ℕ). get_or s (i % 256) 0) c.sbox-s.ensures ∙ sbox_table-entry (i % 256) (omega arith) in
    let small : c.from.result < 256 = omega (arith, byte, sbox-lt (i % 256) (omega arith)) in
    let value =
    shifted c.from.result (i / 256) small (omega arith)
    ∙ ap (λ (b : ℕ). b * 2 ^ (8 * (4 - 1 - i / 256))) byte
    ∙ sym (TBS-entry 4 i (omega arith)) in record {
      long = length-set items i _ ∙ inv.long;
      same = entered (TBS 4) items i _ (omega (arith, length-TBS 4)) (inv.long ∙ sym (length-TBS 4)) value inv.same;
    }

pub returns : goal.returns
returns c =
    let inv = c.loop-i.invariant in
    filled (TBS 4) c.loop-i.entry-items c.loop-i.i (omega (arith, length-TBS 4)) (inv.long ∙ sym (length-TBS 4)) inv.same
