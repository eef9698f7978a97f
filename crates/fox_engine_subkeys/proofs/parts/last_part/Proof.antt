-- `parts::last_part` meets its contract: the blocks before the last lie within the message, and what follows them is at most one block.
-- Assumes nothing.
use mathlib.Core.Path.{◌≡◌, ap, ◌∙◌}
use mathlib.Core.List.{List}
use Prim.Native.Nat.{ℕ, ◌-◌, ◌*◌, ◌≤◌}
use native.Mathlib.Omega.{arith}
use lib.ListN.{length, take, drop}
use borrow.Author.Rules.{rules}
use Rattle.fox_tag.specs.Cmac.{blocks_before}
use Rattle.fox_tag.proofs.Laws.Parts.{before-within, last_taken, last-few}
use Rattle.fox_engine_subkeys.proofs.parts.last_part.Statement.{statement}
use Rattle.fox_engine_subkeys.proofs.parts.last_part.Tie as tie

-- the last block begins within the message
start-within : (n size : ℕ) (message : List ℕ) → n ≡ blocks_before size message → n * size ≤ length message
start-within n size message e = rw e (before-within size message)

mul_at : tie.Need-overflow_mul-at
mul_at c =
    let a = c.before.before.args in
    let within = start-within _ a.size a.message.now c.blocks_before.ensures in
    omega arith

sub-result : tie.Need-slice_bounds-result-count
sub-result c = let a = c.before.before.args in start-within _ a.size a.message.now c.blocks_before.ensures

part-result-start : tie.Need-slice_bounds-result-start
part-result-start c = let a = c.before.before.args in start-within _ a.size a.message.now c.blocks_before.ensures

returns : tie.Need-returns
returns c =
    let start = c.before.before.before in
    let a = start.args in
    let is = ap (λ (n : ℕ). take (length a.message.now - n * a.size) (drop (n * a.size) a.message.now)) c.before.blocks_before.ensures
    ∙ last_taken a.size a.message.now start.requires in
    (is, rw is (last-few a.size a.message.now start.requires))

pub last_part_spec : {M : Type 1} → statement M
last_part_spec = tie.close (tie.spec (λ c κs. search rules) mul_at sub-result part-result-start (λ c. search rules) returns)
