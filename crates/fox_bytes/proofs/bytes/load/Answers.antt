-- `bytes::load` meets its contract: a word joined from N bytes has these bytes, and the elements of a slice of bytes are bytes.
-- Assumes nothing.
use Rattle.std.proofs.Common.{◌≡◌, sym, ap, ◌∙◌, ℕ, List, Option, Some, ◌-◌, ◌<◌, length, take, drop, arith}
use Rattle.std.specs.Option.{MatchOption}
use Rattle.std.specs.Array.{IsFirstChunk}
use mathlib.Core.Path.{subst}
use denote.Bor.{Bor}
use lib.ListN.{length-drop}
use lib.Seq.{length-take-le, take_all}
use Rattle.fox_layers.specs.Words.{joined, split}
use Rattle.fox_layers.proofs.Laws.Words.{split-joined, take-bytes, drop-bytes}
use Rattle.fox_bytes.proofs.bytes.load.Goals as goal

-- the first chunk of what a list has from a place on
first : (s : List ℕ) (at n : ℕ) {r : Option (Bor (List ℕ))} {y : Bor (List ℕ)} → r ≡ Some y
    → MatchOption r (length (take (length s - at) (drop at s)) < n) (λ z. IsFirstChunk (take (length s - at) (drop at s)) z.now n) → y.now ≡ take n (drop at s)
first s at n e h =
    (subst (λ r. MatchOption r (length (take (length s - at) (drop at s)) < n) (λ z. IsFirstChunk (take (length s - at) (drop at s)) z.now n)) e h).same
    ∙ ap (take n) (take_all (length s - at) (drop at s) (rw (length-drop at s) (omega arith)))

pub returns-clause-number : goal.returns-clause-number
returns-clause-number g c =
    c.join.ensures ∙ ap joined (first c.args.s.now c.args.at g.row.N c.unwrap.ensures c.first_chunk.ensures.cases)

pub returns-clause-bytes : goal.returns-clause-bytes
returns-clause-bytes g c =
    let s = c.args.s.now in
    let xs = take g.row.N (drop c.args.at s) in
    let number : g.W.Word.number c.join.result ≡ joined xs = c.join.ensures ∙ ap joined (first s c.args.at g.row.N c.unwrap.ensures c.first_chunk.ensures.cases) in
    let long : length xs ≡ g.row.N = length-take-le g.row.N (drop c.args.at s) (rw (length-drop c.args.at s) (omega arith)) in
    ap (split g.row.N) number
    ∙ ap (λ (k : ℕ). split k (joined xs)) (sym long)
    ∙ split-joined xs (take-bytes g.row.N (drop c.args.at s) (drop-bytes c.args.at s (λ i. (c.type_inv.s i).fits)))
