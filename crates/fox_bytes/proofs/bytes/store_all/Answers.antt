-- `bytes::store_all` meets its contract: each word is written over four bytes, behind those of the words before it.
-- Assumes nothing.
use Rattle.std.proofs.Common.{rules, ◌≡◌, refl, sym, ap, ap₂, ◌∙◌, ℕ, ◌+◌, ◌*◌, ◌<◌, List, ◌++◌, length, take, drop, get_or, arith}
use lib.Seq.{length-take-le}
use Rattle.fox_layers.specs.Words.{split}
use Rattle.fox_bytes.specs.WordBytes.{word_bytes}
use Rattle.fox_bytes.proofs.Laws.XorEach.{xored_to-after}
use Rattle.fox_bytes.proofs.Laws.WordBytes.{length-word_bytes, word_bytes_next}
use Rattle.fox_bytes.proofs.bytes.store_all.Goals as goal

pub loop-i-init : goal.loop-i-init
unfolding word_bytes
loop-i-init g c = refl

pub loop-i-preserved : goal.loop-i-preserved
loop-i-preserved g c =
    let ws = c.args.words in
    let os = c.args.out.now in
    let i = c.loop-i.i in
    let front = word_bytes 4 (take i ws) in
    let long : length ws ≡ g.row.N = search rules in
    let inside : i < length ws = omega arith in
    let count : length front ≡ i * 4 = length-word_bytes 4 (take i ws) ∙ ap (λ (k : ℕ). k * 4) (length-take-le i ws (omega arith)) in
    let place : i * 4 + 4 ≡ (i + 1) * 4 = omega arith in
    xored_to-after (i * 4) 4 front (split 4 (get_or ws i 0)) os c.loop-i.out c.store.new.out count c.loop-i.invariant c.store.ensures
    ∙ ap₂ (λ (l : List ℕ) (k : ℕ). l ++ drop k os) (sym (word_bytes_next 4 ws i inside)) place
