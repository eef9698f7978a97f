-- `chain::chain` meets its contract: one more block is chained.
-- Assumes nothing.
use Rattle.std.proofs.Common.{true, ◌≡◌, sym, ap, ◌∙◌, ℕ, List, ◌+◌, ◌*◌, ◌-◌, ◌≤◌, ◌<◌, ◌++◌, length, take, drop, arith}
use mathlib.Core.Logic.{inl, inr}
use native.Mathlib.Nat.{mul-le-mul_right}
use native.Mathlib.Numerals.{add-one}
use Rattle.std.proofs.Math.Nat.{eq-or-lt_of_le}
use lib.ListN.{length-append, length-drop}
use lib.Seq.{length-take-le, take_at}
use Rattle.std.proofs.Math.Seq.{drop-append_seam}
use Rattle.std.proofs.lemmas.List.{drop-take, take-take, drop-drop}
use Rattle.fox_rounds.specs.Skeleton.{turned}
use Rattle.fox_server_rounds.specs.Keys.{keys_by}
use Rattle.fox_refusals.specs.Refusals.{block_size}
use Rattle.fox_block.specs.Block.{state}
use Rattle.fox_tag.specs.Cmac.{block_at}
use Rattle.fox_tag.specs.Tag.{chain_of}
use Rattle.fox_tag.proofs.Laws.ByStates.{chained_state-first, chained_state-on, block_of}
use Rattle.fox_tag.proofs.Laws.Parts.{block_room, size-some}
use Rattle.fox_server_tag.proofs.chain.chain.Goals as goal

-- the blocks that are left: the next one is the message's, and the others are those after it
module _ (B n : ℕ) (message : List ℕ) (some : 1 ≤ B) (within : n * B ≤ length message) where
  abbrev left : ℕ → List ℕ
  left i = drop (i * B) (take (n * B) message)

  left-length : (i : ℕ) → length (left i) ≡ n * B - i * B
  left-length i = length-drop (i * B) (take (n * B) message) ∙ ap (λ (k : ℕ). k - i * B) (length-take-le (n * B) message within)

  goes : (i : ℕ) → i ≤ n → B ≤ length (left i) → i < n
  goes i few long =
      elim (eq-or-lt_of_le few) [
        | inl e ↦ absurd (omega (arith, long, left-length i, ap (λ (k : ℕ). k * B) e, some))
        | inr less ↦ less
      ]

  done : (i : ℕ) → i ≤ n → length (left i) < B → i ≡ n
  done i few short =
      elim (eq-or-lt_of_le few) [
        | inl e ↦ e
        | inr less ↦ absurd (omega (arith, short, left-length i, mul-le-mul_right B less))
      ]

  here : (i : ℕ) → i < n → take B (left i) ≡ block_at B message i
  unfolding block_at
  here i less =
      let more : (i + 1) * B ≤ n * B = rw (add-one i) (mul-le-mul_right B less) in
      let split : n * B ≡ i * B + (n * B - i * B) = omega (arith, more) in
      ap (take B) (ap (λ (k : ℕ). drop (i * B) (take k message)) split ∙ drop-take (i * B) (n * B - i * B) message)
      ∙ take-take B (n * B - i * B) (drop (i * B) message) (omega (arith, more))

  first : (pair rest : List ℕ) (i : ℕ) → left i ≡ pair ++ rest → length pair ≡ B → i < n → pair ≡ block_at B message i
  first pair rest i cut size less = sym (ap (take B) cut ∙ take_at pair rest B size) ∙ here i less

  others : (pair rest : List ℕ) (i : ℕ) → left i ≡ pair ++ rest → length pair ≡ B → rest ≡ left (i + 1)
  others pair rest i cut size =
      let next : i * B + B ≡ (i + 1) * B = omega arith in
      sym (drop-append_seam pair rest) ∙ ap (λ (k : ℕ). drop k (pair ++ rest)) size ∙ sym (ap (drop B) cut)
      ∙ drop-drop B (i * B) (take (n * B) message) ∙ ap (λ (k : ℕ). drop k (take (n * B) message)) next

  enough : (pair rest : List ℕ) (i : ℕ) → left i ≡ pair ++ rest → length pair ≡ B → B ≤ length (left i)
  enough pair rest i cut size = omega (arith, ap length cut, length-append pair rest, size)

pub overflow_mul-n : goal.overflow_mul-n
overflow_mul-n g c =
    let is : c.size-size.result ≡ block_size g.B.Cipher.CIPHER = c.size-size.ensures ∙ g.met.B.Cipher.sized c.zero-y.result in
    rw is (omega (arith, c.requires))

pub slice_bounds-chunks_exact-end : goal.slice_bounds-chunks_exact-end
slice_bounds-chunks_exact-end g c =
    let is : c.size-size.result ≡ block_size g.B.Cipher.CIPHER = c.size-size.ensures ∙ g.met.B.Cipher.sized c.zero-y.result in
    sym (length-take-le _ _ (rw is c.requires))

pub chunks_exact-part-items-requires : goal.chunks_exact-part-items-requires
chunks_exact-part-items-requires g c =
    let is : c.size-size.result ≡ block_size g.B.Cipher.CIPHER = c.size-size.ensures ∙ g.met.B.Cipher.sized c.zero-y.result in
    rw is (size-some g.B.Cipher.CIPHER)

pub loop-part-init : goal.loop-part-init
loop-part-init g c =
    let a = c.args in
    let e = a.engine.now in
    let cipher = g.B.Cipher.CIPHER in
    let B = block_size cipher in
    let is : c.size-size.result ≡ B = c.size-size.ensures ∙ g.met.B.Cipher.sized c.zero-y.result in
    let same = c.into_iter-part-iterator.ensures.into_iter_gives in
    let none : 0 ≡ 0 * B = omega arith in
    let start : take (a.n * B) a.message.now ≡ drop (0 * B) (take (a.n * B) a.message.now) =
    ap (λ (k : ℕ). drop k (take (a.n * B) a.message.now)) none in
    let cut = c.chunks_exact-part-items.ensures in (
      rw same (cut.size ∙ is),
      (
        0,
        rw same (cut.rest ∙ ap (λ (m : ℕ). take (a.n * m) a.message.now) is ∙ start),
        omega arith,
        chained_state-first cipher (keys_by g.B.Tabled.key_in e.keys.now e.rounds) (block_at B a.message.now) c.zero-y.ensures,
      ),
    )

pub loop-part-init-derived : goal.loop-part-init-derived
loop-part-init-derived g c =
    let is : c.size-size.result ≡ block_size g.B.Cipher.CIPHER = c.size-size.ensures ∙ g.met.B.Cipher.sized c.zero-y.result in (
      rw (c.into_iter-part-iterator.ensures.into_iter_gives, c.chunks_exact-part-items.ensures.size, is) (size-some g.B.Cipher.CIPHER),
      tt,
    )

pub loop-part-preserved : goal.loop-part-preserved
loop-part-preserved g c =
    let a = c.args in
    let e = a.engine.now in
    let cipher = g.B.Cipher.CIPHER in
    let B = block_size cipher in
    let rks = keys_by g.B.Tabled.key_in e.keys.now e.rounds in
    let message = a.message.now in
    let inv = c.loop-part.invariant in
    let (i, rest, few, chained) = inv.1 in
    let steps = c.in-Some.ensures.steps in
    let (cut, long) = steps.1 in
    let size = long ∙ inv.0 in
    let some = size-some cipher in
    let split = sym rest ∙ cut in
    let less = goes B a.n message some c.requires i few (enough B a.n message some c.requires _ _ i split size) in (
      steps.0 ∙ inv.0,
      (
        i + 1,
        others B a.n message some c.requires _ _ i split size,
        omega (arith, less),
        chained_state-on cipher rks (block_at B message) i
            (block_of cipher message i (λ j. (c.type_inv.message j).fits) (block_room B a.n i less c.requires))
            chained
            (c.read.ensures ∙ ap (state cipher) (first B a.n message some c.requires _ _ i split size less))
            (c.seal-y.ensures ∙ ap (turned true rks) c.xor.ensures),
      ),
    )

pub returns : goal.returns
returns g c =
    let a = c.args in
    let e = a.engine.now in
    let cipher = g.B.Cipher.CIPHER in
    let B = block_size cipher in
    let rks = keys_by g.B.Tabled.key_in e.keys.now e.rounds in
    let inv = c.loop-part.invariant in
    let (i, rest, few, chained) = inv.1 in
    let short = c.in-None.ensures.steps.1.0 in
    let all = done B a.n a.message.now (size-some cipher) c.requires i few (omega (arith, short, inv.0, ap length rest)) in
    chained ∙ ap (λ (k : ℕ). state cipher (chain_of cipher rks a.message.now k)) all
