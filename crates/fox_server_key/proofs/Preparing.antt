-- What preparing a key returns: for a key that is served, 0, the count and the key's cipher, rounds and length; for one that is refused, count 0 and zeros
-- everywhere, so that a block with it is refused with 1; and the same from every call.
-- Assumes nothing.
use mathlib.Core.Path.{◌≡◌, refl, sym, ap, ◌∙◌}
use mathlib.Core.Bool.{Bool}
use mathlib.Core.List.{List}
use Prim.Native.Nat.{ℕ, zero, suc, ◌*◌}
use lib.ListN.{length, get_or, replicate}
use Rattle.fox_refusals.specs.Refusals.{refusal_of, wrong_cipher, for_key, for_turn, for_block, Keyed}
use Rattle.fox_refusals.specs.Answer.{Answer}
use Rattle.fox_refusals.proofs.Laws.Refusals.{keyed-served}
use Rattle.fox_refusals.proofs.Laws.Reply.{chosen, passed_over}
use Rattle.fox_block.specs.Promise.{TurnsWith}
use Rattle.fox_block.proofs.Laws.Block.{size_64, size-128}
use Rattle.fox_server_key.specs.Prepared.{prepared_key, no_key, Prepares, PreparedFor, Empty, round_keys_in}
use Rattle.fox_server_key.specs.declared.prepared.Prepared.{Prepared}
use Rattle.fox_server_key.specs.Prepared.{Preparation}

zeros-at : (n i : ℕ) → get_or {A = ℕ} (replicate n 0) i 0 ≡ 0
zeros-at zero i = refl
zeros-at (suc n) zero = refl
zeros-at (suc n) (suc i) = zeros-at n i

module _ (c rounds : ℕ) (key : List ℕ) (r : Preparation) (is : Prepares c rounds key r) where
  pub key-served : Keyed c rounds (length key) → PreparedFor c rounds (length key) r
  unfolding prepared_key
  key-served keyed =
      let z = keyed-served keyed in
      let made = is.key ∙ sym (chosen _ _ _ z) in
      record {
        refusal = is.refusal ∙ z;
        count = is.count ∙ sym (chosen _ _ _ z);
        cipher = ap (λ (p : Prepared). p.cipher) made;
        rounds = ap (λ (p : Prepared). p.rounds) made;
        key_len = ap (λ (p : Prepared). p.key_len) made;
      }

  -- 8 bytes for each round of FOX64, 16 for each of FOX128
  pub count-64 : Keyed c rounds (length key) → c ≡ 64 → r.answer.count ≡ 8 * rounds
  count-64 keyed e = (key-served keyed).count ∙ ap (λ (b : ℕ). b * rounds) (size_64 c e)

  pub count-128 : Keyed c rounds (length key) → (c ≡ 64 → ⊥) → r.answer.count ≡ 16 * rounds
  count-128 keyed isnt = (key-served keyed).count ∙ ap (λ (b : ℕ). b * rounds) (size-128 c isnt)

  module _ (isnt : r.answer.refusal ≡ 0 → ⊥) where
    none : r.key ≡ no_key
    none = is.key ∙ sym (passed_over _ _ _ (λ z. isnt (is.refusal ∙ z)))

    pub key-refused : Empty r
    unfolding no_key
    key-refused =
        record {
          count = is.count ∙ sym (passed_over _ _ _ (λ z. isnt (is.refusal ∙ z)));
          cipher = ap (λ (p : Prepared). p.cipher) none;
          rounds = ap (λ (p : Prepared). p.rounds) none;
          key_len = ap (λ (p : Prepared). p.key_len) none;
          entries = λ i. ap (λ (p : Prepared). get_or p.keys i 0) none ∙ zeros-at 510 i;
        }

    -- a block with it is refused with 1
    pub block_refused : (d : Bool) (block : List ℕ) {before after : List ℕ} {s : Answer}
        → TurnsWith d r.key.cipher r.key.rounds r.key.key_len (round_keys_in r.key) block before after s → s.refusal ≡ 1
    unfolding refusal_of for_key for_turn for_block wrong_cipher
    block_refused d block {before} call =
        call.refusal
        ∙ ap (λ (cipher : ℕ). refusal_of (for_block d cipher r.key.rounds r.key.key_len (length block) (length before))) key-refused.cipher

-- two calls that prepare a key return the same answer and the same prepared key
pub keys-same : (c rounds : ℕ) (key : List ℕ) (r s : Preparation) → Prepares c rounds key r → Prepares c rounds key s
    → (r.answer.refusal ≡ s.answer.refusal) × (r.answer.count ≡ s.answer.count) × (r.key ≡ s.key)
keys-same c rounds key r s a b = (a.refusal ∙ sym b.refusal, a.count ∙ sym b.count, a.key ∙ sym b.key)
