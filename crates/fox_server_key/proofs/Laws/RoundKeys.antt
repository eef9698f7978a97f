-- The round keys that a prepared key holds are those that it was filled with; so a key prepared from key bytes holds the round keys of the definition.
-- Assumes nothing.
use mathlib.Core.Path.{◌≡◌, refl, sym, ap, ap₂, ◌∙◌}
use mathlib.Core.Bool.{Bool}
use mathlib.Core.List.{List, [], ◌∷◌, ◌++◌}
use Prim.Native.Nat.{ℕ, zero, suc, ◌+◌, ◌-◌, ◌*◌, ◌^◌, ◌<◌, ◌≤◌}
use native.Mathlib.Nat.{le_of_suc-le-suc, not-suc-le-zero}
use native.Mathlib.Omega.{arith}
use lib.ListN.{length, get_or, replicate, get_or-append}
use lib.Seq.{get_or-append-add}
use borrow.Author.Tests.{eq-eqb, ne_eqb}
use Rattle.fox_rounds.specs.Rounds.{left, right}
use Rattle.fox_layers.specs.Lists.{numbered}
use Rattle.fox_rounds.specs.Skeleton.{turned}
use Rattle.fox_rounds.specs.declared.state.State.{State}
use Rattle.fox_rounds.specs.declared.state.State.TheVariants.{Of64, Of128}
use Rattle.fox_rounds.specs.RoundKeys.{round_key_in64, round_key_in128, round_keys_in64, round_keys_in128}
use Rattle.fox_rounds.proofs.Laws.Halves.{pair}
use Rattle.fox_layers.proofs.Laws.Lists.{length-numbered, numbered_next, numbered-same, numbered-at}
use Rattle.fox_key_schedule.specs.Schedule.{round_key, round_keys}
use Rattle.fox_key_schedule.proofs.Laws.Schedules.{round_key-128, round_key128-lt}
use Rattle.fox_block.specs.Block.{state64, state128, bytes, turn_with}
use Rattle.fox_block.proofs.Laws.Block.{by-cipher, state-64, state-128}
use Rattle.fox_server_key.specs.Prepared.{in_halves, filled, prepared_words, held_keys, round_keys_in}
use Rattle.fox_server_key.specs.declared.prepared.Prepared.{Prepared}
use Rattle.fox_server_key.proofs.Laws.Filled.{length-in_halves}

-- a list is the numbered list of its elements
listed : (ks : List ℕ) → numbered (λ (i : ℕ). get_or ks i 0) (length ks) 0 ≡ ks
unfolding numbered
listed [] = refl
listed (k ∷ ks) =
    ap (λ (ls : List ℕ). k ∷ ls) (numbered_next (λ (i : ℕ). get_or (k ∷ ks) i 0) (length ks) 0 ∙ listed ks)

pub filled-rest : (ws : List ℕ) (i : ℕ) → length ws ≤ i → get_or (filled ws) i 0 ≡ 0
unfolding filled
filled-rest ws i h =
    let here : i ≡ length ws + (i - length ws) = omega arith in
    ap (λ (j : ℕ). get_or (ws ++ replicate (510 - length ws) 0) j 0) here
    ∙ get_or-append-add ws (replicate (510 - length ws) 0) (i - length ws) 0
    ∙ zeros (510 - length ws) (i - length ws)
  where
    zeros : (n j : ℕ) → ◌≡◌ {A = ℕ} (get_or (replicate n 0) j 0) 0
    zeros zero j = refl
    zeros (suc n) zero = refl
    zeros (suc n) (suc j) = zeros n j

pub filled_at : (ws : List ℕ) (i : ℕ) → i < length ws → get_or (filled ws) i 0 ≡ get_or ws i 0
unfolding filled
filled_at ws i h = get_or-append ws (replicate (510 - length ws) 0) 0 i h

pub round_key_in64-filled : (ks : List ℕ) (n : ℕ) → length ks ≡ n → round_keys_in64 (filled ks) n ≡ ks
unfolding round_key_in64
round_key_in64-filled ks n e =
    ap (λ (m : ℕ). numbered (λ (i : ℕ). get_or (filled ks) i 0) m 0) (sym e)
    ∙ numbered-same (λ (i : ℕ). get_or (filled ks) i 0) (λ (i : ℕ). get_or ks i 0) (length ks) 0
    (λ i h. filled_at ks i (omega arith))
    ∙ listed ks

pub left_at : (ks : List ℕ) (i : ℕ) → i < length ks → get_or (in_halves ks) (2 * i) 0 ≡ left 64 (get_or ks i 0)
unfolding in_halves
left_at [] i h = absurd (not-suc-le-zero h)
left_at (k ∷ ks) zero h = refl
left_at (k ∷ ks) (suc i) h =
    let next : 2 * suc i ≡ suc (suc (2 * i)) = omega arith in
    ap (λ (j : ℕ). get_or (left 64 k ∷ right 64 k ∷ in_halves ks) j 0) next ∙ left_at ks i (le_of_suc-le-suc h)

pub right-at : (ks : List ℕ) (i : ℕ) → i < length ks → get_or (in_halves ks) (2 * i + 1) 0 ≡ right 64 (get_or ks i 0)
unfolding in_halves
right-at [] i h = absurd (not-suc-le-zero h)
right-at (k ∷ ks) zero h = refl
right-at (k ∷ ks) (suc i) h =
    let next : 2 * suc i + 1 ≡ suc (suc (2 * i + 1)) = omega arith in
    ap (λ (j : ℕ). get_or (left 64 k ∷ right 64 k ∷ in_halves ks) j 0) next ∙ right-at ks i (le_of_suc-le-suc h)

pub round_key_in128-filled : (ks : List ℕ) (n : ℕ) → ((i : ℕ) → i < n → get_or ks i 0 < 2 ^ 128) → length ks ≡ n
    → round_keys_in128 (filled (in_halves ks)) n ≡ ks
unfolding round_key_in128
round_key_in128-filled ks n wide e =
    let long = length-in_halves ks in
    ap (λ (m : ℕ). round_keys_in128 (filled (in_halves ks)) m) (sym e)
    ∙ numbered-same (round_key_in128 (filled (in_halves ks))) (λ (i : ℕ). get_or ks i 0) (length ks) 0
    (λ i h.
    let here : i < length ks = omega arith in
    ap₂ (λ (a b : ℕ). a * 2 ^ 64 + b) (filled_at (in_halves ks) (2 * i) (omega arith) ∙ left_at ks i here)
    (filled_at (in_halves ks) (2 * i + 1) (omega arith) ∙ right-at ks i here)
    ∙ pair 64 (get_or ks i 0) (wide i (omega arith)))
    ∙ listed ks

pub prepared_words-64 : (c r : ℕ) (key : List ℕ) → c ≡ 64 → prepared_words c r key ≡ filled (round_keys c r key)
unfolding prepared_words
prepared_words-64 c r key e = simp (eq-eqb c 64 e)

pub prepared_words-128 : (c r : ℕ) (key : List ℕ) → (c ≡ 64 → ⊥) → prepared_words c r key ≡ filled (in_halves (round_keys c r key))
unfolding prepared_words
prepared_words-128 c r key n = simp (ne_eqb c 64 n)

pub held_keys-64 : (c : ℕ) (words : List ℕ) (r : ℕ) → c ≡ 64 → held_keys c words r ≡ round_keys_in64 words r
unfolding held_keys
held_keys-64 c words r e = simp (eq-eqb c 64 e)

pub held_keys-128 : (c : ℕ) (words : List ℕ) (r : ℕ) → (c ≡ 64 → ⊥) → held_keys c words r ≡ round_keys_in128 words r
unfolding held_keys
held_keys-128 c words r n = simp (ne_eqb c 64 n)

pub round_keys_in-64 : (p : Prepared) → p.cipher ≡ 64 → round_keys_in p ≡ round_keys_in64 p.keys p.rounds
unfolding round_keys_in
round_keys_in-64 p e = held_keys-64 p.cipher p.keys p.rounds e

pub round_keys_in-128 : (p : Prepared) → (p.cipher ≡ 64 → ⊥) → round_keys_in p ≡ round_keys_in128 p.keys p.rounds
unfolding round_keys_in
round_keys_in-128 p n = held_keys-128 p.cipher p.keys p.rounds n

-- the round keys of FOX128 fit two words
pub wide : (c r : ℕ) (key : List ℕ) (i : ℕ) → (c ≡ 64 → ⊥) → round_key c r key i < 2 ^ 128
wide c r key i isnt = rw (round_key-128 c r key i isnt) (round_key128-lt r key i)

-- a prepared key with the words of a key holds the round keys of the definition
pub round_keys_in-prepared : (p : Prepared) (key : List ℕ) → p.keys ≡ prepared_words p.cipher p.rounds key
    → round_keys_in p ≡ round_keys p.cipher p.rounds key
unfolding round_keys
round_keys_in-prepared p key e =
    let c = p.cipher in
    let r = p.rounds in
    let k = round_key c r key in
    by-cipher c
    (λ is.
    round_keys_in-64 p is
    ∙ ap (λ (ws : List ℕ). round_keys_in64 ws r) (e ∙ prepared_words-64 c r key is)
    ∙ round_key_in64-filled (numbered k r 0) r (length-numbered k r 0))
    (λ isnt.
    round_keys_in-128 p isnt
    ∙ ap (λ (ws : List ℕ). round_keys_in128 ws r) (e ∙ prepared_words-128 c r key isnt)
    ∙ round_key_in128-filled (numbered k r 0) r (λ i h. rw (numbered-at k r 0 i 0 h) (wide c r key (0 + i) isnt)) (length-numbered k r 0))

-- a block sealed or opened with the round keys that a prepared key holds, by cases of the cipher
module _ (d : Bool) (p : Prepared) (bs : List ℕ) where
  pub turned-in-64 : p.cipher ≡ 64
      → bytes (turned d (round_keys_in64 p.keys p.rounds) (Of64 (state64 bs))) ≡ turn_with d p.cipher (round_keys_in p) bs
  unfolding turn_with
  turned-in-64 is =
      ap₂ (λ (ks : List ℕ) (x : State). bytes (turned d ks x)) (sym (round_keys_in-64 p is)) (sym (state-64 p.cipher bs is))

  pub turned-in-128 : (p.cipher ≡ 64 → ⊥)
      → bytes (turned d (round_keys_in128 p.keys p.rounds) (Of128 (state128 bs))) ≡ turn_with d p.cipher (round_keys_in p) bs
  unfolding turn_with
  turned-in-128 isnt =
      ap₂ (λ (ks : List ℕ) (x : State). bytes (turned d ks x)) (sym (round_keys_in-128 p isnt)) (sym (state-128 p.cipher bs isnt))
