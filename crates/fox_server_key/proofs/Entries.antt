-- The entries of a key that was prepared are the round keys of the definition: number i, counted from 0, is at place i for FOX64, and at places 2 i and 2 i +
-- 1 for FOX128, the left half first; every entry past them is 0.
-- Assumes nothing.
use mathlib.Core.Path.{◌≡◌, sym, ap, ap₂, ◌∙◌}
use mathlib.Core.List.{List}
use Prim.Native.Nat.{ℕ, ◌+◌, ◌*◌, ◌^◌, ◌<◌, ◌≤◌}
use native.Mathlib.Nat.{zero-add}
use native.Mathlib.Omega.{arith}
use lib.ListN.{length, get_or}
use Rattle.fox_rounds.specs.Rounds.{left, right}
use Rattle.fox_rounds.proofs.Laws.Halves.{pair}
use Rattle.fox_layers.proofs.Laws.Lists.{length-numbered, numbered-at}
use Rattle.fox_key_schedule.specs.Schedule.{round_key, round_keys}
use Rattle.fox_refusals.specs.Refusals.{Keyed}
use Rattle.fox_refusals.proofs.Laws.Refusals.{keyed-served}
use Rattle.fox_refusals.proofs.Laws.Reply.{chosen}
use Rattle.fox_server_key.specs.Prepared.{in_halves, prepared_words, prepared_key, Prepares}
use Rattle.fox_server_key.specs.declared.prepared.Prepared.{Prepared}
use Rattle.fox_server_key.specs.Prepared.{Preparation}
use Rattle.fox_server_key.proofs.Laws.Filled.{length-in_halves}
use Rattle.fox_server_key.proofs.Laws.RoundKeys.{prepared_words-64, prepared_words-128, filled_at, filled-rest, left_at, right-at, wide}

module _ (c rounds : ℕ) (key : List ℕ) (r : Preparation) (keyed : Keyed c rounds (length key)) (prepared : Prepares c rounds key r) where
  handed : r.key.keys ≡ prepared_words c rounds key
  unfolding prepared_key
  handed = ap (λ (p : Prepared). p.keys) (prepared.key ∙ sym (chosen _ _ _ (keyed-served keyed)))

  -- round key number i, in the list of all
  listed : (i : ℕ) → i < rounds → get_or (round_keys c rounds key) i 0 ≡ round_key c rounds key i
  unfolding round_keys
  listed i few = numbered-at (round_key c rounds key) rounds 0 i 0 few ∙ ap (round_key c rounds key) (zero-add i)

  long : length (round_keys c rounds key) ≡ rounds
  unfolding round_keys
  long = length-numbered (round_key c rounds key) rounds 0

  pub entry-64 : c ≡ 64 → (i : ℕ) → i < rounds → get_or r.key.keys i 0 ≡ round_key c rounds key i
  entry-64 is i few =
      ap (λ (ws : List ℕ). get_or ws i 0) (handed ∙ prepared_words-64 c rounds key is)
      ∙ filled_at (round_keys c rounds key) i (omega (arith, long))
      ∙ listed i few

  pub rest-64 : c ≡ 64 → (j : ℕ) → rounds ≤ j → get_or r.key.keys j 0 ≡ 0
  rest-64 is j past =
      ap (λ (ws : List ℕ). get_or ws j 0) (handed ∙ prepared_words-64 c rounds key is) ∙ filled-rest (round_keys c rounds key) j (omega (arith, long))

  pub entry-128 : (c ≡ 64 → ⊥) → (i : ℕ) → i < rounds
      → get_or r.key.keys (2 * i) 0 * 2 ^ 64 + get_or r.key.keys (2 * i + 1) 0 ≡ round_key c rounds key i
  entry-128 isnt i few =
      let ks = round_keys c rounds key in
      let halves = length-in_halves ks in
      let here : i < length ks = omega (arith, long) in
      ap (λ (ws : List ℕ). get_or ws (2 * i) 0 * 2 ^ 64 + get_or ws (2 * i + 1) 0) (handed ∙ prepared_words-128 c rounds key isnt)
      ∙ ap₂ (λ (a b : ℕ). a * 2 ^ 64 + b) (filled_at (in_halves ks) (2 * i) (omega arith) ∙ left_at ks i here)
      (filled_at (in_halves ks) (2 * i + 1) (omega arith) ∙ right-at ks i here)
      ∙ ap (λ (k : ℕ). left 64 k * 2 ^ 64 + right 64 k) (listed i few)
      ∙ pair 64 (round_key c rounds key i) (wide c rounds key i isnt)

  pub rest-128 : (c ≡ 64 → ⊥) → (j : ℕ) → 2 * rounds ≤ j → get_or r.key.keys j 0 ≡ 0
  rest-128 isnt j past =
      let halves = length-in_halves (round_keys c rounds key) in
      ap (λ (ws : List ℕ). get_or ws j 0) (handed ∙ prepared_words-128 c rounds key isnt)
      ∙ filled-rest (in_halves (round_keys c rounds key)) j (omega (arith, long))
