-- A round key by its number: as one word for FOX64 and two for FOX128; and the round keys that words hold are these, numbered from 0.
-- Assumes nothing.
use mathlib.Core.Path.{◌≡◌, sym, ◌∙◌}
use mathlib.Core.List.{List}
use Prim.Native.Nat.{ℕ}
use borrow.Author.Tests.{eq-eqb, ne_eqb}
use Rattle.fox_layers.specs.Lists.{numbered}
use Rattle.fox_rounds.specs.RoundKeys.{round_key_in64, round_key_in128}
use Rattle.fox_block.proofs.Laws.Block.{by-cipher}
use Rattle.fox_server_key.specs.Prepared.{held_keys}
use Rattle.fox_server_key.proofs.Laws.RoundKeys.{held_keys-64, held_keys-128}
use Rattle.fox_server_session_block.specs.Keys.{held_key}

module _ (c : ℕ) (words : List ℕ) where
  pub held_key-64 : (i : ℕ) → c ≡ 64 → round_key_in64 words i ≡ held_key c words i
  unfolding held_key
  held_key-64 i is = simp (eq-eqb c 64 is)

  pub held_key-128 : (i : ℕ) → (c ≡ 64 → ⊥) → round_key_in128 words i ≡ held_key c words i
  unfolding held_key
  held_key-128 i isnt = simp (ne_eqb c 64 isnt)

  pub held_keys-numbered : (n : ℕ) → numbered (held_key c words) n 0 ≡ held_keys c words n
  held_keys-numbered n =
      by-cipher c
      (λ is. sym (held_keys-64 c words n is ∙ (λ k. numbered (λ (i : ℕ). held_key-64 i is k) n 0)))
      (λ isnt. sym (held_keys-128 c words n isnt ∙ (λ k. numbered (λ (i : ℕ). held_key-128 i isnt k) n 0)))
