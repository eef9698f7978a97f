-- `tag::tag` meets its contract: by cases of the cipher.
-- Assumes nothing.
use mathlib.Core.Path.{◌≡◌, sym, ap₂, ◌∙◌}
use mathlib.Core.Logic.{◌⊎◌, inl, inr}
use mathlib.Core.List.{List}
use Prim.Native.Nat.{ℕ}
use Rattle.fox_block.specs.Block.{state}
use Rattle.fox_tag.specs.Tag.{tag_with}
use Rattle.fox_server_key.proofs.Laws.RoundKeys.{held_keys-64, held_keys-128}
use Rattle.fox_server_tag.proofs.tag.tag.Goals as goal

other : {cipher : ℕ} → (cipher ≡ 64) ⊎ (cipher ≡ 128) → (cipher ≡ 64 → ⊥) → cipher ≡ 128
other (inl e) isnt = absurd (isnt e)
other (inr e) isnt = e

pub returns-then-cipher-eq64 : goal.returns-then-cipher-eq64
returns-then-cipher-eq64 c =
    let is = c.if-cipher-eq64.true in
    let a = c.args in
    c.tag_of.ensures
    ∙ ap₂ (λ (cipher : ℕ) (ks : List ℕ). state cipher (tag_with cipher ks a.message.now)) (sym is) (sym (held_keys-64 a.cipher a.keys.now a.rounds is))

pub returns-else-cipher-eq64 : goal.returns-else-cipher-eq64
returns-else-cipher-eq64 c =
    let isnt = c.if-cipher-eq64.false in
    let a = c.args in
    c.tag_of-else-cipher-eq64.ensures
    ∙ ap₂ (λ (cipher : ℕ) (ks : List ℕ). state cipher (tag_with cipher ks a.message.now)) (sym (other c.requires.0 isnt))
    (sym (held_keys-128 a.cipher a.keys.now a.rounds isnt))
