-- What preparing a key returns, from its parts; and what follows for calls that prepare a key.
-- Assumes nothing.
use Rattle.std.proofs.Common.{◌≡◌, ℕ, ◌*◌, ◌^◌, ◌≤◌, ◌<◌, Bool, true, false, cond, List, length, Ok, eqb, refl, sym, ap, ◌∙◌, subst, arith, lit≤, mul-le-mul_right}
use Rattle.fox_refusals.specs.Refusals.{refusal_of, block_size, for_key, Keyed}
use Rattle.fox_refusals.proofs.Laws.Refusals.{keyed-served}
use Rattle.fox_refusals.proofs.Laws.Reply.{chosen}
use Rattle.fox_key_schedule.specs.Schedule.{round_keys}
use Rattle.fox_server_key.specs.Prepared.{Preparation, preparation_of, prepared_words, prepared_key, Prepares, round_keys_in}
use Rattle.fox_server_key.specs.declared.prepared.Prepared.{Prepared}
use Rattle.fox_server_key.proofs.Laws.RoundKeys.{round_keys_in-prepared}

-- a key that is served, with its words; no count but that of its own cipher and rounds
pub served-key : (c n : ℕ) (key words : List ℕ) → refusal_of (for_key c n (length key)) ≡ 0 → words ≡ prepared_words c n key
    → Prepares c n key (preparation_of (Ok record { cipher = c; rounds = n; key_len = length key; keys = words }))
unfolding prepared_key
served-key c n key words e made =
    record {
      refusal = sym e;
      count = chosen _ _ _ e;
      key = ap (λ (ws : List ℕ). record { cipher = c; rounds = n; key_len = length key; keys = ws }) made ∙ chosen _ _ _ e;
    }

pub size-le : (c : ℕ) {b : ℕ} → b ≡ block_size c → b ≤ 16
unfolding block_size
size-le c e = rw e (small (eqb c 64))
  where
    small : (t : Bool) → cond t 8 16 ≤ 16
    small true = lit≤ tt
    small false = lit≤ tt

-- the bytes of round keys in use fit a word
pub in_use : (c n : ℕ) {b : ℕ} → b ≡ block_size c → n < 2 ^ 32 → b * n < 2 ^ 64
in_use c n {b} e few =
    let most : b * n ≤ 16 * n = mul-le-mul_right n (size-le c e) in
    omega arith

-- what holds of a call with a key prepared within it, and with the round keys that this holds, holds with the key's own length and round keys
pub from-prepared : (P : ℕ → ℕ → ℕ → List ℕ → Type 0) (c n : ℕ) (key : List ℕ) (made : Preparation) → Keyed c n (length key) → Prepares c n key made
    → P made.key.cipher made.key.rounds made.key.key_len (round_keys_in made.key) → P c n (length key) (round_keys c n key)
unfolding prepared_key
from-prepared P c n key made keyed is held =
    let e : made.key ≡ prepared_key c n key = is.key ∙ sym (chosen _ _ _ (keyed-served keyed)) in
    let at_key : P c n (length key) (round_keys_in (prepared_key c n key)) =
    subst (λ (p : Prepared). P p.cipher p.rounds p.key_len (round_keys_in p)) e held in
    subst (P c n (length key)) (round_keys_in-prepared (prepared_key c n key) key refl) at_key
