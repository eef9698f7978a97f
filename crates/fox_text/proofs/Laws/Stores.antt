-- Bytes stored one after the other: one more of them, two texts one after the other, and a text at the start of a buffer.
-- Assumes nothing.
use mathlib.Core.Path.{◌≡◌, refl, sym, ap, ◌∙◌}
use mathlib.Core.List.{List, [], ◌∷◌, ◌++◌, append_assoc}
use Prim.Native.Nat.{ℕ, suc, ◌+◌, ◌-◌, ◌*◌, ◌/◌, ◌%◌, ◌≤◌, ◌<◌}
use native.Mathlib.Omega.{arith}
use lib.ListN.{length, take, drop, get_or, set, length-append, drop_of_length-le}
use borrow.Rule.Slice.PartMut.{put_mid}
use lib.Seq.{sets, sets-eq, drop-drop, length-sets, length-take-le, take-append_seam}
use Rattle.fox_text.specs.Hex.{digit, hex_text}
use Rattle.fox_text.specs.Put.{Put, Stored}
use Rattle.fox_text.proofs.Laws.Lines.{from-here}

sets-append : (l : List ℕ) (i : ℕ) (a b : List ℕ) → sets l i (a ++ b) ≡ sets (sets l i a) (i + length a) b
sets-append l i [] b = ap (λ (n : ℕ). sets l n b) (omega arith)
sets-append l i (x ∷ a) b = sets-append (set l i x) (suc i) a b ∙ ap (λ (n : ℕ). sets (sets (set l i x) (suc i) a) n b) (omega arith)

-- a part of the buffer that becomes the text is the text stored
pub put-part : (l t v : List ℕ) (at : ℕ) → at + length t ≤ length l → v ≡ t
    → Put (length t) t l (put_mid at (at + length t - at) l v) at (at + length t)
put-part l t v at room e =
    let size : at + length t - at ≡ length t = omega arith in
    record { place = refl; short = omega arith; bytes = rw (e, size, drop-drop (length t) at l) (sym (sets-eq t l at room ∙ append_assoc (take at l) t (drop (at + length t) l))) }

-- the two digits of byte i stored, with those after it still to be stored
pub hex-stored : (out bs : List ℕ) (at i a b : ℕ) → i < length bs → a ≡ digit (get_or bs i 0 / 16) → b ≡ digit (get_or bs i 0 % 16)
    → sets (set (set out (at + i * 2) a) (at + i * 2 + 1) b) (at + (i + 1) * 2) (hex_text (drop (i + 1) bs)) ≡ sets out (at + i * 2) (hex_text (drop i bs))
unfolding hex_text
hex-stored out bs at i a b h p q =
    let e : at + (i + 1) * 2 ≡ suc (suc (at + i * 2)) = omega arith in
    let f : at + i * 2 + 1 ≡ suc (at + i * 2) = omega arith in
    rw (from-here bs i h, p, q, e, f)

pub hex-done : (out bs : List ℕ) (at i : ℕ) → length bs ≤ i → sets out (at + i * 2) (hex_text (drop i bs)) ≡ out
unfolding hex_text
hex-done out bs at i h = rw (drop_of_length-le bs h)

-- a store writes one byte
pub one : (l : List ℕ) (at x : ℕ) → Put 1 (x ∷ []) l (set l at x) at (at + 1)
one l at x = record { place = refl; short = omega arith; bytes = refl }

-- two texts written one after the other are written as one
pub then : {m k at r s : ℕ} {a b l l' l'' : List ℕ} → Put m a l l' at r → Put k b l' l'' r s → Put (m + k) (a ++ b) l l'' at s
then {at = at} {a = a} {b = b} {l = l} p q =
    record {
      place = omega (arith, p.place, q.place, length-append a b);
      short = omega (arith, p.short, q.short);
      bytes = q.bytes ∙ rw (p.place, p.bytes) (sym (sets-append l at a b));
    }

pub at-most : {m k at r : ℕ} {a l l' : List ℕ} → Put m a l l' at r → m ≤ k → Put k a l l' at r
at-most p h = record { place = p.place; short = omega (arith, p.short); bytes = p.bytes }

-- bytes stored at the start of a list that has room for them are there, and what is after them stays
pub take-stored : (l v : List ℕ) → length v ≤ length l → take (length v) (sets l 0 v) ≡ v
take-stored l v h =
    let e : 0 + length v ≡ length v = omega arith in
    rw (sets-eq v l 0 (rw e h)) (take-append_seam v _)

pub stored : {most r : ℕ} {text before after : List ℕ} → r ≡ length text → length text ≤ most → most ≤ length before → after ≡ sets before 0 text
    → Stored most text before after r
stored {r = r} {text = text} {before = before} {after = after} count few room bytes =
    let long : length after ≡ length before = ap length bytes ∙ length-sets before 0 text in
    record {
      count = count;
      few = omega arith;
      bytes = bytes;
      fits = omega arith;
      counts = sym (length-take-le r after (omega arith));
      part = rw (bytes, count) (take-stored before text (omega arith));
    }

pub put-stored : {most r : ℕ} {text before after : List ℕ} → Put most text before after 0 r → most ≤ length before → Stored most text before after r
put-stored p room = stored (omega (arith, p.place)) (omega (arith, p.place, p.short)) room p.bytes
