-- A text that grows at the front of a buffer, while bytes further back stay: what is written up to a place leaves all from there on as it was, and two texts
-- laid one after the other are laid as one.
-- Assumes nothing.
use mathlib.Core.Path.{◌≡◌, sym, ap, ◌∙◌}
use mathlib.Core.List.{List, ◌++◌, append_assoc}
use Prim.Native.Nat.{ℕ, ◌+◌, ◌-◌, ◌≤◌}
use native.Mathlib.Omega.{arith}
use lib.ListN.{length, take, drop, length-append, length-drop}
use lib.Seq.{sets-eq, length-take-le, take_at, drop-append-add, drop-drop}
use lib.Seq.{paste}
use Rattle.std.specs.List.{copy_within}
use Rattle.std.proofs.lemmas.List.Edits.{take-paste, drop-paste}
use Rattle.fox_text.specs.Put.{Put}
use Rattle.fox_run_file_lay.specs.Laid.{Laid}

-- lists that agree from a place on agree from a later place on
pub drop-later : (f g : ℕ) (a b : List ℕ) → f ≤ g → drop f a ≡ drop f b → drop g a ≡ drop g b
drop-later f g a b h e =
    let here : f + (g - f) ≡ g = omega arith in
    let at : drop (f + (g - f)) a ≡ drop (f + (g - f)) b =
    sym (drop-drop (g - f) f a) ∙ ap (drop (g - f)) e ∙ drop-drop (g - f) f b in
    rw here at at

pub put-laid : {m at r : ℕ} {text before after : List ℕ} (from : ℕ) → Put m text before after at r → r ≤ from → from ≤ length before
    → Laid at from text before after r
put-laid {at = at} {r = r} {text = text} {before = before} {after = after} from p short within =
    let end = p.place in
    let front = take at before ++ text in
    let long : length front ≡ r = rw (length-append (take at before) text, length-take-le at before (omega arith)) (sym end) in
    let is : after ≡ front ++ drop r before = p.bytes ∙ rw (sets-eq text before at (omega arith), end) in
    let here : from ≡ length front + (from - r) = omega arith in
    let there : r + (from - r) ≡ from = omega arith in
    record {
      place = end;
      front = ap (take r) is ∙ take_at front (drop r before) r long;
      back = ap (drop from) is
          ∙ ap (λ (n : ℕ). drop n (front ++ drop r before)) here
          ∙ drop-append-add front (drop r before) (from - r)
          ∙ drop-drop (from - r) r before
          ∙ ap (λ (n : ℕ). drop n before) there;
    }

pub laid_then : {at f g r s : ℕ} {a b l l' l'' : List ℕ} → Laid at f a l l' r → Laid r g b l' l'' s → f ≤ g → Laid at g (a ++ b) l l'' s
laid_then {at = at} {f = f} {g = g} {a = a} {b = b} {l = l} {l' = l'} p q h =
    record {
      place = omega (arith, p.place, q.place, length-append a b);
      front = q.front ∙ ap (λ (t : List ℕ). t ++ b) p.front ∙ append_assoc (take at l) a b;
      back = q.back ∙ drop-later f g l' l h p.back;
    }

-- bytes copied down, to a place at or before their own
pub copied : (at src n : ℕ) (l l' : List ℕ) → at ≤ src → src + n ≤ length l → l' ≡ copy_within l src (src + n) at
    → Laid at (src + n) (take n (drop src l)) l l' (at + n)
copied at src n l l' low fits is =
    let many : src + n - src ≡ n = omega arith in
    let room : n ≤ length (drop src l) = rw (length-drop src l) (omega arith) in
    let long = length-take-le n (drop src l) room in
    let same : l' ≡ paste l at (drop src l) n = rw many at is in
    rw same (record {
      place = omega (arith, long);
      front = take-paste l at (drop src l) n (omega arith) room;
      back = drop-later (at + n) (src + n) _ _ (omega arith) (drop-paste l at (drop src l) n (omega arith) room);
    })
