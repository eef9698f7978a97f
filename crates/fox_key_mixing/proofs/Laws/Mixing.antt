-- The padded key, one step of the mixing, and the two cases of mkey.
-- Assumes nothing.
use mathlib.Core.Path.{◌≡◌, sym, ap, ◌∙◌}
use mathlib.Core.List.{List, ◌++◌}
use Prim.Native.Nat.{ℕ, ◌+◌, ◌-◌, ◌%◌, ◌<◌, ◌≤◌}
use native.Mathlib.Numerals.{add-one}
use native.Mathlib.Omega.{arith}
use lib.ListN.{length, get_or, take, drop, set, length-append}
use lib.Seq.{take-add, take-append-add, take_at, drop-cons, append_snoc, length-take-le}
use Rattle.std.proofs.lemmas.List.{get_or-take, take_more_set}
use borrow.Author.Tests.{lt-ltb, le-ltb}
use Rattle.fox_layers.specs.Words.{◌⊕◌}
use Rattle.fox_key_mixing.specs.Padding.{pad, padded, mixed, mkey}

padded-take : (ek : ℕ) (key : List ℕ) → length key ≤ ek → padded ek key ≡ take ek (key ++ pad)
unfolding padded
padded-take ek key fits =
    let all : length key + (ek - length key) ≡ ek = omega arith in
    rw all at (sym (take-append-add key pad (ek - length key)))

pub length-padded : (ek : ℕ) (key : List ℕ) → length key ≤ ek → ek ≤ 32 → length (padded ek key) ≡ ek
unfolding pad
length-padded ek key fits few = rw (padded-take ek key fits) (length-take-le ek (key ++ pad) (rw length-append (omega arith)))

pub padded-at : (ek : ℕ) (key : List ℕ) → length key ≤ ek → (i : ℕ) → i < ek → get_or (padded ek key) i 0 ≡ get_or (key ++ pad) i 0
padded-at ek key fits i h = rw (padded-take ek key fits, get_or-take ek (key ++ pad) i 0 h)

-- a key padded to ek bytes begins the key padded to 32
pub padded-front : (ek : ℕ) (key : List ℕ) → length key ≤ ek → ek ≤ 32 → take ek (padded 32 key) ≡ padded ek key
padded-front ek key fits few =
    let all = key ++ pad in
    let rest : ek + (32 - ek) ≡ 32 = omega arith in
    let whole : take 32 all ≡ take ek all ++ take (32 - ek) (drop ek all) = rw rest at (take-add ek (32 - ek) all) in
    let front = padded-take ek key fits in
    let long : length (take ek all) ≡ ek = ap length (sym front) ∙ length-padded ek key fits few in
    ap (take ek) (padded-take 32 key (omega arith) ∙ whole) ∙ take_at (take ek all) _ ek long ∙ sym front

-- one step: the mixed byte m, computed from the two before it and byte i of p, is stored at place i, and the rest is still to be mixed
pub mixed-step : (p out all : List ℕ) (i x y m : ℕ) → i < length p → i < length out → m ≡ get_or p i 0 ⊕ (y + x) % 256
    → take i out ++ mixed x y (drop i p) ≡ all → take (i + 1) (set out i m) ++ mixed y m (drop (i + 1) p) ≡ all
unfolding mixed
mixed-step p out all i x y m hp ho e before =
    rw (take_more_set out i m ho, append_snoc, e, add-one) (rw (drop-cons p i 0 hp) at before)

pub mkey-short : (ek : ℕ) (key : List ℕ) → length key < ek → mkey ek key ≡ mixed 0x6A 0x76 (padded ek key)
unfolding mkey
mkey-short ek key h = simp (lt-ltb (length key) ek h)

pub mkey-full : (ek : ℕ) (key : List ℕ) → ek ≤ length key → mkey ek key ≡ key
unfolding mkey
mkey-full ek key h = simp (le-ltb (length key) ek h)
