-- The bytes of successive register values: parts of them, and the words that they join to.
-- Assumes nothing.
use mathlib.Core.Path.{◌≡◌, refl, sym, ap, ◌∙◌}
use mathlib.Core.List.{List, [], ◌++◌, append_assoc}
use Prim.Native.Nat.{ℕ, zero, suc, ◌+◌, ◌-◌, ◌*◌, ◌/◌, ◌%◌, ◌^◌, ◌<◌, ◌≤◌}
use native.Mathlib.Nat.{zero-add, suc-add, zero-mul}
use native.Mathlib.Omega.{arith}
use lib.ListN.{length, take, drop, length-append, length-take, length-drop}
use Rattle.fox_layers.specs.Words.{joined, split, xor_each}
use Rattle.fox_layers.proofs.Laws.Words.{length-split, joined-append, joined-split, joined-split-low, split-bytes, append-bytes, take-bytes, drop-bytes}
use Rattle.fox_key_register.specs.Register.{clocked, iterate}
use Rattle.fox_key_mixing.specs.Diversification.{stream, groups, dkey}
use Rattle.fox_key_mixing.specs.KeyBytes.{word_bytes}
use Rattle.fox_key_register.proofs.Laws.Register.{iterate-first}
use Rattle.fox_key_mixing.proofs.Laws.KeyBytes.{xor_each-surplus, length-word_bytes, xor_each-word_bytes}
use Rattle.fox_bytes.proofs.Laws.WordsInBytes.{word_of}

pub stream-add : (m n x : ℕ) → stream (m + n) x ≡ stream m x ++ stream n (iterate m clocked x)
unfolding stream iterate
stream-add zero n x = rw zero-add
stream-add (suc m) n x =
    rw (suc-add, stream-add m n (clocked x), iterate-first m clocked x) (sym (append_assoc (split 3 x) (stream m (clocked x)) _))

pub length-stream : (n x : ℕ) → length (stream n x) ≡ n * 3
unfolding stream
length-stream zero x = sym (zero-mul 3)
length-stream (suc n) x = rw (length-append, length-split, length-stream n (clocked x)) (omega arith)

-- the bytes of the register r after k steps
abbrev pub value : ℕ → ℕ → List ℕ
value k r = split 3 (iterate k clocked r)

-- eleven successive values, cut as the words of `stream` take them
pub stream-row : (r : ℕ)
    → ((value 0 r ++ value 1 r ++ take 2 (value 2 r))
    ++ ((drop 2 (value 2 r) ++ value 3 r ++ value 4 r ++ take 1 (value 5 r))
    ++ ((drop 1 (value 5 r) ++ value 6 r ++ value 7 r) ++ ((value 8 r ++ value 9 r ++ take 2 (value 10 r)) ++ []))))
    ++ drop 2 (value 10 r) ≡ stream 11 r
unfolding stream split iterate
stream-row r = refl

-- words joined from parts of register values: each has the parts' bytes
ruleset bytes = (append-bytes, take-bytes, drop-bytes, split-bytes)

ruleset lengths = (length-append, length-take, length-drop, length-split)

pub word-332 : (x y z : ℕ) → x < 2 ^ 24 → y < 2 ^ 24 → z < 2 ^ 24
    → split 8 (x * 0x10000000000 + y * 0x10000 + z / 0x100) ≡ split 3 x ++ split 3 y ++ take 2 (split 3 z)
word-332 x y z hx hy hz =
    let u : List ℕ = split 3 x ++ split 3 y in
    let v : List ℕ = take 2 (split 3 z) in
    let all : List ℕ = u ++ v in
    let top : joined v ≡ z / 0x100 = unfold joined split in omega arith in
    let number : x * 0x10000000000 + y * 0x10000 + z / 0x100 ≡ joined all =
    omega (
      arith,
      simp lengths at (joined-append u v),
      simp lengths at (joined-append (split 3 x) (split 3 y)),
      joined-split 3 x hx,
      joined-split 3 y hy,
    ) in
    word_of _ all (search bytes) (simp lengths) number

pub word-233 : (x y z : ℕ) → y < 2 ^ 24 → z < 2 ^ 24
    → split 8 (x % 0x10000 * 0x1000000000000 + y * 0x1000000 + z) ≡ drop 1 (split 3 x) ++ split 3 y ++ split 3 z
word-233 x y z hy hz =
    let v : List ℕ = drop 1 (split 3 x) in
    let u : List ℕ = v ++ split 3 y in
    let all : List ℕ = u ++ split 3 z in
    let low : joined v ≡ x % 0x10000 = unfold split in joined-split-low 2 x in
    let number : x % 0x10000 * 0x1000000000000 + y * 0x1000000 + z ≡ joined all =
    omega (
      arith,
      simp lengths at (joined-append u (split 3 z)),
      simp lengths at (joined-append v (split 3 y)),
      joined-split 3 y hy,
      joined-split 3 z hz,
    ) in
    word_of _ all (search bytes) (simp lengths) number

pub word-1331 : (x y z t : ℕ) → y < 2 ^ 24 → z < 2 ^ 24 → t < 2 ^ 24
    → split 8 (x % 0x100 * 0x100000000000000 + y * 0x100000000 + z * 0x100 + t / 0x10000)
    ≡ drop 2 (split 3 x) ++ split 3 y ++ split 3 z ++ take 1 (split 3 t)
word-1331 x y z t hy hz ht =
    let v : List ℕ = drop 2 (split 3 x) in
    let u : List ℕ = v ++ split 3 y ++ split 3 z in
    let w : List ℕ = take 1 (split 3 t) in
    let all : List ℕ = u ++ w in
    let low : joined v ≡ x % 0x100 = unfold split in joined-split-low 1 x in
    let top : joined w ≡ t / 0x10000 = unfold joined split in omega arith in
    let number : x % 0x100 * 0x100000000000000 + y * 0x100000000 + z * 0x100 + t / 0x10000 ≡ joined all =
    omega (
      arith,
      simp lengths at (joined-append u w),
      simp lengths at (joined-append (v ++ split 3 y) (split 3 z)),
      simp lengths at (joined-append v (split 3 y)),
      joined-split 3 y hy,
      joined-split 3 z hz,
    ) in
    word_of _ all (search bytes) (simp lengths) number

-- Bytes that the stream of m values begins with count as those of fewer values, where these are as many as are XORed.
pub xor_each-stream : (xs ys zs : List ℕ) (m n reg : ℕ) → ys ++ zs ≡ stream (n + m) reg → length xs ≤ length ys → length xs ≤ n * 3
    → xor_each xs ys ≡ xor_each xs (stream n reg)
xor_each-stream xs ys zs m n reg e few fewer =
    sym (xor_each-surplus xs ys zs few) ∙ ap (xor_each xs) (e ∙ stream-add n m reg)
    ∙ xor_each-surplus xs (stream n reg) _ (rw (length-stream n reg) fewer)

-- A mixed key of at most four words XORed with words that hold the stream of eleven values, but for one byte that is left, is the diversified key.
pub dkey-row : (ws row left : List ℕ) (reg : ℕ) → length ws ≤ 4 → length left ≡ 1 → word_bytes 8 row ++ left ≡ stream 11 reg
    → word_bytes 8 (xor_each ws row) ≡ dkey (word_bytes 8 ws) reg
unfolding dkey groups
dkey-row ws row left reg few one e =
    let long : length (word_bytes 8 row) + 1 ≡ 33 = omega (arith, length-append (word_bytes 8 row) left, ap length e, length-stream 11 reg) in
    let m = word_bytes 8 ws in
    let n = (length m + 2) / 3 in
    let all : n + (11 - n) ≡ 11 = omega (arith, length-word_bytes 8 ws) in
    xor_each-word_bytes 8 ws row (omega (arith, length-word_bytes 8 row))
    ∙ xor_each-stream m (word_bytes 8 row) left (11 - n) n reg (rw all e) (omega (arith, length-word_bytes 8 ws)) (omega arith)
