-- "or" and "io" undo each other on words of 32 bits. A round without them undoes itself, whatever its round function is, since the round does not change the
-- XOR that is the round function's input. No step leaves 32 bits.
-- Assumes nothing.
use mathlib.Core.Path.{◌≡◌, sym, ap, ap₂, ◌∙◌}
use Prim.Native.Nat.{ℕ, ◌+◌, ◌*◌, ◌^◌, ◌<◌}
use lib.Arith.{digits_lt}
use Rattle.fox_layers.specs.Words.{◌⊕◌}
use Rattle.fox_layers.specs.Substitution.{sigma}
use Rattle.fox_layers.specs.Diffusion.{mu4}
use Rattle.fox_layers.proofs.Laws.Xor.{xor_comm, xor-cancel, xor-cancel-right, xor-medial, xor_same, xor-zero, xor_lt}
use Rattle.fox_layers.proofs.Laws.Tables.{sigma-lt}
use Rattle.fox_rounds.specs.Rounds.{left, right, or, io, f, f32, f64, lmid64, or64, io64, xor128, elmid128, or128, io128}
use Rattle.fox_rounds.specs.declared.fox64.Fox64.{Fox64}
use Rattle.fox_rounds.specs.declared.fox128.Fox128.{Fox128}
use Rattle.fox_rounds.proofs.Laws.Halves.{left_lt, right_lt, left-pair, right-pair, pair, left-low, right-low}

-- two halves of 16 bits join to a word of 32
halves_lt : (a b : ℕ) → a < 2 ^ 16 → b < 2 ^ 16 → a * 2 ^ 16 + b < 2 ^ 32
halves_lt a b ha hb = digits_lt ha hb

halves-xor-lt : (w : ℕ) → (left 16 w ⊕ right 16 w) < 2 ^ 16
halves-xor-lt w = xor_lt 16 (left 16 w) (right 16 w) (left_lt 16 w) (right_lt 16 w)

pub or_lt : (w : ℕ) → or w < 2 ^ 32
unfolding or
or_lt w = halves_lt (right 16 w) (left 16 w ⊕ right 16 w) (right_lt 16 w) (halves-xor-lt w)

pub io-lt : (w : ℕ) → io w < 2 ^ 32
unfolding io
io-lt w = halves_lt (left 16 w ⊕ right 16 w) (left 16 w) (halves-xor-lt w) (left_lt 16 w)

pub io-or : (w : ℕ) → w < 2 ^ 32 → io (or w) ≡ w
unfolding or io
io-or w h =
    let p = left 16 w in
    let q = right 16 w in
    let there : left 16 (q * 2 ^ 16 + (p ⊕ q)) ≡ q = left-pair 16 q (p ⊕ q) (right_lt 16 w) (halves-xor-lt w) in
    let here : right 16 (q * 2 ^ 16 + (p ⊕ q)) ≡ p ⊕ q = right-pair 16 q (p ⊕ q) (halves-xor-lt w) in
    ap₂ (λ (a b : ℕ). (a ⊕ b) * 2 ^ 16 + a) there here
    ∙ ap (λ (a : ℕ). a * 2 ^ 16 + q) (xor_comm q (p ⊕ q) ∙ xor-cancel-right p q)
    ∙ pair 16 w h

pub or-io : (w : ℕ) → w < 2 ^ 32 → or (io w) ≡ w
unfolding or io
or-io w h =
    let p = left 16 w in
    let q = right 16 w in
    let there : left 16 ((p ⊕ q) * 2 ^ 16 + p) ≡ p ⊕ q = left-pair 16 (p ⊕ q) p (halves-xor-lt w) (left_lt 16 w) in
    let here : right 16 ((p ⊕ q) * 2 ^ 16 + p) ≡ p = right-pair 16 (p ⊕ q) p (left_lt 16 w) in
    ap₂ (λ (a b : ℕ). b * 2 ^ 16 + (a ⊕ b)) there here
    ∙ ap (λ (b : ℕ). p * 2 ^ 16 + b) (xor_comm (p ⊕ q) p ∙ xor-cancel p q)
    ∙ pair 16 w h

pub f_lt : (n : ℕ) (mu : ℕ → ℕ) (x rk : ℕ) → f n mu x rk < 2 ^ (8 * n)
unfolding f
f_lt n mu x rk =
    xor_lt (8 * n) (sigma n (mu (sigma n (x ⊕ left (8 * n) rk)) ⊕ right (8 * n) rk)) (left (8 * n) rk)
    (sigma-lt n (mu (sigma n (x ⊕ left (8 * n) rk)) ⊕ right (8 * n) rk)) (left_lt (8 * n) rk)

-- the round function from the results of its steps, as code has them
pub f-made : (n : ℕ) (mu : ℕ → ℕ) (x rk : ℕ) {k l m s : ℕ} → left (8 * n) rk ≡ k → right (8 * n) rk ≡ l → m ≡ mu (sigma n (x ⊕ k)) → s ≡ sigma n (m ⊕ l)
    → s ⊕ k ≡ f n mu x rk
unfolding f
f-made n mu x rk {k} {l} {m} {s} ek el em es =
    ap (λ (a : ℕ). a ⊕ k) (es ∙ ap (λ (a : ℕ). sigma n (a ⊕ l)) em)
    ∙ ap₂ (λ (a b : ℕ). sigma n (mu (sigma n (x ⊕ a)) ⊕ b) ⊕ a) (sym ek) (sym el)

-- XOR of both sides with the same number leaves their XOR as it was
same-xor : (a b t : ℕ) → (a ⊕ t) ⊕ b ⊕ t ≡ a ⊕ b
same-xor a b t = xor-medial a t b t ∙ ap (λ (n : ℕ). (a ⊕ b) ⊕ n) (xor_same t) ∙ xor-zero (a ⊕ b)

-- the words of a state have 32 bits
pub record Words64 (x : Fox64) : Type 0 where
  pub left_word : x.l < 2 ^ 32
  pub right-word : x.r < 2 ^ 32

pub record Words128 (x : Fox128) : Type 0 where
  pub first : x.ll < 2 ^ 32
  pub second : x.lr < 2 ^ 32
  pub third : x.rl < 2 ^ 32
  pub fourth : x.rr < 2 ^ 32

pub lmid64-words : (rk : ℕ) (x : Fox64) → Words64 x → Words64 (lmid64 rk x)
unfolding lmid64 f32
lmid64-words rk x w =
    let t = f 4 mu4 (x.l ⊕ x.r) rk in
    let h : t < 2 ^ 32 = f_lt 4 mu4 (x.l ⊕ x.r) rk in
    record { left_word = xor_lt 32 x.l t w.left_word h; right-word = xor_lt 32 x.r t w.right-word h }

pub lmid64-twice : (rk : ℕ) (x : Fox64) → lmid64 rk (lmid64 rk x) ≡ x
unfolding lmid64
lmid64-twice rk x =
    let t = f32 (x.l ⊕ x.r) rk in
    let again : f32 ((x.l ⊕ t) ⊕ x.r ⊕ t) rk ≡ t = ap (λ (n : ℕ). f32 n rk) (same-xor x.l x.r t) in
    let back : (a : ℕ) → (a ⊕ t) ⊕ f32 ((x.l ⊕ t) ⊕ x.r ⊕ t) rk ≡ a =
    λ a. ap (λ (n : ℕ). (a ⊕ t) ⊕ n) again ∙ xor-cancel-right a t in
    λ i. record { l = back x.l i; r = back x.r i }

pub or64-words : (x : Fox64) → Words64 x → Words64 (or64 x)
unfolding or64
or64-words x w = record { left_word = or_lt x.l; right-word = w.right-word }

pub io64-words : (x : Fox64) → Words64 x → Words64 (io64 x)
unfolding io64
io64-words x w = record { left_word = io-lt x.l; right-word = w.right-word }

pub io64-or64 : (x : Fox64) → Words64 x → io64 (or64 x) ≡ x
unfolding or64 io64
io64-or64 x w = λ i. record { l = io-or x.l w.left_word i; r = x.r }

pub or64-io64 : (x : Fox64) → Words64 x → or64 (io64 x) ≡ x
unfolding or64 io64
or64-io64 x w = λ i. record { l = or-io x.l w.left_word i; r = x.r }

pub elmid128-words : (rk : ℕ) (x : Fox128) → Words128 x → Words128 (elmid128 rk x)
unfolding elmid128 xor128
elmid128-words rk x w =
    let t = f64 ((x.ll ⊕ x.lr) * 2 ^ 32 + (x.rl ⊕ x.rr)) rk in
    record {
      first = xor_lt 32 x.ll (left 32 t) w.first (left_lt 32 t);
      second = xor_lt 32 x.lr (left 32 t) w.second (left_lt 32 t);
      third = xor_lt 32 x.rl (right 32 t) w.third (right_lt 32 t);
      fourth = xor_lt 32 x.rr (right 32 t) w.fourth (right_lt 32 t);
    }

pub elmid128-twice : (rk : ℕ) (x : Fox128) → elmid128 rk (elmid128 rk x) ≡ x
unfolding elmid128 xor128
elmid128-twice rk x =
    let t = f64 ((x.ll ⊕ x.lr) * 2 ^ 32 + (x.rl ⊕ x.rr)) rk in
    let a = left 32 t in
    let b = right 32 t in
    let u = f64 (((x.ll ⊕ a) ⊕ x.lr ⊕ a) * 2 ^ 32 + ((x.rl ⊕ b) ⊕ x.rr ⊕ b)) rk in
    let again : u ≡ t =
    ap₂ (λ (m n : ℕ). f64 (m * 2 ^ 32 + n) rk) (same-xor x.ll x.lr a) (same-xor x.rl x.rr b) in
    let on-left : (n : ℕ) → (n ⊕ a) ⊕ left 32 u ≡ n =
    λ n. ap (λ (m : ℕ). (n ⊕ a) ⊕ left 32 m) again ∙ xor-cancel-right n a in
    let on-right : (n : ℕ) → (n ⊕ b) ⊕ right 32 u ≡ n =
    λ n. ap (λ (m : ℕ). (n ⊕ b) ⊕ right 32 m) again ∙ xor-cancel-right n b in
    λ i. record { ll = on-left x.ll i; lr = on-left x.lr i; rl = on-right x.rl i; rr = on-right x.rr i }

pub or128-words : (x : Fox128) → Words128 x → Words128 (or128 x)
unfolding or128
or128-words x w = record { first = or_lt x.ll; second = w.second; third = or_lt x.rl; fourth = w.fourth }

pub io128-words : (x : Fox128) → Words128 x → Words128 (io128 x)
unfolding io128
io128-words x w = record { first = io-lt x.ll; second = w.second; third = io-lt x.rl; fourth = w.fourth }

pub io128-or128 : (x : Fox128) → Words128 x → io128 (or128 x) ≡ x
unfolding or128 io128
io128-or128 x w =
    λ i. record { ll = io-or x.ll w.first i; lr = x.lr; rl = io-or x.rl w.third i; rr = x.rr }

pub or128-io128 : (x : Fox128) → Words128 x → or128 (io128 x) ≡ x
unfolding or128 io128
or128-io128 x w =
    λ i. record { ll = or-io x.ll w.first i; lr = x.lr; rl = or-io x.rl w.third i; rr = x.rr }

-- a round of FOX64 depends on the lowest 64 bits of its round key alone
pub lmid64-low : (a b : ℕ) (x : Fox64) → lmid64 (a * 2 ^ 64 + b) x ≡ lmid64 b x
unfolding lmid64 f32 f
lmid64-low a b x =
    ap₂ (λ (k l : ℕ). let t = sigma 4 (mu4 (sigma 4 ((x.l ⊕ x.r) ⊕ k)) ⊕ l) ⊕ k in record { l = x.l ⊕ t; r = x.r ⊕ t }) (left-low 32 a b) (right-low 32 a b)
