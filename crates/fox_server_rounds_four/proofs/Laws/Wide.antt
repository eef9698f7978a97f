-- A word of 64 bits by its halves: XOR goes half by half, and so does "or" by a mask. A round on a block in two words is the round on the block.
-- Assumes nothing.
use mathlib.Core.Path.{◌≡◌, sym, ap, ap₂, ◌∙◌}
use Prim.Native.Nat.{ℕ, ◌+◌, ◌*◌, ◌/◌, ◌%◌, ◌^◌, ◌<◌}
use native.Mathlib.Nat.{mod-lt}
use native.Mathlib.Omega.{arith}
use lib.Bits.{bit_and, and_mask, and_shr, and_mod, xor_shr, xor_mod, xor_shifted}
use lib.Pow.{pow_pos, split, shr_lt}
use Rattle.fox_layers.specs.Words.{◌⊕◌}
use Rattle.fox_layers.proofs.Laws.Xor.{xor_comm, xor_lt}
use Rattle.fox_rounds.specs.Rounds.{left, right, or, xor128, or128}
use Rattle.fox_rounds.specs.declared.fox128.Fox128.{Fox128}
use Rattle.fox_rounds.proofs.Laws.Halves.{left-div, left-pair, right-pair, pair}
use Rattle.fox_rounds.proofs.Laws.Rounds.{or_lt}
use Rattle.fox_server_rounds_four.specs.Wide.{narrow}
use Rattle.fox_server_rounds_four.specs.declared.wide.Wide128.{Wide128}

-- XOR, half by half
pub left-xor : (a b : ℕ) → left 32 (a ⊕ b) ≡ left 32 a ⊕ left 32 b
unfolding left
left-xor a b = ap (λ (n : ℕ). n % 2 ^ 32) (xor_shr a b 32) ∙ xor_mod (a / 2 ^ 32) (b / 2 ^ 32) 32

pub right-xor : (a b : ℕ) → right 32 (a ⊕ b) ≡ right 32 a ⊕ right 32 b
unfolding right
right-xor a b = xor_mod a b 32

-- the round function's input is the XOR of the two words
pub input-xor : (x : Wide128) → x.l < 2 ^ 64 → x.r < 2 ^ 64
    → ((narrow x).ll ⊕ (narrow x).lr) * 2 ^ 32 + ((narrow x).rl ⊕ (narrow x).rr) ≡ x.l ⊕ x.r
unfolding narrow
input-xor x hl hr =
    ap₂ (λ (a b : ℕ). a * 2 ^ 32 + b) (sym (left-xor x.l x.r)) (sym (right-xor x.l x.r))
    ∙ pair 32 (x.l ⊕ x.r) (xor_lt 64 x.l x.r hl hr)

-- a round's value XORed into both words
pub narrow-xored : (f : ℕ) (x : Wide128) → narrow (record { l = x.l ⊕ f; r = x.r ⊕ f }) ≡ xor128 f (narrow x)
unfolding narrow xor128
narrow-xored f x =
    λ i. record { ll = left-xor x.l f i; lr = left-xor x.r f i; rl = right-xor x.l f i; rr = right-xor x.r f i }

-- "or" of a word of 32 bits as the XOR of three: its left 16 bits, its right ones, and these moved to the left
or-xored : (w : ℕ) → w < 2 ^ 32 → (w / 2 ^ 16 ⊕ w % 2 ^ 16) ⊕ w % 2 ^ 16 * 2 ^ 16 ≡ or w
unfolding or right
or-xored w h =
    let q = w % 2 ^ 16 in
    let s : (w / 2 ^ 16 ⊕ q) < 2 ^ 16 = xor_lt 16 (w / 2 ^ 16) q (shr_lt 16 16 h) (mod-lt w (pow_pos 16)) in
    xor_comm (w / 2 ^ 16 ⊕ q) (q * 2 ^ 16)
    ∙ xor_shifted q 16 (w / 2 ^ 16 ⊕ q) s
    ∙ ap (λ (p : ℕ). q * 2 ^ 16 + (p ⊕ q)) (sym (left-div 16 w h))

-- the right 16 bits of each half
abbrev rights : ℕ
rights = 0x0000FFFF0000FFFF

masked-left : (w : ℕ) → bit_and w rights / 2 ^ 32 ≡ w / 2 ^ 32 % 2 ^ 16
masked-left w = and_shr w rights 32 ∙ and_mask (w / 2 ^ 32) 16

masked-right : (w : ℕ) → bit_and w rights % 2 ^ 32 ≡ w % 2 ^ 32 % 2 ^ 16
masked-right w = and_mod w rights 32 ∙ and_mask (w % 2 ^ 32) 16

pub or-both : (w : ℕ) → w < 2 ^ 64
    → (bit_and (w / 2 ^ 16) rights ⊕ bit_and w rights) ⊕ bit_and w rights * 2 ^ 16 ≡ or (w / 2 ^ 32) * 2 ^ 32 + or (w % 2 ^ 32)
or-both w h =
    let a = bit_and (w / 2 ^ 16) rights in
    let q = bit_and w rights in
    let up = q * 2 ^ 16 in
    let v = w / 2 ^ 32 in
    let u = w % 2 ^ 32 in
    let al : a / 2 ^ 32 ≡ v / 2 ^ 16 = masked-left (w / 2 ^ 16) ∙ omega arith in
    let ar : a % 2 ^ 32 ≡ u / 2 ^ 16 = masked-right (w / 2 ^ 16) ∙ omega arith in
    let upl : up / 2 ^ 32 ≡ v % 2 ^ 16 * 2 ^ 16 = omega (arith, masked-left w, masked-right w) in
    let upr : up % 2 ^ 32 ≡ u % 2 ^ 16 * 2 ^ 16 = omega (arith, masked-left w, masked-right w) in
    let on-left : ((a ⊕ q) ⊕ up) / 2 ^ 32 ≡ or v =
    xor_shr (a ⊕ q) up 32 ∙ ap (λ (n : ℕ). n ⊕ up / 2 ^ 32) (xor_shr a q 32)
    ∙ (λ i. (al i ⊕ masked-left w i) ⊕ upl i) ∙ or-xored v (shr_lt 32 32 h) in
    let on-right : ((a ⊕ q) ⊕ up) % 2 ^ 32 ≡ or u =
    xor_mod (a ⊕ q) up 32 ∙ ap (λ (n : ℕ). n ⊕ up % 2 ^ 32) (xor_mod a q 32)
    ∙ (λ i. (ar i ⊕ masked-right w i) ⊕ upr i) ∙ or-xored u (mod-lt w (pow_pos 32)) in
    sym (split ((a ⊕ q) ⊕ up) 32) ∙ (λ i. on-left i * 2 ^ 32 + on-right i)

-- "or" of both halves of the left word is "or" of the block
pub narrow-or : (x : Wide128) {n : ℕ} → x.l < 2 ^ 64 → n ≡ or (x.l / 2 ^ 32) * 2 ^ 32 + or (x.l % 2 ^ 32)
    → narrow (record { l = n; r = x.r }) ≡ or128 (narrow x)
unfolding narrow or128 right
narrow-or x h e =
    let v = x.l / 2 ^ 32 in
    let u = x.l % 2 ^ 32 in
    λ i. record {
      ll = (ap (left 32) e ∙ left-pair 32 (or v) (or u) (or_lt v) (or_lt u) ∙ ap or (sym (left-div 32 x.l h))) i;
      lr = left 32 x.r;
      rl = (ap (right 32) e ∙ right-pair 32 (or v) (or u) (or_lt u)) i;
      rr = right 32 x.r;
    }

-- a block in two words, from its four
pub narrow-pair : (x : Fox128) {l r : ℕ} → x.ll < 2 ^ 32 → x.lr < 2 ^ 32 → x.rl < 2 ^ 32 → x.rr < 2 ^ 32
    → l ≡ x.ll * 2 ^ 32 + x.rl → r ≡ x.lr * 2 ^ 32 + x.rr → narrow (record { l = l; r = r }) ≡ x
unfolding narrow
narrow-pair x h1 h2 h3 h4 e f =
    λ i. record {
      ll = (ap (left 32) e ∙ left-pair 32 x.ll x.rl h1 h3) i;
      lr = (ap (left 32) f ∙ left-pair 32 x.lr x.rr h2 h4) i;
      rl = (ap (right 32) e ∙ right-pair 32 x.ll x.rl h3) i;
      rr = (ap (right 32) f ∙ right-pair 32 x.lr x.rr h4) i;
    }
