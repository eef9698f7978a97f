-- The padding, for blocks of any size from one byte on: the blocks of a message are the padded message cut into blocks of B bytes, of which there is at least
-- one; and two messages that are both whole, or both not, have the same blocks only if they are the same message.
-- Assumes nothing.
use mathlib.Core.Path.{◌≡◌, refl, sym, ap, ap₂, ◌∙◌}
use mathlib.Core.Bool.{Bool, true, false, cond, true≢false}
use mathlib.Core.List.{List, [], ◌∷◌, ◌++◌, append-nil, append_assoc}
use Prim.Native.Nat.{ℕ, zero, suc, ◌+◌, ◌-◌, ◌*◌, ◌/◌, ◌%◌, ◌<◌, ◌≤◌}
use native.Mathlib.Nat.{zero-add, zero-mul, zero-div, mod-eq_of_lt, mul-add-mod_self_right, div-add-mod'}
use native.Mathlib.Omega.{arith}
use lib.Dec.{eqb, ltb}
use lib.ListN.{length, take, drop, get_or, replicate, length-append, length-drop, length-replicate, take-append-drop, get_or-append}
use lib.Arith.{digits_div}
use lib.Seq.{take-nil, drop-nil, take-add, get_or-append-add, get_or-append_seam}
use borrow.Author.Tests.{ltb-true, ltb-false, eqb-true, eqb-false, eq-eqb, ne_eqb}
use Rattle.fox_layers.specs.Lists.{numbered}
use Rattle.fox_layers.proofs.Laws.Lists.{by-test, length-numbered, numbered-at, numbered-snoc}
use Rattle.fox_tag.specs.Cmac.{blocks_before, block_at, last_at, whole, filled, blocks, flat, padded}
use Rattle.fox_tag.proofs.Laws.Parts.{length-block_at, block_room, before-within, last-is, last-few}

flat_append : (xs ys : List (List ℕ)) → flat (xs ++ ys) ≡ flat xs ++ flat ys
unfolding flat
flat_append [] ys = refl
flat_append (x ∷ xs) ys = ap (λ (l : List ℕ). x ++ l) (flat_append xs ys) ∙ sym (append_assoc x (flat xs) (flat ys))

flat-length : (B : ℕ) (ms : List (List ℕ)) → ((i : ℕ) → i < length ms → length (get_or ms i []) ≡ B) → length (flat ms) ≡ length ms * B
unfolding flat
flat-length B [] each = sym (zero-mul B)
flat-length B (m ∷ ms) each =
    length-append m (flat ms) ∙ omega (arith, each 0 (omega arith), flat-length B ms (λ i h. each (suc i) (omega arith)))

flat-blocks : (B : ℕ) (message : List ℕ) (n : ℕ) → flat (numbered (block_at B message) n 0) ≡ take (n * B) message
unfolding flat numbered block_at
flat-blocks B message zero = ap (λ (k : ℕ). take k message) (sym (zero-mul B))
flat-blocks B message (suc n) =
    let next : n * B + B ≡ suc n * B = omega arith in
    ap flat (numbered-snoc (block_at B message) n 0)
    ∙ flat_append (numbered (block_at B message) n 0) (block_at B message (0 + n) ∷ [])
    ∙ ap₂ (λ (l m : List ℕ). l ++ m) (flat-blocks B message n) (append-nil _ ∙ ap (block_at B message) (zero-add n))
    ∙ sym (take-add (n * B) B message)
    ∙ ap (λ (k : ℕ). take k message) next

module _ (B : ℕ) (message : List ℕ) (some : 1 ≤ B) where
  first-and-last : take (blocks_before B message * B) message ++ last_at B message ≡ message
  first-and-last = ap (λ (l : List ℕ). take (blocks_before B message * B) message ++ l) (last-is B message some) ∙ take-append-drop (blocks_before B message * B) message

  -- the blocks, one after the other, are the padded message
  pub blocks-padded : flat (blocks B message) ≡ padded B message
  unfolding blocks padded flat filled
  blocks-padded =
      let front = take (blocks_before B message * B) message in
      flat_append (numbered (block_at B message) (blocks_before B message) 0) _
      ∙ ap₂ (λ (l m : List ℕ). l ++ m) (flat-blocks B message (blocks_before B message)) (append-nil _)
      ∙ either (whole B message) front (last_at B message) message _ first-and-last
    where
      either : (t : Bool) (front last all more : List ℕ) → front ++ last ≡ all → front ++ cond t last (last ++ more) ≡ cond t all (all ++ more)
      either true front last all more e = e
      either false front last all more e = sym (append_assoc front last more) ∙ ap (λ (l : List ℕ). l ++ more) e

  pub blocks-many : length (blocks B message) ≡ blocks_before B message + 1
  unfolding blocks
  blocks-many =
      length-append (numbered (block_at B message) (blocks_before B message) 0) _
      ∙ ap (λ (n : ℕ). n + 1) (length-numbered (block_at B message) (blocks_before B message) 0)

  -- there is at least one block
  pub blocks-some : 1 ≤ length (blocks B message)
  blocks-some = omega (arith, blocks-many)

  last-size : length (cond (whole B message) (last_at B message) (filled B (last_at B message))) ≡ B
  unfolding whole filled
  last-size =
      let l = length (last_at B message) in
      by-test (eqb l B) (λ t. rw t (eqb-true l B t))
      (λ t.
      rw t (length-append (last_at B message) _
      ∙ ap (λ (n : ℕ). l + suc n) (length-replicate (B - 1 - l) 0)
      ∙ room l (eqb-false l B t) (last-few B message some)))
    where
      room : (l : ℕ) → (l ≡ B → ⊥) → l ≤ B → l + suc (B - 1 - l) ≡ B
      room l isnt few = omega arith

  -- every block has B bytes
  pub blocks-size : (i : ℕ) → i < length (blocks B message) → length (get_or (blocks B message) i []) ≡ B
  unfolding blocks
  blocks-size i h =
      let q = blocks_before B message in
      let first = numbered (block_at B message) q 0 in
      let long = length-numbered (block_at B message) q 0 in
      by-test (ltb i q)
      (λ t.
      let few = ltb-true i q t in
      ap length (get_or-append first _ [] i (omega arith) ∙ numbered-at (block_at B message) q 0 i [] few ∙ ap (block_at B message) (zero-add i))
      ∙ length-block_at B message i (block_room B q i few (before-within B message)))
      (λ t.
      let here : i ≡ length first + 0 = omega (arith, ltb-false i q t, blocks-many) in
      ap (λ (j : ℕ). length (get_or (first ++ (cond (whole B message) (last_at B message) (filled B (last_at B message)) ∷ [])) j [])) here
      ∙ ap length (get_or-append-add first _ 0 []) ∙ last-size)

  -- so the padded message is a whole number of blocks
  pub padded-length : length (padded B message) ≡ length (blocks B message) * B
  padded-length = ap length (sym blocks-padded) ∙ flat-length B (blocks B message) blocks-size

zeros-at : (n i : ℕ) → ◌≡◌ {A = ℕ} (get_or (replicate n 0) i 0) 0
zeros-at zero i = refl
zeros-at (suc n) zero = refl
zeros-at (suc n) (suc i) = zeros-at n i

zeros_differ : (ys : List ℕ) (m n : ℕ) → replicate m 0 ≡ ys ++ (0x80 ∷ replicate n 0) → ⊥
zeros_differ ys m n e =
    let z : ◌≡◌ {A = ℕ} 0 0x80 = sym (zeros-at m (length ys)) ∙ ap (λ (l : List ℕ). get_or l (length ys) 0) e ∙ get_or-append_seam ys 0x80 (replicate n 0) 0 in
    omega arith

-- there are as few blocks as can be: those before the last are not enough for the message
pub blocks-needed : (B : ℕ) (message : List ℕ) → 1 ≤ B → 1 ≤ length message → (length (blocks B message) - 1) * B < length message
unfolding blocks_before
blocks-needed B message some any =
    let many : length (blocks B message) - 1 ≡ blocks_before B message = omega (arith, blocks-many B message some) in
    rw many (omega (arith, div-add-mod' (length message - 1) B))

-- a message is whole exactly where it has bytes and its length is a multiple of B
module _ (B : ℕ) (message : List ℕ) (some : 1 ≤ B) where
  last-length : length (last_at B message) ≡ length message - blocks_before B message * B
  last-length = ap length (last-is B message some) ∙ length-drop (blocks_before B message * B) message

  pub whole-known : whole B message ≡ true → (1 ≤ length message) × (length message % B ≡ 0)
  unfolding whole
  whole-known t =
      let q = blocks_before B message in
      let l = eqb-true (length (last_at B message)) B t in
      let all : length message ≡ (q + 1) * B + 0 = omega (arith, last-length, before-within B message) in
      (omega (arith, all), ap (λ (n : ℕ). n % B) all ∙ mul-add-mod_self_right (q + 1) B 0 ∙ mod-eq_of_lt some)

  pub known-whole : 1 ≤ length message → length message % B ≡ 0 → whole B message ≡ true
  unfolding whole blocks_before
  known-whole any multiple =
      let n = length message in
      let parts = div-add-mod' n B in
      let k = n / B in
      let size : n ≡ k * B = omega arith in
      let pos : 1 ≤ k = positive k size any in
      let less : n - 1 ≡ (k - 1) * B + (B - 1) = one_less k size pos in
      let before : blocks_before B message ≡ k - 1 = ap (λ (m : ℕ). m / B) less ∙ digits_div (k - 1) (omega arith) in
      eq-eqb _ B (last-length ∙ ap (λ (q : ℕ). n - q * B) before ∙ rest k size pos)
    where
      positive : (k : ℕ) → length message ≡ k * B → 1 ≤ length message → 1 ≤ k
      positive zero e h = absurd (omega (arith, zero-mul B))
      positive (suc k) e h = omega arith

      one_less : (k : ℕ) → length message ≡ k * B → 1 ≤ k → length message - 1 ≡ (k - 1) * B + (B - 1)
      one_less zero e h = absurd (omega arith)
      one_less (suc k) e h = let same : suc k - 1 ≡ k = omega arith in rw same (omega arith)

      rest : (k : ℕ) → length message ≡ k * B → 1 ≤ k → length message - (k - 1) * B ≡ B
      rest zero e h = absurd (omega arith)
      rest (suc k) e h = let same : suc k - 1 ≡ k = omega arith in rw same (omega arith)

-- the empty message is one block of padding
pub empty-padded : (B : ℕ) → 1 ≤ B → blocks B [] ≡ filled B [] ∷ []
unfolding blocks whole blocks_before block_at numbered
empty-padded B some =
    let none : ◌≡◌ {A = ℕ} ((0 - 1) / B) 0 = zero-div B in
    let last : take B (drop ((0 - 1) / B * B) []) ≡ [] = ap (take B) (drop-nil ((0 - 1) / B * B)) ∙ take-nil B in
    let short : eqb (length {A = ℕ} []) B ≡ false = ne_eqb 0 B (λ e. omega arith) in
    ap₂ (λ (n : ℕ) (l : List ℕ). numbered (block_at B []) n 0 ++ (cond (eqb (length l) B) l (filled B l) ∷ [])) none last
    ∙ ap (λ (t : Bool). cond t [] (filled B []) ∷ []) short

-- padding can be told from what it pads: it begins with the last byte that is not zero
padding-told : (xs ys : List ℕ) (m n : ℕ) → xs ++ (0x80 ∷ replicate m 0) ≡ ys ++ (0x80 ∷ replicate n 0) → xs ≡ ys
padding-told [] [] m n e = refl
padding-told [] (y ∷ ys) m n e = absurd (zeros_differ ys m n (cc))
padding-told (x ∷ xs) [] m n e = absurd (zeros_differ xs n m (cc))
padding-told (x ∷ xs) (y ∷ ys) m n e =
    let rest : xs ++ (0x80 ∷ replicate m 0) ≡ ys ++ (0x80 ∷ replicate n 0) = cc in
    let head : x ≡ y = cc in
    ap₂ (λ (z : ℕ) (zs : List ℕ). z ∷ zs) head (padding-told xs ys m n rest)

-- two messages that are both whole, or both not, have the same blocks only if they are the same message
pub same_blocks : (B : ℕ) (m n : List ℕ) → 1 ≤ B → whole B m ≡ whole B n → blocks B m ≡ blocks B n → m ≡ n
unfolding padded
same_blocks B m n some w e =
    either (whole B m) (whole B n) w (sym (blocks-padded B m some) ∙ ap flat e ∙ blocks-padded B n some)
  where
    either : (t u : Bool) → t ≡ u → cond t m (m ++ (0x80 ∷ replicate (B - 1 - length (last_at B m)) 0))
        ≡ cond u n (n ++ (0x80 ∷ replicate (B - 1 - length (last_at B n)) 0))
        → m ≡ n
    either true true q p = p
    either true false q p = absurd (true≢false q)
    either false true q p = absurd (true≢false (sym q))
    either false false q p = padding-told m n (B - 1 - length (last_at B m)) (B - 1 - length (last_at B n)) p
