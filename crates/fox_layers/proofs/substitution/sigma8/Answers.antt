-- `substitution::sigma8` meets its contract: it takes the S-box's three rounds on the halves of all eight bytes, and joins what they come to.
-- Assumes nothing.
use Rattle.std.proofs.Common.{ap₂, ◌∙◌, subst, List, ℕ, ◌+◌, ◌*◌, arith}
use Rattle.fox_layers.specs.Words.{split}
use Rattle.fox_layers.specs.Substitution.{S₁, S₂, S₃, Halves, halves, whole, lmid4, lmor4, sbox, sigma}
use Rattle.fox_layers.specs.Structs.{Held}
use Rattle.fox_layers.proofs.Laws.Bits.{upper, joined-sum}
use Rattle.fox_layers.proofs.Laws.Nibbles.{Sides, mid, then-or, held-sum, held-le}
use Rattle.fox_layers.proofs.substitution.sigma8.Goals as goal
use Rattle.fox_layers.proofs.substitution.sigma8.Goals.{After-bitxor-r-3}

-- a byte's halves after one, two and three rounds
abbrev one : ℕ → Halves
one x = lmor4 S₁ (halves x)

abbrev two : ℕ → Halves
two x = lmor4 S₂ (one x)

abbrev three : ℕ → Halves
three x = lmid4 S₃ (two x)

-- the halves of the bytes that went in, after the rounds
rounds : (c : After-bitxor-r-3) → Sides three (split 8 c.args.w) c.bitxor-l.result c.bitxor-r-3.result
unfolding halves
rounds c =
    let bytes = split 8 c.args.w in
    let l = c.right_halves-l in
    let taken : Sides halves bytes l.result c.right_halves-r.result = record {
      left = subst (λ (ns : List ℕ). Held ns l.result) (upper 8 c.args.w) l.ensures;
      right = c.right_halves-r.ensures;
    } in
    let first = then-or bytes S₁ halves (mid bytes S₁ halves taken c.bitxor.ensures c.s1-t.ensures c.bitxor-2.ensures c.bitxor-r.ensures) c.or4-l.ensures in
    let second = then-or bytes S₂ one (mid bytes S₂ one first c.bitxor-3.ensures c.s2-t.ensures c.bitxor-4.ensures c.bitxor-r-2.ensures) c.or4-l-2.ensures in
    mid bytes S₃ two second c.bitxor-5.ensures c.s3-t.ensures c.bitxor-l.ensures c.bitxor-r-3.ensures

pub word_of-requires : goal.word_of-requires
word_of-requires c = held-le (rounds c).left

pub overflow_mul-result : goal.overflow_mul-result
overflow_mul-result c = omega (arith, c.word_of.ensures, held-le (rounds c.before).left)

pub word_of-requires-2 : goal.word_of-requires-2
word_of-requires-2 c = held-le (rounds c.before).right

pub overflow_add-result : goal.overflow_add-result
overflow_add-result c =
    let h = rounds c.before.before in
    omega (arith, c.word_of.ensures, c.word_of-2.ensures, held-le h.left, held-le h.right)

pub returns : goal.returns
unfolding sigma sbox whole
returns c =
    let h = rounds c.before.before in
    ap₂ (λ (l r : ℕ). l * 16 + r) (c.word_of.ensures ∙ held-sum h.left) (c.word_of-2.ensures ∙ held-sum h.right)
    ∙ joined-sum 16 (λ (x : ℕ). (three x).left) (λ (x : ℕ). (three x).right) (split 8 c.args.w)
