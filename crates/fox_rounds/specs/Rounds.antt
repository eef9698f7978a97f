-- The rounds (001 §2.2.1 to §2.2.5). A state is the code's struct: two words of 32 bits for FOX64, four for FOX128. A round key is one number,
-- of 64 bits for FOX64 and of 128 for FOX128.
-- Assumes nothing.
use Rattle.std.specs.Prelude.{ℕ, ◌+◌, ◌*◌, ◌/◌, ◌%◌, ◌^◌}
use Rattle.fox_layers.specs.Words.{◌⊕◌}
use Rattle.fox_layers.specs.Substitution.{sigma}
use Rattle.fox_layers.specs.Diffusion.{mu4, mu8}
use Rattle.fox_rounds.specs.declared.fox64.Fox64.{Fox64}
use Rattle.fox_rounds.specs.declared.fox128.Fox128.{Fox128}

-- the left and the right half of a number of 2·n bits
unfoldable pub left : ℕ → ℕ → ℕ
left n w = w / 2 ^ n % 2 ^ n

unfoldable pub right : ℕ → ℕ → ℕ
right n w = w % 2 ^ n

-- §2.2.3: "or": (p, q) becomes (q, p ⊕ q)
unfoldable pub or : ℕ → ℕ
or w = right 16 w * 2 ^ 16 + (left 16 w ⊕ right 16 w)

-- §2.2.3: "io", the inverse of "or": (p, q) becomes (p ⊕ q, p)
unfoldable pub io : ℕ → ℕ
io w = (left 16 w ⊕ right 16 w) * 2 ^ 16 + left 16 w

-- §2.2.4 and §2.2.5 at n bytes: the round function, with the diffusion mu of that width
unfoldable pub f : ℕ → (ℕ → ℕ) → ℕ → ℕ → ℕ
f n mu x rk =
    let rk₀ = left (8 * n) rk in
    let rk₁ = right (8 * n) rk in
    sigma n (mu (sigma n (x ⊕ rk₀)) ⊕ rk₁) ⊕ rk₀

-- §2.2.4: the round function of FOX64
unfoldable pub f32 : ℕ → ℕ → ℕ
f32 x rk = f 4 mu4 x rk

-- §2.2.5: the round function of FOX128
unfoldable pub f64 : ℕ → ℕ → ℕ
f64 x rk = f 8 mu8 x rk

-- §2.2.1: a round of FOX64 without "or" or "io"
unfoldable pub lmid64 : ℕ → Fox64 → Fox64
lmid64 rk x = let t = f32 (x.l ⊕ x.r) rk in record { l = x.l ⊕ t; r = x.r ⊕ t }

-- §2.2.1: what lmor64 and lmio64 do after lmid64
unfoldable pub or64 : Fox64 → Fox64
or64 x = record { l = or x.l; r = x.r }

unfoldable pub io64 : Fox64 → Fox64
io64 x = record { l = io x.l; r = x.r }

-- §2.2.2: the round function's value t XORed into a state: its left half with the left words, its right half with the right words
unfoldable pub xor128 : ℕ → Fox128 → Fox128
xor128 t x =
    let tₗ = left 32 t in
    let tᵣ = right 32 t in
    record { ll = x.ll ⊕ tₗ; lr = x.lr ⊕ tₗ; rl = x.rl ⊕ tᵣ; rr = x.rr ⊕ tᵣ }

-- §2.2.2: a round of FOX128 without "or" or "io"
unfoldable pub elmid128 : ℕ → Fox128 → Fox128
elmid128 rk x = xor128 (f64 ((x.ll ⊕ x.lr) * 2 ^ 32 + (x.rl ⊕ x.rr)) rk) x

-- §2.2.2: what elmor128 and elmio128 do after elmid128
unfoldable pub or128 : Fox128 → Fox128
or128 x = record { ll = or x.ll; lr = x.lr; rl = or x.rl; rr = x.rr }

unfoldable pub io128 : Fox128 → Fox128
io128 x = record { ll = io x.ll; lr = x.lr; rl = io x.rl; rr = x.rr }
