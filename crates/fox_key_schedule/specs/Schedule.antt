-- The key schedules (001 §2.3.1 to §2.3.4): which of the three a key takes, and the round keys that it gives.
-- Assumes nothing.
use Rattle.std.specs.Prelude.{ℕ, ◌*◌, List, cond, leb, eqb, length}
use Rattle.fox_layers.specs.Lists.{numbered}
use Rattle.fox_key_mixing.specs.Padding.{mkey}
use Rattle.fox_key_register.specs.Register.{LFSR}
use Rattle.fox_key_mixing.specs.Diversification.{groups, dkey}
use Rattle.fox_key_nonlinear.specs.Nonlinear.{NL64, NL64h, NL128}

-- Fig. 8: ek in bytes, for FOX64 and a key of len bytes
unfoldable pub ek64 : ℕ → ℕ
ek64 len = cond (leb len 16) 16 32

-- Fig. 8: ek in bytes, for FOX128
unfoldable pub ek128 : ℕ
ek128 = 32

-- Algorithms 2 and 3: the round key of FOX64 at the register value reg
unfoldable pub round_key_at64 : List ℕ → ℕ → ℕ
round_key_at64 key reg =
    let ek = ek64 (length key) in
    let d = dkey (mkey ek key) reg in
    let ks64 = NL64 (eqb (length key) ek) d in
    let ks64h = NL64h (eqb (length key) ek) d in
    cond (leb (length key) 16) ks64 ks64h

-- Algorithm 4: the round key of FOX128 at the register value reg
unfoldable pub round_key_at128 : List ℕ → ℕ → ℕ
round_key_at128 key reg = NL128 (eqb (length key) ek128) (dkey (mkey ek128 key) reg)

-- round key number i, counted from 0, for r rounds: the register has gone i times as many steps as the key has groups
unfoldable pub round_key64 : ℕ → List ℕ → ℕ → ℕ
round_key64 r key i = round_key_at64 key (LFSR (i * groups (ek64 (length key))) r)

unfoldable pub round_key128 : ℕ → List ℕ → ℕ → ℕ
round_key128 r key i = round_key_at128 key (LFSR (i * groups ek128) r)

-- round key number i of either cipher
unfoldable pub round_key : ℕ → ℕ → List ℕ → ℕ → ℕ
round_key cipher r key i =
    let other = round_key128 r key i in
    cond (eqb cipher 64) (round_key64 r key i) other

-- the round key of either cipher at the register value reg
unfoldable pub key_at : ℕ → List ℕ → ℕ → ℕ
key_at cipher key reg =
    let other = round_key_at128 key reg in
    cond (eqb cipher 64) (round_key_at64 key reg) other

-- the register's steps from one round key of either cipher to the next, which are a step block: as many as the key has groups
unfoldable pub step_block : ℕ → List ℕ → ℕ
step_block cipher key = cond (eqb cipher 64) (groups (ek64 (length key))) (groups ek128)

-- the r round keys
unfoldable pub round_keys : ℕ → ℕ → List ℕ → List ℕ
round_keys cipher r key = numbered (round_key cipher r key) r 0
