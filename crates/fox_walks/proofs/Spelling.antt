-- How the values of a type are spelled by machine values, as a walk wants it of each parameter and each result: the machine value, that the type's relation
-- tells it, and that it is of the type's MIR type.
--     W                the logic of a model
--     Spelling         of a type.        Typed     what is known of a value's machine value
--     Spellings        of a list of types, with `Denote/Laws.antt`'s `Spells` and `Tellss` from them (`spells`, `tellss`).        AllTyped     of their values
--     struct, enum     the spelling of a declared struct and of an enum
--     number, shared, lent, behind     of a `u64`, of a `&[u8]` and a `&mut [u8]`, and of a `&mut` to one value
-- It holds since the logic has these laws of each kind of type.
-- Assumes nothing.
use mathlib.Core.Path.{subst}
use Prim.Native.Nat.{ℕ}
use mathlib.Core.List.{List, [], ◌∷◌}
use lib.ListN.{length}
use mir.Syntax.{Lifetime, w64}
use mir.Val.{Val, vint, vptr}
use base.Fml.{Lft}
use types.Logic.{Logic}
use borrow.Fn.World.{World}
use denote.RattleType.{RattleType, Denots}
use denote.Laws as laws
use denote.Laws.{Is, Ises, Are, Spells, valss, Tells, Tellss, Lawful}
use denote.Builtin.{u8, u64}
use denote.Plain.{uint_Tells, uint_Lawful}
use denote.Ref.{Bor, MutBor, MutRef, mut_Tells, mut_Lawful}
use denote.Slice.{ShrSlice, MutSlice, slice_val, shr_slice_Tells, shr_slice_Lawful, mut_slice_Tells, mut_slice_Lawful}
use denote.Enum.Declared as Enum
use denote.Enum.Enum.{Few}
use denote.Enum.Laws as EL
use denote.Struct.Declared as Struct
use denote.Struct.Laws as LL

abbrev pub W : (w : World) → Logic w.𝓤
W w = w.𝓛

pub record Spelling (R : RattleType) : Type 2 where
  pub val : R.Denot → Val
  pub tells : Tells R (Is R) (λ x. val x ∷ [])
  pub lawful : (w : World) → Lawful w.𝓛 R

module _ {R : RattleType} (s : Spelling R) where
  abbrev pub Typed : R.Denot → Type 0
  Typed x = laws.Typed R.mir (s.val x ∷ [])

  pub typed : (w : World) (x : R.Denot) (vs : List Val) → Is R x vs → Typed x
  typed w x vs is = subst (laws.Typed R.mir) (s.tells x vs is) ((s.lawful w).typed x vs is)

abbrev pub Spellings : List RattleType → Type 2
Spellings [] = Unit {2}
Spellings (R ∷ Rs) = Spelling R × Spellings Rs

abbrev pub spells : (Rs : List RattleType) → Spellings Rs → Spells Rs
spells [] ss = tt
spells (R ∷ Rs) ss = ((λ x. ss.0.val x ∷ []), spells Rs ss.1)

pub tellss : (Rs : List RattleType) (ss : Spellings Rs) → Tellss Rs (Ises Rs) (spells Rs ss)
tellss [] ss = tt
tellss (R ∷ Rs) ss = (ss.0.tells, tellss Rs ss.1)

abbrev pub AllTyped : (Rs : List RattleType) → Spellings Rs → Denots Rs → Type 0
AllTyped [] ss a = Unit {0}
AllTyped (R ∷ Rs) ss a = Typed ss.0 a.0 × AllTyped Rs ss.1 a.1

pub all_typed : (w : World) (Rs : List RattleType) (ss : Spellings Rs) (a : Denots Rs) → Are Rs (Ises Rs) a (valss Rs (spells Rs ss) a) → AllTyped Rs ss a
all_typed w [] ss a are = tt
all_typed w (R ∷ Rs) ss a are = (typed ss.0 w a.0 _ are.0, all_typed w Rs ss.1 a.1 are.1)

abbrev pub struct : (T : Struct.Declared) → LL.Laws T → Spelling (Struct.row T)
struct T L = record { val = LL.val T L; tells = LL.tells T L; lawful = λ w. LL.lawful T L (W w) }

abbrev pub enum : (T : Enum.Declared) → EL.Laws T → Few (Enum.shape T) → Spelling (Enum.row T)
enum T L few = record { val = EL.val T L; tells = EL.tells T L; lawful = λ w. EL.lawful T L (W w) few }

abbrev pub number : Spelling u64
number = record { val = vint w64; tells = uint_Tells w64; lawful = λ w. uint_Lawful (W w) w64 }

abbrev slice : Bor (List ℕ) → Val
slice x = slice_val x.ref_ptr (length x.now)

abbrev mut_slice : MutBor (List ℕ) → Val
mut_slice x = slice_val x.ref_ptr (length x.now)

abbrev pub shared : (ℓ : Lifetime) (κ : Lft) → Spelling (ShrSlice ℓ κ u8)
shared ℓ κ = record { val = slice; tells = shr_slice_Tells ℓ κ u8; lawful = λ w. shr_slice_Lawful (W w) ℓ κ u8 }

abbrev pub lent : (ℓ : Lifetime) (κ : Lft) → Spelling (MutSlice ℓ κ u8)
lent ℓ κ = record { val = mut_slice; tells = mut_slice_Tells ℓ κ u8; lawful = λ w. mut_slice_Lawful (W w) ℓ κ u8 }

abbrev pub behind : (ℓ : Lifetime) (κ : Lft) (R : RattleType) → Spelling (MutRef ℓ κ R)
behind ℓ κ R = record {
  val = λ x. vptr x.ref_ptr.0 x.ref_ptr.1;
  tells = mut_Tells ℓ κ R;
  lawful = λ w. mut_Lawful (W w) ℓ κ R;
}
