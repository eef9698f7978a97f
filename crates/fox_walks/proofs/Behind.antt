-- A struct behind a `&mut`, in a walk.
--     Cell, Own            the struct's cell at a place, at the type that MIR writes, and what the struct owns
--     Opened               what a walk has of a borrow while it is open
--     opened, shut         a borrow is opened, which gives `Cell` and `Own`; it is shut for good at the value that the cell then holds, and what is left of
--                          the reference says that this is its last value
--     Left, leaves         all that a promise says of a reference at its last value: that it is this, and the borrow, closed; it is shut with all that left
--     Lent                 what a walk has of a struct while it is lent
--     lends, comes_back    a struct is lent for a lifetime that is made for it; the lifetime is ended, and the struct is there again, at the reference's last
--                          value
-- It holds since the logic has these steps, at a cell of the type's raw form and at machine values that the type's relation tells.
-- Assumes nothing.
use Prim.Native.Nat.{ℕ}
use mathlib.Core.List.{List, [], ◌∷◌}
use base.Fraction.{full_share}
use mir.Syntax.{Lifetime, Ty}
use mir.Val.{Val}
use base.Fml.{Lft, GName, Share, Fml, fsep, fat, flft, fobs, fauth, fres, fbor, flent, fobor}
use types.Kit.{Goal, Item, Soaks, Seq, Step, step, ‵, ◌⊛◌, some, later, ◌$◌}
use types.Kit.{move, drop, use1, use3, split, pick, fsplit, fsplit3, fjoin, fjoin3, fpick, fpack, await}
use types.SemTy.{Body}
use types.Tokens.{lft_new, lft_end}
use borrow.Fn.World.{World}
use denote.RattleType.{RattleType}
use denote.Laws.{Is, shows}
use denote.Lend.{lends_ref, ref_back}
use denote.Memory.{mem, lone, cell_at, part_at, part_of}
use denote.Ref.{MutBor, MutRef, mut_vals}
use denote.Steps.{opens, closes, peeks}
use denote.Struct.Declared as Struct
use denote.Struct.Laws as LL
use denote.Struct.Steps.{spelt}
use Rattle.fox_walks.proofs.Spelling.{W, Typed, typed, struct}

module _ (T : Struct.Declared) (L : LL.Laws T) where
  abbrev R : RattleType
  R = Struct.row T

  abbrev layout : Ty
  layout = lone R.mir

  abbrev pub Own : T.D → Fml
  Own h = R.own_val h (LL.vals T L h)

  module _ (b o : ℕ) where
    abbrev pub Cell : T.D → Fml
    Cell h = fat full_share layout b o (LL.val T L h)

    module _ (w : World) {K : Type 0} {Γ : List (Item w.𝓤)} {G : Goal w.𝓤 w.𝓛.H} where
      -- what lies there is spelled out
      found : K → (h : T.D) (vs : List Val) → (Typed (struct T L) h → Seq K (W w) (‵ (Cell h) ∷ ‵ (Own h) ∷ Γ) G)
          → Seq K (W w) (‵ (cell_at full_share R.mir vs b o) ∷ ‵ (R.own_val h vs) ∷ Γ) G
      found t h vs k =
          spelt t R (Is R) (shows w.𝓛 R) (LL.vals T L) (LL.tells T L) full_share h vs b o $
          use1 (W w) (‵ (Cell h)) ((W w).laws.raw_at full_share layout b o (LL.val T L h)) $ move t (1 ∷ []) $
          peeks t R (Is R) (shows w.𝓛 R) h (LL.vals T L h) (λ is. move t (1 ∷ 0 ∷ []) $ k (typed (struct T L) w h (LL.vals T L h) is))

      laid : K → (h : T.D) → Step K (W w) (‵ (cell_at full_share R.mir (LL.vals T L h) b o) ∷ Γ) G (‵ (Cell h) ∷ Γ) G
      laid t h = use1 (W w) (‵ (cell_at full_share R.mir (LL.vals T L h) b o)) ((W w).laws.at_raw full_share layout b o (LL.val T L h))

  module _ (κ : Lft) (q : Share) (x : MutBor T.D) where
    abbrev b : ℕ
    b = x.ref_ptr.0

    abbrev o : ℕ
    o = x.ref_ptr.1

    abbrev pub Opened : Fml
    Opened = fsep (fobor κ q (Body (mem R) b o x.ghost_name)) (fsep (fobs x.ghost_name (R.coded.code x.now)) (fauth x.ghost_name (R.coded.code x.now)))

    abbrev pub Left : T.D → Fml
    Left h = fsep (fres x.ghost_name (R.coded.code h)) (fbor κ (Body (mem R) b o x.ghost_name))

    module _ (w : World) {K : Type 0} {Γ : List (Item w.𝓤)} {G : Goal w.𝓤 w.𝓛.H} where
      pub opened : K → Soaks G → (ℓ : Lifetime) → (Typed (struct T L) x.now → Seq K (W w) (‵ (Cell b o x.now) ∷ ‵ (Own x.now) ∷ ‵ Opened ∷ Γ) G)
          → Seq K (W w) (‵ ((MutRef ℓ κ R).own_val x (mut_vals x)) ∷ ‵ (flft κ q) ∷ Γ) G
      opened t z ℓ k =
          fsplit3 t $ drop t $ opens t z R {h = x.now} b o (λ vs. move t (2 ∷ 3 ∷ 4 ∷ []) $ fjoin3 t $ move t (1 ∷ 2 ∷ []) $ found b o w t x.now vs k)

      pub leaves : K → Soaks G → (h : T.D) → Step K (W w) (‵ (Left h) ∷ ‵ (flft κ q) ∷ Γ) G (‵ (Cell b o h) ∷ ‵ (Own h) ∷ ‵ Opened ∷ Γ) G
      leaves t z h = step (λ s.
          laid b o w t h $ move t (2 ∷ []) $ fsplit3 t $ move t (3 ∷ 4 ∷ []) $ closes t z R h (LL.vals T L h) b o $
          use1 (W w) (‵ (fres x.ghost_name (R.coded.code h))) ((W w).names.obs-res x.ghost_name (R.coded.code h)) $ fjoin t $ s)

      pub shut : K → Soaks G → (h : T.D)
          → Step K (W w) (‵ (fres x.ghost_name (R.coded.code h)) ∷ ‵ (flft κ q) ∷ Γ) G (‵ (Cell b o h) ∷ ‵ (Own h) ∷ ‵ Opened ∷ Γ) G
      shut t z h = step (λ s. leaves t z h $ fsplit t $ move t (1 ∷ []) $ drop t $ s)

  module _ (b o : ℕ) where
    abbrev ref : GName → T.D → MutBor T.D
    ref γ h = record { ref_ptr = (b, o); ghost_name = γ; now = h }

    abbrev pub Lent : ℕ → GName → Fml
    Lent ν γ = flent (ν ∷ []) (Body (mem R) b o γ)

    module _ (w : World) {K : Type 0} {Γ : List (Item w.𝓤)} {G : Goal w.𝓤 w.𝓛.H} where
      pub lends : K → Soaks G → (ℓ : Lifetime) (h : T.D)
          → ((ν : ℕ) (γ : GName)
          → Seq K (W w) (‵ ((MutRef ℓ (ν ∷ []) R).own_val (ref γ h) (mut_vals (ref γ h))) ∷ ‵ (flft (ν ∷ []) full_share) ∷ ‵ (Lent ν γ) ∷ Γ) G)
          → Seq K (W w) (‵ (Cell b o h) ∷ ‵ (Own h) ∷ Γ) G
      unfolding part_of
      lends t z ℓ h k =
          laid b o w t h $ fjoin t $ fpack t (List Val) (λ us. fsep (cell_at full_share R.mir us b o) (R.own_val h us)) (LL.vals T L h) $
          lft_new t z (λ ν. move t (1 ∷ []) $
          use1 (W w) (later (some (λ (γ : GName). ‵ ((MutRef ℓ (ν ∷ []) R).own_val (ref γ h) (mut_vals (ref γ h))) ⊛ ‵ (Lent ν γ))))
          (lends_ref (W w) R ℓ (ν ∷ []) h b o) $ await t z $ pick t (λ γ. split t $ move t (0 ∷ 2 ∷ []) $ k ν γ))

      pub comes_back : K → Soaks G → (ν : ℕ) (γ : GName) (h : T.D) → (Typed (struct T L) h → Seq K (W w) (‵ (Cell b o h) ∷ ‵ (Own h) ∷ Γ) G)
          → Seq K (W w) (‵ (flft (ν ∷ []) full_share) ∷ ‵ (Lent ν γ) ∷ ‵ (fres γ (R.coded.code h)) ∷ Γ) G
      unfolding part_of
      comes_back t z ν γ h k =
          lft_end t z $ use3 (W w) (later (‵ (part_at R full_share h b o))) (ref_back (W w) R (ν ∷ []) γ h b o) $ await t z $
          fpick t (λ vs. fsplit t $ found b o w t h vs k)
