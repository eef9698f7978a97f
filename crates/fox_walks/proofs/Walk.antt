-- What walks of functions that require nothing have in common: how a walk begins, a call in it, how locals are read and freed, and how it ends.
--     Said             a function's contract, at every model.        Promised     the same as whoever calls the function has it, at one
--     Goes, walks      a walk of a function's MIR where what its triple binds outside is y, and how it begins
--     closes           a function meets its contract wherever it is wired, from its walks at the machine values that its arguments spell
--     Callee, asks     a function that is proved wherever it is wired, and a call of one. The tokens and what the arguments own go to it. Once it has returned
--                      there is a result, spelled out, the tokens are back, and what it ensures holds
--     local, part      a local is read; a field of one is read.        freed     a local is freed, whatever it holds
--     hears            a fact that a callee ensures is learned.        told     there are last values, with what is said of them and of the result
--     so, so-first     what one function ensures gives what another ensures; the same where the walk says the last value of the first parameter itself, and the
--                      callee says nothing of its own first parameter
--     at_last, outright    a function ensures what is had at some last values; a function ensures what is shown
--     ends             a walk ends at a result, the tokens and what gives all that is ensured
-- A promise says nothing of a parameter but the last value of a `&mut`, beside its borrow, closed, and a callee that a `&mut` goes to says that in its own
-- promise. So what is owned of the parameters is let go, and none has to be had at exit.
-- Assumes nothing.
use mathlib.Core.Path.{◌≡◌, refl, sym, ap, subst}
use Prim.Native.Nat.{ℕ, zero, ◌+◌}
use mathlib.Core.List.{List, [], ◌∷◌}
use mathlib.Core.Option.{some as found}
use seplogic.Ra.Ura.{Ura}
use base.Fraction.{full_share}
use mir.Syntax.{Sym, Ty, Tys, ty_struct, Place, place, field, Opd as Operand, copy, Body, seq, call, Fn}
use mir.Val.{Val, Vals, vstruct}
use mir.Fields.{get_v, set_v}
use base.Logic.{SProp, ent, sep, emp, id⊢, via, fst∗, snd∗, mono∗, emp∗, ex_i, ex_e}
use base.Fml.{Share, Fml, ftrue, fsep, fat, fdies}
use prog.Memory.{Memory, field_at}
use prog.Model.{Model}
use prog.Routine.{Callee as Name, Routine}
use prog.Wired.{Code, Wired}
use prog.Wp.{Env, Calls, Loops, Closed, WpFn, Spot, spot_of}
use types.Logic.{Logic}
use contract.Lifetimes.{Lfts}
use contract.Monad.{Fun, fact}
use contract.Running.{Running, tables}
use types.Kit.{Item, ‵, raw, ◌⊛◌, some, later, mean, nth, Post, at_ret, Goal, prop, runs, lands, allocs, params', frees, Go, Seq, Step, step}
use types.Kit.{◌$◌, ◌∵◌, !, qed, by, move, drop, use0, use1, split, join, pick, rewrite, fsplit, fjoin, await, updating, now as at_once, show, done}
use types.Part.{Part, whole, sub, look_in}
use types.Run.{Walks, Opd, Opds, look, forget, stop, fld, from, load, enter, free1}
use borrow.Fn.World.{World, Pr}
use denote.RattleType.{RattleType, flat, owns}
use denote.Laws.{Is, valss, shows}
use denote.Signature.{Signature, type_at, types_at}
use denote.Steps.{only, said, peeks, heard}
use denote.Triple.Call.{calls_at}
use denote.Triple.Statement.{Contract, Triple}
use denote.Triple.Clauses.{Ended, Clauses, Lasts, lasts, at_exit, ensured, closing}
use denote.Triple.Entry.{Res, alive}
use denote.Triple.Spec.{triple_of}
use denote.Triple.Table.{entered, framed}
use Rattle.fox_walks.proofs.Spelling.{W, Spelling, Typed, typed, Spellings, spells, tellss, AllTyped, all_typed}

pub record Said : Type 2 where
  pub ended : Ended
  pub clauses : {M : Type 1} {𝓤 : Ura M} (𝓛 : Logic 𝓤) → (Memory → SProp 𝓤) → (Routine → Fun 𝓤) → Clauses 𝓤 ended

module _ (w : World) where
  abbrev pub meaning : Item w.𝓤 → Pr w
  meaning = mean w.𝓛

  -- the tables over which a function's MIR is read, in the environment of the model
  abbrev C : Calls w.𝓤 w.𝓛.H
  C = (tables w.𝓤 w.𝓛.H w.𝓜 w.𝓡 w.𝓡.env).C

  abbrev Λ : Loops w.𝓤 w.𝓛.H
  Λ = (tables w.𝓤 w.𝓛.H w.𝓜 w.𝓡 w.𝓡.env).Λ

  module _ (F : Said) where
    abbrev S : Signature
    S = F.ended.signature

    abbrev clauses_at : Clauses w.𝓤 F.ended
    clauses_at = F.clauses w.𝓛 w.𝓜.mem w.𝓡.returns

    abbrev pub Promised : Contract w.𝓤
    Promised = triple_of w.𝓛 S (closing w.𝓛 F.ended clauses_at)

    module _ (y : Promised.Ghost) where
      abbrev pub tokens : Item w.𝓤
      tokens = raw (alive w.𝓛 S y.0.0 y.0.1)

      abbrev pub args : Item w.𝓤
      args = ‵ (owns (types_at S.params y.0.0) y.0.3 y.0.4)

      abbrev pub result : Res S y.0.0 → Val → Item w.𝓤
      result r u = ‵ ((type_at S.result y.0.0).own_val r (u ∷ []))

      -- that ws are the last values, what is said of them and the result, and that there are such
      abbrev pub Last : Type 0
      Last = Lasts F.ended y.0.0 y.0.3

      abbrev pub lastly : Last → Item w.𝓤
      lastly ws = ‵ (lasts F.ended y.0.0 y.0.3 ws)

      abbrev pub says : Res S y.0.0 → Last → Pr w
      says r ws = (clauses_at y.0.0 y.0.3).ensures y.1 r (at_exit F.ended y.0.0 y.0.3 ws)

      abbrev pub ensures : Res S y.0.0 → Item w.𝓤
      ensures r = raw (ensured w.𝓛 F.ended clauses_at y.0.0 y.0.3 y.1 r)

      module _ (e : Fn) where
        abbrev pub Goes : Type 1
        Goes = ent w.𝓤 (meaning (tokens ⊛ args)) (WpFn w.𝓤 w.𝓛.H C Λ e (Promised.args y) (Promised.post y))

        pub walks : Seq (Go {0}) (W w) (tokens ∷ args ∷ [])
            (allocs e.locals (λ E. params' E (Promised.args y) (runs C Λ E e.body (at_ret E (Promised.post y)))))
            → Goes
        walks s = qed (W w) (tokens ∷ args ∷ []) ∵ enter ! C Λ e (Promised.args y) (Promised.post y) $ s

module _ (F : Said) (ss : (κs : Lfts F.ended.signature.lifetimes) → Spellings (types_at F.ended.signature.params κs))
    (k : Name) (e : Fn) (code : Code) where
  abbrev Rs : Lfts F.ended.signature.lifetimes → List RattleType
  Rs κs = types_at F.ended.signature.params κs

  -- what a function's triple binds outside, at the machine values that its arguments spell
  abbrev spelled : (w : World) (y : (Promised w F).Ghost) → (Promised w F).Ghost
  spelled w y = ((y.0.0, y.0.1, y.0.2, y.0.3, valss (Rs y.0.0) (spells (Rs y.0.0) (ss y.0.0)) y.0.3), y.1)

  pub closes : ((w : World) → Wired w.𝓡.env code → Closed w.𝓤 w.𝓛.H (C w) (Λ w) k e)
      → ((w : World) → Wired w.𝓡.env code → (y : (Promised w F).Ghost) → AllTyped (Rs y.0.0) (ss y.0.0) y.0.3 → Goes w F (spelled w y) e)
      → {M : Type 1} (𝓤 : Ura M) (𝓛 : Logic 𝓤) (𝓜 : Model 𝓤 𝓛.H) (𝓡 : Running 𝓤 𝓛.H 𝓜) → Wired 𝓡.env code
      → Triple 𝓤 (𝓡.run (𝓡.env k)) (Promised (record { M = M; 𝓤 = 𝓤; 𝓛 = 𝓛; 𝓜 = 𝓜; 𝓡 = 𝓡 }) F)
  closes closed walk {M} 𝓤 𝓛 𝓜 𝓡 wired =
      let w : World = record { M = M; 𝓤 = 𝓤; 𝓛 = 𝓛; 𝓜 = 𝓜; 𝓡 = 𝓡 } in
      entered 𝓤 𝓛.H (Promised w F) (C w) (Λ w) k e (closed w wired) (λ y.
      via 𝓤 (meaning w (tokens w F y ⊛ args w F y)) (fst∗ 𝓤 _ ((clauses_at w F y.0.0 y.0.3).requires y.1))
      (said 𝓛 F.ended.signature y.0.0 y.0.1 (spells (Rs y.0.0) (ss y.0.0)) (tellss (Rs y.0.0) (ss y.0.0)) y.0.3
      (λ us. WpFn 𝓤 𝓛.H (C w) (Λ w) e (flat (Rs y.0.0) us) ((Promised w F).post ((y.0.0, y.0.1, y.0.2, y.0.3, us), y.1))) y.0.4
      (λ are. walk w wired y (all_typed w (Rs y.0.0) (ss y.0.0) y.0.3 are))))

pub record Callee : Type 2 where
  pub says : Said
  pub spells : (κs : Lfts says.ended.signature.lifetimes) → Spelling (type_at says.ended.signature.result κs)
  pub name : Name
  pub code : Code
  pub met : (w : World) → Wired w.𝓡.env code → Triple w.𝓤 (w.𝓡.run (w.𝓡.env name)) (Promised w says)
  pub free : (w : World) (y : (Promised w says).Ghost) → ent w.𝓤 (emp w.𝓤) ((clauses_at w says y.0.0 y.0.3).requires y.1)

module _ (w : World) (G : Callee) (y : (Promised w G.says).Ghost) (wired : Wired w.𝓡.env G.code) where
  abbrev R : RattleType
  R = type_at G.says.ended.signature.result y.0.0

  abbrev spell : R.Denot → Val
  spell = (G.spells y.0.0).val

  module _ {K : Type 0} where
    -- the call has returned u, which is stored in d
    returned : K → {Γ : List (Item w.𝓤)} {E : Env w.𝓤 w.𝓛.H} {d : Place} {rest : Body} {q : Post w.𝓤 w.𝓛.H} (u : Val)
        → ((r : R.Denot) → Typed (G.spells y.0.0) r
        → Seq K (W w) (result w G.says y r (spell r) ∷ tokens w G.says y ∷ ensures w G.says y r ∷ Γ) (lands (C w) (Λ w) E d (spell r) rest q))
        → Seq K (W w) (raw ((Promised w G.says).post y u) ∷ Γ) (lands (C w) (Λ w) E d u rest q)
    returned t {Γ} {E} {d} {rest} {q} u k =
        use1 (W w) (later (some (λ (r : R.Denot). (tokens w G.says y ⊛ result w G.says y r u) ⊛ ensures w G.says y r))) (id⊢ w.𝓤 _) $
        await t tt $ pick t (λ r. split t $ split t $ move t (1 ∷ []) $ peeks t R (Is R) (shows w.𝓛 R) r (u ∷ []) (λ is.
        subst (λ (v : Val). Seq K (W w) (result w G.says y r v ∷ tokens w G.says y ∷ ensures w G.says y r ∷ Γ) (lands (C w) (Λ w) E d v rest q))
        (sym (ap only ((G.spells y.0.0).tells r (u ∷ []) is))) (k r (typed (G.spells y.0.0) w r (u ∷ []) is))))

    pub asks : K → {Γ : List (Item w.𝓤)} {E : Env w.𝓤 w.𝓛.H} {xs : List Operand} {d : Place} {rest : Body} {q : Post w.𝓤 w.𝓛.H}
        → Opds K (W w) (raw ((Promised w G.says).pre y) ∷ Γ) E xs ((Promised w G.says).args y)
        → ((r : R.Denot) → Typed (G.spells y.0.0) r
        → Seq K (W w) (result w G.says y r (spell r) ∷ tokens w G.says y ∷ ensures w G.says y r ∷ Γ) (lands (C w) (Λ w) E d (spell r) rest q))
        → Seq K (W w) (tokens w G.says y ∷ args w G.says y ∷ Γ) (runs (C w) (Λ w) E (seq (call G.name xs d) rest) q)
    asks t os k =
        join t $ use0 (W w) (raw ((clauses_at w G.says y.0.0 y.0.3).requires y.1)) (G.free w y) $ move t (1 ∷ 0 ∷ []) $ join t $
        use1 (W w) (raw ((Promised w G.says).pre y)) (id⊢ w.𝓤 _) $
        calls_at t (framed w.𝓤 w.𝓛.H w.𝓜 (tables w.𝓤 w.𝓛.H w.𝓜 w.𝓡 w.𝓡.env)) (Promised w G.says) (G.met w wired) y os (λ u. returned t u k)

module _ (w : World) (F : Said) (y : (Promised w F).Ghost) (r : Res F.ended.signature y.0.0) where
  module _ {K : Type 0} where
    pub ends : (u : Val) (i : Item w.𝓤) → ent w.𝓤 (meaning w i) (meaning w (ensures w F y r))
        → Seq K (W w) (i ∷ result w F y r u ∷ tokens w F y ∷ []) (prop ((Promised w F).post y u))
    ends u i h = record {
      prf = qed (W w) (i ∷ result w F y r u ∷ tokens w F y ∷ []) ∵ use1 (W w) (ensures w F y r) h $ updating ! $ at_once ! $
          show ! (λ (r' : Res F.ended.signature y.0.0). meaning w ((tokens w F y ⊛ result w F y r' u) ⊛ ensures w F y r')) r $
          move ! (2 ∷ 1 ∷ []) $ join ! $ done !;
    }

    pub hears : (φ : Type 0) → ((ws : Last w F y) → ent w.𝓤 (says w F y r ws) (fact w.𝓤 φ)) → K
        → {Γ : List (Item w.𝓤)} {G : Goal w.𝓤 w.𝓛.H} → (φ → Seq K (W w) Γ G) → Seq K (W w) (ensures w F y r ∷ Γ) G
    hears φ h t k =
        use1 (W w) (raw (fact w.𝓤 φ)) (ex_e w.𝓤 _ (λ ws. via w.𝓤 (says w F y r ws) (snd∗ w.𝓤 (meaning w (lastly w F y ws)) _) (h ws))) $ heard t φ k

    pub told : K → {Γ : List (Item w.𝓤)} {G : Goal w.𝓤 w.𝓛.H} → ((ws : Last w F y) → Seq K (W w) (lastly w F y ws ∷ raw (says w F y r ws) ∷ Γ) G)
        → Seq K (W w) (ensures w F y r ∷ Γ) G
    told t k = use1 (W w) (some (λ (ws : Last w F y). lastly w F y ws ⊛ raw (says w F y r ws))) (id⊢ w.𝓤 _) $ pick t (λ ws. split t $ k ws)

  pub at_last : (ws : Last w F y) → ent w.𝓤 (sep w.𝓤 (meaning w (lastly w F y ws)) (says w F y r ws)) (meaning w (ensures w F y r))
  at_last ws = ex_i w.𝓤 (λ (vs : Last w F y). sep w.𝓤 (meaning w (lastly w F y vs)) (says w F y r vs)) ws

  pub outright : (ws : Last w F y) → ent w.𝓤 (emp w.𝓤) (meaning w (lastly w F y ws)) → ent w.𝓤 (emp w.𝓤) (says w F y r ws)
      → ent w.𝓤 (emp w.𝓤) (meaning w (ensures w F y r))
  outright ws l e = via w.𝓤 _ (via w.𝓤 _ (emp∗ w.𝓤 (emp w.𝓤)) (mono∗ w.𝓤 l e)) (at_last ws)

module _ (w : World) (F G : Said) (y : (Promised w F).Ghost) (z : (Promised w G).Ghost)
    (r : Res F.ended.signature y.0.0) (s : Res G.ended.signature z.0.0) where
  pub so : (last : Last w G z → Last w F y)
      → ((ws : Last w G z) → ent w.𝓤 (meaning w (lastly w G z ws)) (meaning w (lastly w F y (last ws))))
      → ((ws : Last w G z) → ent w.𝓤 (says w G z s ws) (says w F y r (last ws))) → ent w.𝓤 (meaning w (ensures w G z s)) (meaning w (ensures w F y r))
  so last l e = ex_e w.𝓤 _ (λ ws. via w.𝓤 _ (mono∗ w.𝓤 (l ws) (e ws)) (at_last w F y r (last ws)))

  pub so-first : (P : Fml) {Q : Last w G z → Fml} (last : Last w G z → Last w F y)
      → ((ws : Last w G z) → lasts G.ended z.0.0 z.0.3 ws ≡ fsep ftrue (Q ws))
      → ((ws : Last w G z) → lasts F.ended y.0.0 y.0.3 (last ws) ≡ fsep P (Q ws))
      → ((ws : Last w G z) → ent w.𝓤 (says w G z s ws) (says w F y r (last ws)))
      → ent w.𝓤 (meaning w (‵ P ⊛ ensures w G z s)) (meaning w (ensures w F y r))
  so-first P last g f e =
      qed (W w) ((‵ P ⊛ ensures w G z s) ∷ []) ∵ split ! $ move ! (1 ∷ []) $ told w G z s ! (λ ws.
      rewrite ! 0 ‵ (g ws) refl $ fsplit ! $ drop ! $ move ! (2 ∷ 0 ∷ []) $ fjoin ! $ rewrite ! 0 ‵ (sym (f ws)) refl $ move ! (1 ∷ []) $
      use1 (W w) (raw (says w F y r (last ws))) (e ws) $ move ! (1 ∷ 0 ∷ []) $ by ! (at_last w F y r (last ws)))

module _ {M : Type 1} {𝓤 : Ura M} {𝓛 : Logic 𝓤} {K : Type 0} {Γ : List (Item 𝓤)} {E : Env 𝓤 𝓛.H} where
  open 𝓛 use {H}

  pub local : K → {i : ℕ} (n : ℕ) {q : Share} {v : Val} → nth 𝓛 n Γ ≡ ‵ (fat q (spot_of 𝓤 H E i).0 (spot_of 𝓤 H E i).1 (spot_of 𝓤 H E i).2 v)
      → Opd K 𝓛 Γ E (copy (place i [])) v
  local t n e = load t (from t (stop t)) (look t n e)

  pub part : K → {i k : ℕ} (n : ℕ) {q : Share} {ν : Sym} {τs : Tys} {b : ℕ} {vs : Vals} {τ : Ty} {d : ℕ}
      → nth 𝓛 n Γ ≡ ‵ (fat q (ty_struct ν τs) b zero (vstruct vs)) → spot_of 𝓤 H E i ≡ (ty_struct ν τs, b, zero) → field_at zero τs k ≡ found (τ, d)
      → Opd K 𝓛 Γ E (copy (place i (field k ∷ []))) (get_v vs k)
  part t {i} {k} n {q} {ν} {τs} {b} {vs} {τ} {d} at spot f =
      load t (from t (subst (λ (sp : Spot 𝓤 H). Walks K 𝓛 Γ E sp (field k ∷ []) (τ, b, zero + d)) (sym spot) (fld t f (stop t))))
      (look_in t n (subst (λ (j : Item 𝓤). Part K 𝓛 j q τ b (zero + d) (get_v vs k) (λ u. ‵ (fat q (ty_struct ν τs) b zero (vstruct (set_v vs k u))))) (sym at)
      (sub t k f (whole t))))

  pub freed : K → {τ : Ty} {b : ℕ} {v : Val} {g : Goal 𝓤 H} → Step K 𝓛 Γ (frees E g) (‵ (fat full_share τ b zero v) ∷ ‵ (fdies τ b) ∷ Γ) (frees ((τ, b) ∷ E) g)
  freed t = step (λ s. forget t 0 refl $ free1 t $ s)
