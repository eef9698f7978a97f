-- Scans sealed or opened one by one: turned twice they are the scans again, and each is turned from its own place in the run on, after the bytes of those
-- before it, since the key stream leaves their lengths as they are.
-- Assumes nothing.
use mathlib.Core.Path.{◌≡◌, refl, sym, ap, ◌∙◌}
use mathlib.Core.List.{List, [], ◌∷◌, flatten}
use Prim.Native.Nat.{ℕ, zero, suc, ◌+◌}
use native.Mathlib.Nat.{add-zero, add_assoc}
use native.Mathlib.Omega.{arith}
use lib.ListN.{length, take, drop, get_or}
use lib.Seq.{take-append_seam, drop-append-add}
use Rattle.fox_run.specs.Run.{xor_from, run_with}
use Rattle.fox_run.specs.Cuts.{each_alone}
use Rattle.fox_run.proofs.Laws.Served.{length-run_with}
use Rattle.fox_run.proofs.Runs.{run-twice}
use Rattle.fox_run_file.specs.Format.{turned_scans}
use Rattle.fox_run_file.specs.Values.{offset_of}

module _ (cipher : ℕ) (rks counter : List ℕ) where
  abbrev turned : ℕ → List ℕ → List ℕ
  turned n s = run_with cipher rks counter n s

  twice-alone : (n : ℕ) (ss : List (List ℕ)) → each_alone turned n (each_alone turned n ss) ≡ ss
  unfolding each_alone
  twice-alone n [] = refl
  twice-alone n (s ∷ ss) = rw (run-twice cipher rks counter n s, length-run_with cipher rks counter n s, twice-alone (n + length s) ss)

  pub turned-twice : (ss : List (List ℕ)) → turned_scans cipher rks counter (turned_scans cipher rks counter ss) ≡ ss
  unfolding turned_scans
  turned-twice ss = twice-alone 0 ss

  alone_at : (n k : ℕ) (ss : List (List ℕ)) → get_or (each_alone turned n ss) k [] ≡ turned (n + offset_of k ss) (get_or ss k [])
  unfolding each_alone offset_of run_with xor_from
  alone_at n zero [] = refl
  alone_at n (suc k) [] = refl
  alone_at n zero (s ∷ ss) = ap (λ (m : ℕ). turned m s) (sym (add-zero n))
  alone_at n (suc k) (s ∷ ss) =
      alone_at (n + length s) k ss ∙ ap (λ (m : ℕ). turned m (get_or ss k [])) (add_assoc n (length s) (offset_of k ss))

  pub turned-at : (k : ℕ) (ss : List (List ℕ)) → get_or (turned_scans cipher rks counter ss) k [] ≡ turned (offset_of k ss) (get_or ss k [])
  unfolding turned_scans
  turned-at k ss = alone_at 0 k ss ∙ ap (λ (m : ℕ). turned m (get_or ss k [])) (omega arith)

-- a scan is that part of all scans joined
pub scan-joined : (k : ℕ) (ss : List (List ℕ)) → get_or ss k [] ≡ take (length (get_or ss k [])) (drop (offset_of k ss) (flatten ss))
unfolding offset_of flatten
scan-joined k [] = refl
scan-joined zero (s ∷ ss) = sym (take-append_seam s (flatten ss))
scan-joined (suc k) (s ∷ ss) =
    scan-joined k ss ∙ ap (λ (t : List ℕ). take (length (get_or ss k [])) t) (sym (drop-append-add s (flatten ss) (offset_of k ss)))
