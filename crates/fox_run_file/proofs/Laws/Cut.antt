-- Data cut into scans: how many there are, that bytes after the last scan do not count, and that cutting and sealing change places, since each scan is sealed
-- from its own place in the run.
-- Assumes nothing.
use mathlib.Core.Path.{◌≡◌, refl, sym, ap, ◌∙◌}
use mathlib.Core.List.{List, [], ◌∷◌, ◌++◌, flatten}
use Prim.Native.Nat.{ℕ, suc, ◌+◌, ◌≤◌}
use native.Mathlib.Omega.{arith}
use lib.ListN.{length, take, drop, length-append, length-drop, take-append-drop}
use lib.Seq.{length-take-le, take-append-le, drop-append-le, take-append_seam, drop-append_seam, take_at, drop_at}
use Rattle.fox_run.specs.Run.{run_with}
use Rattle.fox_run.specs.Cuts.{each_alone}
use Rattle.fox_run.proofs.Stretches.{run-append}
use Rattle.fox_run.proofs.Laws.Served.{length-run_with}
use Rattle.fox_run_file.specs.Format.{turned_scans, cut_by}
use Rattle.fox_run_file.specs.Sizes.{total}
use Rattle.fox_run_file.specs.Values.{sizes_of}

pub length_cut : (sizes input : List ℕ) → length (cut_by sizes input) ≡ length sizes
unfolding cut_by
length_cut [] input = refl
length_cut (n ∷ ns) input = ap suc (length_cut ns (drop n input))

pub cut-front : (sizes input rest : List ℕ) → total sizes ≤ length input → cut_by sizes (input ++ rest) ≡ cut_by sizes input
unfolding total cut_by
cut-front [] input rest h = refl
cut-front (n ∷ ns) input rest h =
    rw (take-append-le n input rest (omega arith), drop-append-le n input rest (omega arith))
    (ap (λ (ss : List (List ℕ)). take n input ∷ ss) (cut-front ns (drop n input) rest (omega (arith, length-drop n input))))

module _ (cipher : ℕ) (rks counter : List ℕ) where
  cut-alone : (k : ℕ) (sizes input : List ℕ) → total sizes ≤ length input
      → each_alone (run_with cipher rks counter) k (cut_by sizes input) ≡ cut_by sizes (run_with cipher rks counter k input)
  unfolding total cut_by each_alone
  cut-alone k [] input h = refl
  cut-alone k (n ∷ ns) input h =
      let first = take n input in
      let size : length first ≡ n = length-take-le n input (omega arith) in
      let run = run_with cipher rks counter in
      let sealed : length (run k first) ≡ n = length-run_with cipher rks counter k first ∙ size in
      let split : run k input ≡ run k first ++ run (k + n) (drop n input) =
      ap (run k) (sym (take-append-drop n input))
      ∙ run-append cipher rks counter k first (drop n input)
      ∙ ap (λ (m : ℕ). run k first ++ run (k + m) (drop n input)) size in
      rw (split, take_at (run k first) (run (k + n) (drop n input)) n sealed, drop_at (run k first) (run (k + n) (drop n input)) n sealed, size)
      (ap (λ (ss : List (List ℕ)). run k first ∷ ss) (cut-alone (k + n) ns (drop n input) (omega (arith, length-drop n input))))

  pub cut-turned : (sizes input : List ℕ) → total sizes ≤ length input
      → turned_scans cipher rks counter (cut_by sizes input) ≡ cut_by sizes (run_with cipher rks counter 0 input)
  unfolding turned_scans
  cut-turned sizes input h = cut-alone 0 sizes input h

-- scans joined, and cut again by their lengths
pub total-joined : (ss : List (List ℕ)) → total (sizes_of ss) ≡ length (flatten ss)
unfolding total sizes_of flatten
total-joined [] = refl
total-joined (s ∷ ss) = omega (arith, total-joined ss, length-append s (flatten ss))

pub cut_again : (ss : List (List ℕ)) → cut_by (sizes_of ss) (flatten ss) ≡ ss
unfolding cut_by sizes_of flatten
cut_again [] = refl
cut_again (s ∷ ss) = rw (take-append_seam s (flatten ss), drop-append_seam s (flatten ss), cut_again ss)
