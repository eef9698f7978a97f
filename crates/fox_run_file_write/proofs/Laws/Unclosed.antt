-- All that comes before the line `close`, laid part by part. There is room for each part: the file ends where the sealed bytes end, so the parts that are still
-- to be laid take more room than the bytes that are still to be moved.
-- Assumes nothing.
use mathlib.Core.Path.{◌≡◌, ap}
use mathlib.Core.List.{List}
use Prim.Native.Nat.{ℕ, ◌+◌, ◌*◌, ◌≤◌}
use native.Mathlib.Omega.{arith}
use lib.ListN.{length, drop, length-append, length-drop}
use Rattle.fox_run.proofs.Counters.{size_low}
use Rattle.fox_text.specs.Put.{Put}
use Rattle.fox_text.specs.Fields.{PutsPairs, decimal_line_text, pairs_line_text}
use Rattle.fox_text.proofs.Laws.Stores.{then}
use Rattle.fox_run_file.specs.Format.{counter_name, scans_name, close_name, key_lines, header_text, scans_text, unclosed, cut_by}
use Rattle.fox_run_file.specs.Sizes.{block_line_size, header_size, scans_size, unclosed_size, file_size, total}
use Rattle.fox_run_file.specs.Values.{sizes_of}
use Rattle.fox_run_file.proofs.Laws.Lengths.{length-header, length-scans, sizes-cut, limits, total-scans}
use Rattle.fox_run_file.proofs.Laws.Sizes.{close-line-size, header-line-sizes}
use Rattle.fox_run_file.proofs.Laws.Cut.{length_cut}
use Rattle.fox_run_file_lay.specs.Laid.{Laid, Room}
use Rattle.fox_run_file_lay.proofs.Laws.Laid.{put-laid, laid_then}
use Rattle.fox_run_file_write.specs.Ready.{FileRoom}

module _ {cipher rounds from : ℕ} {counter sizes out : List ℕ} (room : FileRoom cipher rounds counter from sizes out) where
  -- the sizes that the places below go by
  record Parts : Type 0 where
    pub whole : from + total sizes
        ≡ header_size cipher rounds + scans_size 0 sizes + length (decimal_line_text scans_name (length sizes)) + block_line_size close_name cipher
    pub within : from + total sizes ≤ length out
    pub bytes : total sizes ≤ scans_size 0 sizes
    pub header : 52 ≤ header_size cipher rounds
    pub close : 23 ≤ block_line_size close_name cipher

  parts : Parts
  unfolding file_size unclosed_size
  parts =
      let low = size_low cipher in
      record {
        whole = room.end;
        within = omega (arith, room.end, room.fits);
        bytes = total-scans 0 sizes;
        header = omega (arith, header-line-sizes cipher rounds);
        close = omega (arith, close-line-size cipher);
      }

  pub key-room : 37 ≤ length out
  key-room = let p = parts in omega (arith, p.whole, p.within, p.bytes, p.header)

  module _ {a : ℕ} {l : List ℕ} (p : Put 37 (key_lines cipher rounds) out l 0 a) where
    pub counter-room : a + (length counter_name + length counter * 2 + 1) ≤ length out
    unfolding header_size block_line_size
    counter-room = let q = parts in omega (arith, q.whole, q.within, q.bytes, p.place, room.block)

    module _ {b : ℕ} {l' : List ℕ} (q : PutsPairs counter_name counter l l' a b) where
      pub header-end : b ≡ header_size cipher rounds
      unfolding header_text
      header-end =
          omega (
            arith,
            p.place,
            q.place,
            length-append (key_lines cipher rounds) (pairs_line_text counter_name counter),
            length-header cipher rounds counter room.block,
          )

      pub header-laid : Laid 0 from (header_text cipher rounds counter) out l' b
      unfolding header_text
      header-laid =
          let end = header-end in
          let parts = parts in
          put-laid from (then p q) (omega (arith, parts.whole, parts.bytes)) (omega (arith, parts.within))

      module _ (same : length l' ≡ length out) where
        pub scans-room : Room b from sizes l'
        scans-room =
            let end = header-end in
            let known = limits cipher rounds sizes room.limits in
            let parts = parts in
            record {
              few = known.many;
              small = known.each;
              gap = omega (arith, parts.whole, parts.close);
              fits = omega (arith, parts.within);
            }

        module _ {s : ℕ} {l'' : List ℕ} (laid : Laid b (from + total sizes) (scans_text 0 (cut_by sizes (drop from l'))) l' l'' s) where
          pub scans-end : s ≡ header_size cipher rounds + scans_size 0 sizes
          scans-end =
              let cut = cut_by sizes (drop from l') in
              let within = parts.within in
              let same-sizes : sizes_of cut ≡ sizes = sizes-cut sizes (drop from l') (rw (length-drop from l') (omega arith)) in
              omega (arith, laid.place, header-end, length-scans 0 cut, ap (scans_size 0) same-sizes)

          pub number-room : s + 12 ≤ length out
          number-room = let parts = parts in omega (arith, scans-end, parts.whole, parts.within, parts.close)

          pub unclosed-laid : {m r : ℕ} {l''' : List ℕ} → length l'' ≡ length out → Put m (decimal_line_text scans_name (length sizes)) l'' l''' s r
              → Laid 0 (file_size cipher rounds sizes) (unclosed cipher rounds counter (cut_by sizes (drop from out))) out l''' r
          unfolding unclosed
          unclosed-laid again last =
              let head = header-laid in
              let parts = parts in
              let number = put-laid (from + total sizes) last (omega (arith, last.place, scans-end, parts.whole)) (omega (arith, parts.within)) in
              rw (length_cut sizes (drop from out), ← head.back, ← room.end)
              (laid_then (laid_then head laid (omega arith)) number (omega arith))
