-- The whole file: the data sealed in the end of its room is what the scans are cut from, and the text laid over it, with its tag, is the run file; the output
-- past the file's end is as it was.
-- Assumes nothing.
use mathlib.Core.Path.{◌≡◌, sym, ap, ◌∙◌, subst}
use mathlib.Core.List.{List, ◌++◌}
use Prim.Native.Nat.{ℕ, ◌+◌, ◌-◌, ◌≤◌}
use native.Mathlib.Omega.{arith}
use lib.ListN.{length, take, drop, length-drop, take-append-drop}
use lib.Seq.{sets-eq, length-take-le, drop_at}
use borrow.Rule.Slice.PartMut.{put_mid, post_of, same_len_mid, drop_put}
use Rattle.fox_refusals.specs.Refusals.{block_size}
use Rattle.fox_refusals.specs.Answer.{Answer}
use Rattle.fox_refusals.proofs.Laws.Reply.{chosen}
use Rattle.fox_server_key.specs.Prepared.{round_keys_in}
use Rattle.fox_server_key.specs.declared.prepared.Prepared.{Prepared}
use Rattle.fox_run.specs.Run.{run_with}
use Rattle.fox_run.specs.Parts.{Ready}
use Rattle.fox_run.proofs.Laws.Served.{length-run_with}
use Rattle.fox_tag.specs.Tag.{tag_with}
use Rattle.fox_tag.proofs.Tags.{length-tag}
use Rattle.fox_text.specs.Put.{Put}
use Rattle.fox_text.specs.Fields.{PutsPairs}
use Rattle.fox_run_file.specs.Format.{close_name, cut_by, unclosed, closed_by, file_of, turned_scans, run_file}
use Rattle.fox_run_file.specs.Sizes.{block_line_size, unclosed_size, file_size, total}
use Rattle.fox_run_file.specs.Parts.{MayWrite}
use Rattle.fox_run_file.proofs.Laws.Lengths.{length-block-line, length-unclosed, sizes-cut, limits, total-within}
use Rattle.fox_run_file.proofs.Laws.Refusals.{writable}
use Rattle.fox_run_file.proofs.Laws.Cut.{cut-front, cut-turned}
use Rattle.fox_run_file_lay.specs.Laid.{Laid}
use Rattle.fox_run_file_lay.proofs.Laws.Laid.{put-laid, laid_then}
use Rattle.fox_run_file_write.specs.Ready.{FileRoom, CloseRoom, ToWrite}

-- a call that meets no refusal has all that a file is written from
pub to_write : (p : Prepared) (counter input sizes out : List ℕ) {may : Answer}
    → MayWrite p.cipher p.rounds p.key_len (length counter) (length input) sizes (length out) may → may.refusal ≡ 0
    → ToWrite p counter input sizes out may.count
to_write p counter input sizes out may none =
    let zero = sym may.refusal ∙ none in
    let known = writable _ _ _ _ _ _ _ zero in
    record {
      keyed = known.keyed;
      block = known.counter;
      limits = known.limits;
      all = known.all;
      end = may.count ∙ sym (chosen _ _ _ zero);
      fits = known.room;
    }

-- a text laid over the start of a buffer, up to where it is as the first one was, is put at the start of the first one
laid-put : {n r : ℕ} {text out mid after : List ℕ} → Laid 0 n text mid after r → r ≡ n → drop n mid ≡ drop n out → n ≤ length out
    → Put n text out after 0 r
laid-put {n} {r} {text} {out} {mid} {after} laid whole rest fits =
    let long = laid.place in
    let here : 0 + length text ≡ n = omega arith in
    let front : take n after ≡ text = rw whole at laid.front in
    record {
      place = long;
      short = omega arith;
      bytes = sym (take-append-drop n after) ∙ rw (front, laid.back, rest, sets-eq text out 0 (omega arith), here);
    }

module _ {p : Prepared} {counter input sizes out : List ℕ} {size : ℕ} (w : ToWrite p counter input sizes out size) where
  abbrev c : ℕ
  c = p.cipher

  abbrev r : ℕ
  r = p.rounds

  -- where the sealed bytes begin
  abbrev from : ℕ
  from = size - length input

  record Known : Type 0 where
    pub within : length input ≤ size
    pub few : length input ≤ 1073741824
    pub text : unclosed_size c r sizes ≤ 1073741824
    pub parts : size ≡ unclosed_size c r sizes + block_line_size close_name c
    pub fits : size ≤ length out

  known : Known
  unfolding file_size
  known =
      let few = (limits c r sizes w.limits).all in
      let bytes = total-within c r sizes in
      record {
        within = omega (arith, w.all, w.end);
        few = omega (arith, w.all);
        text = few;
        parts = w.end;
        fits = omega (arith, w.end, w.fits);
      }

  pub input-within : length input ≤ size
  input-within = known.within

  pub sealed-ready : Ready (block_size c) r counter 0 input (take (size - from) (drop from out))
  sealed-ready =
      let k = known in
      let long : length (take (size - from) (drop from out)) ≡ size - from =
      length-take-le (size - from) (drop from out) (rw (length-drop from out) (omega (arith, k.fits))) in
      record {
        some = omega (arith, w.keyed.low);
        few = w.keyed.high;
        block = w.block;
        end = omega (arith, k.few);
        output = omega (arith, k.within);
      }

  module _ {sealed : List ℕ} (run : sealed ≡ run_with c (round_keys_in p) counter 0 input) where
    -- the output with the sealed bytes in it
    abbrev mid : List ℕ
    mid = put_mid from (size - from) out sealed

    long : length sealed ≡ length input
    long = ap length run ∙ length-run_with c (round_keys_in p) counter 0 input

    mid-long : length mid ≡ length out
    mid-long = same_len_mid from (size - from) out sealed (omega (arith, long, sealed-ready.output))

    mid-rest : drop size mid ≡ drop size out
    mid-rest = let k = known in drop_put from size out sealed (omega arith) k.fits (omega (arith, long, k.within))

    scans : cut_by sizes (drop from mid) ≡ turned_scans c (round_keys_in p) counter (cut_by sizes input)
    scans =
        let k = known in
        let start : drop from mid ≡ sealed ++ post_of from (size - from) out = drop_at (take from out) _ from (length-take-le from out (omega (arith, k.fits))) in
        ap (cut_by sizes) start
        ∙ cut-front sizes sealed (post_of from (size - from) out) (omega (arith, long, w.all))
        ∙ ap (cut_by sizes) run
        ∙ sym (cut-turned c (round_keys_in p) counter sizes input (omega (arith, w.all)))

    pub file-room : FileRoom c r counter from sizes mid
    file-room =
        record { block = w.block; limits = w.limits; end = omega (arith, w.all, w.end, known.within); fits = omega (arith, mid-long, w.fits) }

    module _ {end : ℕ} {l : List ℕ} (laid : Laid 0 (file_size c r sizes) (unclosed c r counter (cut_by sizes (drop from mid))) mid l end)
        (same : length l ≡ length out) where
      text-end : end ≡ unclosed_size c r sizes
      text-end =
          let cut = cut_by sizes (drop from mid) in
          let k = known in
          let bytes : total sizes ≤ length (drop from mid) = rw (length-drop from mid) (omega (arith, mid-long, w.all, k.within, k.fits)) in
          omega (arith, laid.place, length-unclosed c r counter cut w.block, ap (unclosed_size c r) (sizes-cut sizes (drop from mid) bytes))

      pub close-room : CloseRoom p end l
      close-room =
          let k = known in
          record { keyed = w.keyed; text = omega (arith, text-end, k.text); fits = omega (arith, text-end, k.parts, k.fits) }

      pub file-put : {n : ℕ} {after : List ℕ} → PutsPairs close_name (tag_with c (round_keys_in p) (take end l)) l after end n
          → Put size (run_file c r (round_keys_in p) counter (cut_by sizes input)) out after 0 n
      unfolding run_file file_of closed_by
      file-put {n} {after} q =
          let k = known in
          let rks = round_keys_in p in
          let text = unclosed c r counter (turned_scans c rks counter (cut_by sizes input)) in
          let front : take end l ≡ text = laid.front ∙ ap (unclosed c r counter) scans in
          let line : PutsPairs close_name (tag_with c rks text) l after end n = rw front at q in
          let size-of-line = length-block-line close_name c (tag_with c rks text) (length-tag c rks text) in
          let whole : n ≡ size = omega (arith, line.place, size-of-line, text-end, k.parts) in
          let close = put-laid size line (omega arith) (omega (arith, k.fits)) in
          let laid-text : Laid 0 size text mid l end = subst (λ (m : ℕ). Laid 0 m text mid l end) (sym w.end) (rw (← scans) laid) in
          laid-put (laid_then laid-text close (omega arith)) whole mid-rest k.fits
