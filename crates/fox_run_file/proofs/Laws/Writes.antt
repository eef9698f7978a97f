-- The answer of a call that writes a text, from its parts: where it is refused, and where the text was put at the start of the output.
-- Assumes nothing.
use mathlib.Core.Path.{◌≡◌, sym, ◌∙◌}
use mathlib.Core.List.{List}
use Prim.Native.Nat.{ℕ}
use native.Mathlib.Omega.{arith}
use lib.ListN.{length}
use lib.Seq.{sets}
use Rattle.fox_refusals.specs.Refusals.{Refusal, refusal_of}
use Rattle.std.specs.Prelude.{Ok, Err}
use Rattle.fox_refusals.specs.Answer.{number_of, answer_of}
use Rattle.fox_refusals.specs.declared.refusal.Refusal as code
use Rattle.fox_refusals.proofs.Laws.Reply.{number_not_zero, chosen, passed_over}
use Rattle.fox_text.specs.Put.{Put}
use Rattle.fox_run_file.specs.Promise.{Writes}

pub refused-writes : {rs : List Refusal} {text before : List ℕ} (e : code.Refusal) → number_of e ≡ refusal_of rs
    → Writes rs text before before (answer_of (Err e))
refused-writes {rs} {text} {before} e is =
    let isnt : refusal_of rs ≡ 0 → ⊥ = λ z. number_not_zero e (is ∙ z) in
    record {
      refusal = is;
      count = passed_over (refusal_of rs) (length text) 0 isnt;
      output = passed_over (refusal_of rs) (sets before 0 text) before isnt;
    }

pub served-writes : {rs : List Refusal} {text before after : List ℕ} {m n : ℕ} → refusal_of rs ≡ 0 → Put m text before after 0 n
    → Writes rs text before after (answer_of (Ok n))
served-writes {rs} {text} {before} {n = n} none put =
    let count : n ≡ length text = omega (arith, put.place) in
    record {
      refusal = sym none;
      count = count ∙ chosen (refusal_of rs) (length text) 0 none;
      output = put.bytes ∙ chosen (refusal_of rs) (sets before 0 text) before none;
    }
