-- `prepared::words` meets its contract: the key's schedule gives the round keys of the definition, in their order.
-- Assumes nothing.
use Rattle.std.proofs.Common.{rules, arith, List, ℕ, sym, ap, ◌∙◌, refl}
use Rattle.fox_key_schedule.proofs.Laws.Schedules.{round_keys-scheduled, scheduled-narrow}
use Rattle.fox_server_key.specs.Prepared.{in_halves, filled}
use Rattle.fox_server_key.proofs.Laws.RoundKeys.{prepared_words-64, prepared_words-128}
use Rattle.fox_server_key.proofs.prepared.words.Goals as goal

pub fill-requires : goal.fill-requires
fill-requires c = (λ e. scheduled-narrow _ _ c.of-s.result c.of-s.ensures c.if-cipher-eq64.true, search rules)

pub returns-then-cipher-eq64 : goal.returns-then-cipher-eq64
returns-then-cipher-eq64 c =
    let a = c.args in
    c.fill.ensures.one refl
    ∙ ap filled (sym (round_keys-scheduled a.cipher a.rounds a.key.now c.of-s.result c.of-s.ensures))
    ∙ sym (prepared_words-64 a.cipher a.rounds a.key.now c.if-cipher-eq64.true)

pub returns-else-cipher-eq64 : goal.returns-else-cipher-eq64
returns-else-cipher-eq64 c =
    let a = c.args in
    c.fill-else-cipher-eq64.ensures.two (λ e. absurd (omega arith))
    ∙ ap (λ (ks : List ℕ). filled (in_halves ks)) (sym (round_keys-scheduled a.cipher a.rounds a.key.now c.of-s.result c.of-s.ensures))
    ∙ sym (prepared_words-128 a.cipher a.rounds a.key.now c.if-cipher-eq64.false)
