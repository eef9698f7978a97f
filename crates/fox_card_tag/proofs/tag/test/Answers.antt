-- `tag::test` meets its contract: past the refusals the stored tag is compared with the definition's.
-- Assumes nothing.
use Rattle.std.proofs.Common.{◌≡◌, ℕ, ◌≤◌, length, take, replicate, Err, sym, refl, ◌∙◌, arith, rules, length-take}
use Rattle.std.proofs.lemmas.List.{length-replicate}
use Rattle.fox_key_schedule.specs.Schedule.{round_keys}
use Rattle.fox_refusals.proofs.Laws.Refusals.{tagged}
use Rattle.fox_refusals.proofs.Laws.Reply.{number_not_zero}
use Rattle.fox_tag.proofs.Laws.Answers.{test-refused, test_compared}
use Rattle.fox_tag.proofs.Laws.Parts.{size-most}
use Rattle.fox_card_tag.proofs.tag.test.Goals as goal

pub returns-in_err-for_tag : goal.returns-in_err-for_tag
returns-in_err-for_tag c =
    let a = c.args in
    let is : c.from_residual.result ≡ Err c.in_err-for_tag.field-0.0 = search rules in
    rw is (test-refused a.cipher a.rounds _ (round_keys a.cipher a.rounds a.key.now) a.message.now a.stored.now c.in_err-for_tag.ensures (number_not_zero _) (refl, refl))

-- the front of a buffer of 16 bytes
front-size : (n : ℕ) → n ≤ 16 → length {A = ℕ} (take n (replicate 16 0)) ≡ n
front-size n most = length-take {A = ℕ} n (replicate 16 0) ∙ omega (arith, length-replicate {A = ℕ} 16 0)

pub slice_bounds-room-end : goal.slice_bounds-room-end
slice_bounds-room-end c = omega (arith, (tagged _ _ _ _ _ _ (sym c.in_ok-for_tag.ensures)).tag, size-most c.args.cipher)

pub slice_bounds-right-end : goal.slice_bounds-right-end
slice_bounds-right-end c =
    sym (front-size _ (omega (arith, (tagged _ _ _ _ _ _ (sym c.in_ok-for_tag.ensures)).tag, size-most c.args.cipher)))

pub overflow_cast-rounds : goal.overflow_cast-rounds
overflow_cast-rounds c = record { fits = omega (arith, (tagged _ _ _ _ _ _ (sym c.in_ok-for_tag.ensures)).keyed.high) }

pub tag-requires : goal.tag-requires
tag-requires c =
    let known = tagged _ _ _ _ _ _ (sym c.in_ok-for_tag.ensures) in
    (omega (arith, known.keyed.low), known.keyed.key, front-size _ (omega (arith, known.tag, size-most c.args.cipher)) ∙ known.tag)

pub compared-requires : goal.compared-requires
compared-requires c =
    c.tag.auto.out ∙ front-size _ (omega (arith, (tagged _ _ _ _ _ _ (sym c.in_ok-for_tag.ensures)).tag, size-most c.args.cipher))

pub returns : goal.returns
returns c =
    let a = c.args in
    test_compared a.cipher a.rounds _ (round_keys a.cipher a.rounds a.key.now) a.message.now a.stored.now
    (tagged _ _ _ _ _ _ (sym c.in_ok-for_tag.ensures)) c.tag.ensures c.compared.ensures
