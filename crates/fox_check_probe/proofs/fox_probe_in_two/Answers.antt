-- `fox_probe_in_two` meets its contract: the count follows from the number that is returned.
-- Assumes nothing.
use Rattle.fox_refusals.proofs.Laws.Reply.{handed-reply, reply_handed}
use Rattle.fox_check_probe.specs.Unpacked.{asks_to_seal}
use Rattle.fox_check_probe.proofs.fox_probe_in_two.Goals as goal

pub returns : goal.returns
unfolding asks_to_seal
returns c =
    let done = c.turn_in_two.ensures in
    rw c.number_in.ensures (record { reply = handed-reply (reply_handed _ done.reply); kept = done.kept })
