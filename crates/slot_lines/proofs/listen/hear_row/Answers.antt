-- By why the feed took no more samples.
use Rattle.std.proofs.Common.{refl}
use Rattle.receiver.specs.Feed.{stopped}
use Rattle.slot_lines.specs.Blocks.{stretch_by, step_made}
use Rattle.slot_lines.proofs.Steps.{fed_made, slot_made}
use Rattle.slot_lines.proofs.listen.hear_row.Goals as goal

pub returns-in-End : goal.returns-in-End
unfolding stretch_by step_made stopped
returns-in-End c = let e = c.feed-fed.ensures in fed_made c.args.style _ _ _ e.taken (rw c.in-End.is at e.stop) e.receiver

pub returns-in-Slot : goal.returns-in-Slot
unfolding stretch_by step_made stopped
returns-in-Slot c =
    let e = c.feed-fed.ensures in
    let t = c.take_line.ensures in
    slot_made c.args.style _ _ _ e.taken (rw c.in-Slot.is at e.stop) e.receiver refl (t.line _ _ _) (t.receiver _ _ _)

pub returns-in-Refused : goal.returns-in-Refused
unfolding stretch_by step_made stopped
returns-in-Refused c = let e = c.feed-fed.ensures in fed_made c.args.style _ _ _ e.taken (rw c.in-Refused.is at e.stop) e.receiver
