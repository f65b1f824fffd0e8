-- Three lent slices of sevens, and what is in them after.
use Rattle.demodulator.specs.View.{view_of}
use Rattle.account.proofs.Running.{lent, left, together, takes}
use Rattle.account.proofs.call.take.Goals as goal

pub returns : goal.returns
returns c =
    let a = c.sevens-a.ensures in
    let b = c.sevens-b.ensures in
    let d = c.sevens-c.ensures in
    let ka = c.min-full.ensures in
    let kb = c.min-first.ensures in
    let kd = c.min-second.ensures in
    let e = c.take_demodulated_slot-taken.ensures in
    let kept = c.take_demodulated_slot-taken.auto in
    takes (view_of c.args.receiver.now) (lent _ _ _ a ka) (lent _ _ _ b kb) (lent _ _ _ d kd) e.answer e.receiver e.lent c.take_row.ensures
    (together c.joined.ensures (left _ _ _ a ka _ kept.slot) (left _ _ _ b kb _ kept.subslot1) (left _ _ _ d kd _ kept.subslot2))
