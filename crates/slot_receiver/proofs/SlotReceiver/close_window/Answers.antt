-- By its two parts.
use Rattle.std.proofs.Common.{sym, subst, [], pos}
use Rattle.listener.specs.View.{signal_in}
use Rattle.slot_receiver.specs.Receiver.{Receiver}
use Rattle.slot_receiver.specs.Bounds.{Scheduled}
use Rattle.slot_receiver.specs.View.{receiver_from}
use Rattle.slot_receiver.proofs.Times.{processed_scheduled}
use Rattle.slot_receiver.proofs.SlotReceiver.close_window.Goals as goal

pub schedule-requires : goal.schedule-requires
unfolding receiver_from
schedule-requires c =
    let a = c.args in
    let r = receiver_from a.self.now (pos 0) (signal_in [] a.past) in
    subst (λ (q : Receiver). Scheduled q.clock) (sym (c.process_past_samples.ensures (pos 0) [])) (processed_scheduled r a.counter.0 c.requires)
