-- By the mode.
use Rattle.std.proofs.Common.{◌≡◌, sym, ap, subst, ◌∙◌, pos, lit≤}
use Rattle.listener.specs.Signal.{unheard}
use Rattle.slot_receiver.specs.declared.Mode.{Mode}
use Rattle.slot_receiver.specs.declared.Mode.TheVariants.{Idle, DlUnsynchronized, Dl, Ul}
use Rattle.slot_receiver.specs.Receiver.{Receiver, with_clock, search_on, next_slot, schedule}
use Rattle.slot_receiver.specs.View.{clock_of, receiver_from}
use Rattle.slot_receiver.proofs.Signed.{plus_few}
use Rattle.slot_receiver.proofs.Times.{Tracked, tracked_near}
use Rattle.slot_receiver.proofs.Views.{searched_on}
use Rattle.slot_receiver.proofs.SlotReceiver.schedule.Goals as goal

by_mode : (r : Receiver) (m : Mode) → r.mode ≡ m → schedule m r ≡ schedule r.mode r
by_mode r m e = rw e

pub add_slots-requires : goal.add_slots-requires
unfolding receiver_from
add_slots-requires c =
    let r = receiver_from c.args.self.now (pos 0) unheard in
    let t : Tracked (clock_of c.track.new.self) = subst (λ (q : Receiver). Tracked q.clock) (sym (c.track.ensures (pos 0) unheard)) (tracked_near r c.requires) in
    (t.reference, t.current)

pub returns-in-Idle : goal.returns-in-Idle
unfolding receiver_from schedule
returns-in-Idle c = λ next s. by_mode (receiver_from c.args.self.now next s) Idle (sym c.mode.ensures ∙ c.in-Idle.is)

pub returns-in-DlUnsynchronized : goal.returns-in-DlUnsynchronized
unfolding receiver_from schedule with_clock search_on
returns-in-DlUnsynchronized c = λ next s.
    let r = receiver_from c.args.self.now next s in
    searched_on r c.plus-self.result.0 (c.plus-self.ensures ∙ plus_few 400 (lit≤ tt) (lit≤ tt) c.requires.ready)
    ∙ by_mode r DlUnsynchronized (sym c.mode.ensures ∙ c.in-DlUnsynchronized.is)

pub returns-in-Dl : goal.returns-in-Dl
unfolding receiver_from schedule next_slot
returns-in-Dl c = λ next s.
    c.add_slots.ensures next s ∙ ap next_slot (c.track.ensures next s) ∙ by_mode (receiver_from c.args.self.now next s) Dl (sym c.mode.ensures ∙ c.in-Dl.is)

pub returns-in-Ul : goal.returns-in-Ul
unfolding receiver_from schedule next_slot
returns-in-Ul c = λ next s.
    c.add_slots-in-Ul.ensures next s ∙ by_mode (receiver_from c.args.self.now next s) Ul (sym c.mode.ensures ∙ c.in-Ul.is)
