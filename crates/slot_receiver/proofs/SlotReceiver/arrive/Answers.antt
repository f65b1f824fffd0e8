-- Stage by stage: a bound on a receiver is one on its stored numbers.
use Rattle.std.proofs.Common.{◌≡◌, sym, ap, subst, ◌∙◌, ℤ, pos}
use Rattle.listener.specs.Signal.{Signal, unheard}
use Rattle.slot_receiver.specs.declared.SlotReceiver.{SlotReceiver}
use Rattle.slot_receiver.specs.Receiver.{Receiver, valid_count, valid, skipped, ready, arrive}
use Rattle.slot_receiver.specs.Windows.{window_at}
use Rattle.slot_receiver.specs.Bounds.{Timed, Counter}
use Rattle.slot_receiver.specs.View.{receiver_from, clock_of}
use Rattle.slot_receiver.proofs.Doors.{valid_timed, valid_counter}
use Rattle.slot_receiver.proofs.Times.{skipped_timed}
use Rattle.slot_receiver.proofs.SlotReceiver.arrive.Goals as goal
use Rattle.slot_receiver.proofs.SlotReceiver.arrive.Goals.{After-valid_count-at, After-skip_passed}

stored : (d : SlotReceiver) (r : Receiver) → receiver_from d (pos 0) unheard ≡ r → Timed r.clock r.lock.misses → Timed (clock_of d) d.slots_since_last_valid_burst
unfolding receiver_from
stored d r e h = subst (λ (q : Receiver). Timed q.clock q.lock.misses) (sym e) h

counted : (c : After-valid_count-at) → Counter c.valid_count-at.result.0
counted c = rw c.valid_count-at.ensures (valid_counter c.args.counter.0)

-- up to the close of a window
readied : (c : After-skip_passed) (next : ℤ) (s : Signal) → receiver_from c.skip_passed.new.self next s ≡ ready (receiver_from c.args.self.now next s) (valid_count c.args.counter.0)
unfolding ready
readied c next s =
    c.skip_passed.ensures next s
    ∙ ap (λ (r : Receiver). skipped r c.valid_count-at.result.0) (c.make_valid.ensures next s)
    ∙ ap (skipped (valid (receiver_from c.args.self.now next s))) c.valid_count-at.ensures

pub skip_passed-requires : goal.skip_passed-requires
skip_passed-requires c =
    (stored c.make_valid.new.self _ (c.make_valid.ensures (pos 0) unheard) (valid_timed (receiver_from c.args.self.now (pos 0) unheard)), counted (goal.at.skip_passed-requires c).After-valid_count-at)

pub close_if_ready-requires : goal.close_if_ready-requires
unfolding ready
close_if_ready-requires c =
    let k = goal.at.close_if_ready-requires c in
    let r = receiver_from c.args.self.now (pos 0) unheard in
    (stored c.skip_passed.new.self _ (readied k.After-skip_passed (pos 0) unheard) (skipped_timed (valid r) (valid_count c.args.counter.0) (valid_timed r)), counted k.After-valid_count-at)

pub returns-clause-handed : goal.returns-clause-handed
unfolding window_at
returns-clause-handed c = λ next inputs.
    rw (readied (goal.at.returns-clause-handed c).After-skip_passed, c.valid_count-at.ensures) at (c.close_if_ready.ensures.handed next inputs)

pub returns-clause-slots : goal.returns-clause-slots
unfolding arrive
returns-clause-slots c = λ next inputs.
    rw (readied (goal.at.returns-clause-slots c).After-skip_passed, c.valid_count-at.ensures) at (c.close_if_ready.ensures.slots next inputs)
