-- Test by test: each says whether the reference time moves, and by one sample at most.
use Rattle.std.proofs.Common.{◌≡◌, ap, ◌∙◌, Bool, true, false, cond, ◌^◌, ◌+ℤ◌, ℤ, pos, lit≤}
use lib.Ieee.{binary32, add}
use Rattle.dsp_types.specs.Samples.{one_f}
use Rattle.timing.specs.Tracking.{late, early, lowered_of}
use Rattle.listener.specs.Signal.{Signal, unheard}
use Rattle.slot_receiver.specs.declared.SlotReceiver.{SlotReceiver}
use Rattle.slot_receiver.specs.Receiver.{Receiver, with_clock, with_lock}
use Rattle.slot_receiver.specs.Bounds.{Within}
use Rattle.slot_receiver.specs.View.{receiver_from}
use Rattle.slot_receiver.proofs.Signed.{minus_is, wider, within_pos, within_sum, plus_few}
use Rattle.slot_receiver.proofs.Views.{shifted, lowered, shifted_later, not_later, shifted_sooner, not_sooner}
use Rattle.slot_receiver.proofs.SlotReceiver.track.Goals as goal
use Rattle.slot_receiver.proofs.SlotReceiver.track.Goals.{Joined-self, then-self, else-self}

-- after the first test
after_first : (c : Joined-self) (next : ℤ) (s : Signal) → receiver_from c.if-self.self next s ≡ lowered (receiver_from c.args.self.now next s)
unfolding receiver_from late with_clock with_lock
after_first c next s =
    let r = receiver_from c.args.self.now next s in
    elim c.if-self.branch [
      | then-self w ↦ ap (λ (x : SlotReceiver). receiver_from x next s) w.self-is
          ∙ shifted_later r _ w.if-self.true (w.plus-self.ensures ∙ plus_few 1 (lit≤ tt) (lit≤ tt) c.requires.reference)
      | else-self w ↦ ap (λ (x : SlotReceiver). receiver_from x next s) w.self-is ∙ not_later r w.if-self.false
    ]

-- ... the reference time is within bounds
reference_is : (c : Joined-self) → c.if-self.self.reference_time.0 ≡ c.args.self.now.reference_time.0 +ℤ cond (late c.args.self.now.averaged_timing_error) (pos 1) (pos 0)
unfolding receiver_from with_clock with_lock
reference_is c = ap (λ (r : Receiver). r.clock.reference_time) (after_first c (pos 0) unheard)

error_is : (c : Joined-self) → c.if-self.self.averaged_timing_error ≡ lowered_of c.args.self.now.averaged_timing_error
unfolding receiver_from with_clock with_lock
error_is c = ap (λ (r : Receiver). r.lock.timing_error) (after_first c (pos 0) unheard)

reference_within : (c : Joined-self) → Within (2 ^ 61) c.if-self.self.reference_time.0
reference_within c =
    rw (reference_is c) (wider (2 ^ 61) (lit≤ tt) (within_sum _ _ c.requires.reference (one (late c.args.self.now.averaged_timing_error))))
  where
    one : (b : Bool) → Within 1 (cond b (pos 1) (pos 0))
    one true = within_pos {n = 1} 1 (lit≤ tt)
    one false = within_pos {n = 0} 1 (lit≤ tt)

pub returns-then-self-2 : goal.returns-then-self-2
unfolding receiver_from early with_clock with_lock
returns-then-self-2 c = λ next s.
    let j = (goal.at.returns-then-self-2 c).Joined-self in
    let r = receiver_from c.args.self.now next s in
    let m = c.minus-self.ensures ∙ minus_is {y = pos 1} (reference_within j) (record { high = lit≤ tt; low = lit≤ tt }) in
    let z = rw (reference_is j) at m in
    let t = rw (error_is j) at c.if-self-2.true in
    ap (λ (q : Receiver). shifted q c.minus-self.result.0 (add binary32 q.lock.timing_error one_f)) (after_first j next s)
    ∙ shifted_sooner r c.minus-self.result.0 t z

pub returns-else-self-2 : goal.returns-else-self-2
unfolding receiver_from early
returns-else-self-2 c = λ next s.
    let j = (goal.at.returns-else-self-2 c).Joined-self in
    after_first j next s ∙ not_sooner (receiver_from c.args.self.now next s) (rw (error_is j) at c.if-self-2.false)
