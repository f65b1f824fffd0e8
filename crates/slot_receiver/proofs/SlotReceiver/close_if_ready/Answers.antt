-- By the test.
use Rattle.std.proofs.Common.{◌≡◌, sym, ◌∙◌, ◌-ℤ◌, pos, lit≤}
use Rattle.dsp_types.specs.Ints.{eq_z}
use Rattle.listener.specs.View.{signal_in}
use Rattle.slot_receiver.specs.Receiver.{closes, close_if, close_window}
use Rattle.slot_receiver.specs.View.{clock_of, receiver_from}
use Rattle.slot_receiver.proofs.Signed.{counter_37, minus_few}
use Rattle.slot_receiver.proofs.Times.{closing}
use Rattle.slot_receiver.proofs.Handing.{hands_closed, hands_none}
use Rattle.slot_receiver.proofs.SlotReceiver.close_if_ready.Goals as goal
use Rattle.slot_receiver.proofs.SlotReceiver.close_if_ready.Goals.{After-closes}

tested : (c : After-closes) → eq_z (c.args.counter.0 -ℤ pos 16) c.args.self.now.slot_ready_time.0 ≡ c.closes.result
tested c = sym (rw (c.closes.ensures, minus_few 16 (lit≤ tt) (lit≤ tt) (counter_37 c.requires.1)))

pub close_window-requires : goal.close_window-requires
close_window-requires c =
    closing (clock_of c.args.self.now) _ c.args.counter.0 c.requires.0 c.requires.1 (tested (goal.at.close_window-requires c).After-closes ∙ c.if-not-closes.false)

pub returns-then-not-closes-clause-handed : goal.returns-then-not-closes-clause-handed
unfolding closes receiver_from
returns-then-not-closes-clause-handed c = λ next inputs.
    let a = c.args in
    let r = receiver_from a.self.now next (signal_in inputs a.past) in
    let t = tested (goal.at.returns-then-not-closes-clause-handed c).After-closes ∙ c.if-not-closes.true in
    rw t (hands_none r a.counter.0)

pub returns-then-not-closes-clause-slots : goal.returns-then-not-closes-clause-slots
unfolding closes close_if receiver_from
returns-then-not-closes-clause-slots c = λ next inputs.
    let t = tested (goal.at.returns-then-not-closes-clause-slots c).After-closes ∙ c.if-not-closes.true in
    rw t

pub returns-clause-handed : goal.returns-clause-handed
unfolding closes receiver_from
returns-clause-handed c = λ next inputs.
    let a = c.args in
    let r = receiver_from a.self.now next (signal_in inputs a.past) in
    let t = tested (goal.at.returns-clause-handed c).After-closes ∙ c.if-not-closes.false in
    rw t (rw c.mode.ensures at (c.hands_over-handed.ensures (close_window r a.counter.0)) ∙ hands_closed r a.counter.0)

pub returns-clause-slots : goal.returns-clause-slots
unfolding closes close_if receiver_from
returns-clause-slots c = λ next inputs.
    let t = tested (goal.at.returns-clause-slots c).After-closes ∙ c.if-not-closes.false in
    rw t (c.close_window.ensures next inputs)
