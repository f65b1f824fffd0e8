-- The three ways differ in lock and mode alone.
use Rattle.std.proofs.Common.{rules, ◌≡◌, ap, List, take, ◌+◌, ℤ, lit<, arith}
use Rattle.burst_finder.specs.declared.SlotType.TheVariants as SlotType
use Rattle.dsp_types.specs.declared.ComplexSample.{ComplexSample}
use Rattle.listener.specs.View.{signal_in}
use Rattle.rx_slot.specs.Views.{BurstView, checked, stored_view}
use Rattle.slot_receiver.specs.declared.Mode.{Mode}
use Rattle.slot_receiver.specs.declared.Mode.TheVariants.{Dl}
use Rattle.slot_receiver.specs.Receiver.{Lock, Receiver, with_mode, with_lock, with_waits, with_slot, hand_over, lock_after, mode_after, downlink_slot, process_past_samples}
use Rattle.slot_receiver.specs.View.{receiver_from, mode_of}
use Rattle.slot_receiver.proofs.Views.{mode_locked, mode_lost, seen_all, handed_over, hit, miss}
use Rattle.slot_receiver.proofs.SlotReceiver.downlink_window.Goals as goal
use Rattle.slot_receiver.proofs.SlotReceiver.downlink_window.Goals.{After-checked_burst-full}

abbrev receiver : After-checked_burst-full → ℤ → List ComplexSample → Receiver
receiver c next inputs = receiver_from c.args.self.now next (signal_in inputs c.args.past)

abbrev view : After-checked_burst-full → BurstView
view c = stored_view 510 c.read_window-window.result.bits c.checked_burst-full.result

viewed : (c : After-checked_burst-full) → view c ≡ checked SlotType.Dl (take 510 c.read_window-window.result.bits)
viewed c = seen_all SlotType.Dl c.read_window-window.result.bits (search rules) c.checked_burst-full.ensures

type_is : (c : After-checked_burst-full) → c.checked_burst-full.result.train_type ≡ (checked SlotType.Dl (take 510 c.read_window-window.result.bits)).type
unfolding stored_view
type_is c = ap (λ (v : BurstView). v.type) (viewed c)

-- what the three ways share
handed_as : (c : After-checked_burst-full) (next : ℤ) (inputs : List ComplexSample) (m : Mode) (l : Lock)
    → l ≡ lock_after (receiver c next inputs).lock c.read_window-window.result.timing c.checked_burst-full.result.train_type → m ≡ mode_after l.misses
    → hand_over (with_mode (with_lock (receiver c next inputs) l) m) (downlink_slot (receiver c next inputs) c.args.counter.0 (view c)) ≡ process_past_samples Dl (receiver c next inputs) c.args.counter.0
unfolding receiver_from
handed_as c next inputs =
    handed_over (receiver c next inputs) c.args.counter.0 c.read_window-window.result (view c) c.checked_burst-full.result.train_type (c.read_window-window.ensures inputs) (viewed c) (type_is c)

pub returns-then-full-ne0 : goal.returns-then-full-ne0
unfolding receiver_from hand_over with_mode with_lock with_waits with_slot downlink_slot
returns-then-full-ne0 c = λ next inputs.
    let a = (goal.at.returns-then-full-ne0 c).After-checked_burst-full in
    handed_as a next inputs (mode_of c.args.self.now.mode) (record { timing_error = c.averaged-self.result; misses = 0 })
    (hit (receiver a next inputs).lock c.read_window-window.result.timing c.averaged-self.result c.checked_burst-full.result.train_type c.if-full-ne0.true c.averaged-self.ensures)
    (mode_locked c.args.self.now.mode 0 c.requires.1 (lit< tt))

pub returns-then-self-ge-LOST : goal.returns-then-self-ge-LOST
unfolding receiver_from hand_over with_mode with_lock with_waits with_slot downlink_slot
returns-then-self-ge-LOST c = λ next inputs.
    let a = (goal.at.returns-then-self-ge-LOST c).After-checked_burst-full in
    let l = (receiver a next inputs).lock in
    handed_as a next inputs (mode_of c.number-self.result) (record { timing_error = l.timing_error; misses = l.misses + 1 })
    (miss l c.read_window-window.result.timing c.checked_burst-full.result.train_type c.if-full-ne0.false) (mode_lost c.number-self.result (l.misses + 1) c.number-self.ensures (omega (arith, c.if-self-ge-LOST.true)))

pub returns-else-self-ge-LOST : goal.returns-else-self-ge-LOST
unfolding receiver_from hand_over with_mode with_lock with_waits with_slot downlink_slot
returns-else-self-ge-LOST c = λ next inputs.
    let a = (goal.at.returns-else-self-ge-LOST c).After-checked_burst-full in
    let l = (receiver a next inputs).lock in
    handed_as a next inputs (mode_of c.args.self.now.mode) (record { timing_error = l.timing_error; misses = l.misses + 1 })
    (miss l c.read_window-window.result.timing c.checked_burst-full.result.train_type c.if-full-ne0.false)
    (mode_locked c.args.self.now.mode (l.misses + 1) c.requires.1 (omega (arith, c.if-self-ge-LOST.false)))
