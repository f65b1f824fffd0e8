-- Three windows are read and checked, and the slot is numbered 2 less.
use Rattle.std.proofs.Common.{rules, ◌≡◌, ◌∙◌, ◌%◌, pos, ◌-ℤ◌, mod-eq_of_lt}
use Rattle.dsp_types.specs.Times.{slot_of, slots}
use Rattle.burst_finder.specs.declared.SlotType.{SlotType}
use Rattle.listener.specs.View.{signal_in}
use Rattle.slot_receiver.specs.Receiver.{with_waits, with_slot, hand_over}
use Rattle.slot_receiver.specs.View.{receiver_from}
use Rattle.slot_receiver.proofs.Views.{seen, seen_all, uplinked}
use Rattle.slot_receiver.proofs.SlotReceiver.uplink_window.Goals as goal

pub returns : goal.returns
unfolding receiver_from hand_over with_waits with_slot
returns c = λ next inputs.
    let a = c.args in
    -- the current slot is in its range, so that nothing wraps before the difference
    let h : a.self.now.current_slot.0 % slots ≡ a.self.now.current_slot.0 = mod-eq_of_lt c.requires.timed.current in
    let numbered : c.add_timeslots.result.0 ≡ slot_of (pos a.self.now.current_slot.0 -ℤ pos 2) = c.add_timeslots.ensures ∙ rw h in
    uplinked
    (receiver_from a.self.now next (signal_in inputs a.past))
    a.counter.0
    c.read_window-whole.result
    c.read_window-first.result
    c.read_window-second.result
    _
    _
    _
    c.add_timeslots.result.0
    (c.read_window-whole.ensures inputs)
    (c.read_window-first.ensures inputs)
    (c.read_window-second.ensures inputs)
    (seen_all SlotType.UlFull c.read_window-whole.result.bits (search rules) c.checked_burst.ensures)
    (seen SlotType.UlSub 254 c.read_window-first.result.bits c.checked_burst-2.ensures)
    (seen SlotType.UlSub 254 c.read_window-second.result.bits c.checked_burst-3.ensures)
    numbered
