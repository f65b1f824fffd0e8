-- A find's place is even and at most 256, so that its time is the definition's.
use Rattle.std.proofs.Common.{rules, ◌≡◌, ap, ◌∙◌, List, [], length, take, take_all, ◌^◌, ◌≤◌, ℤ, pos, negsuc, lit≤, arith}
use Rattle.dsp_types.proofs.Laws.{slot_below}
use Rattle.burst_finder.specs.Search.{find_sync, below}
use Rattle.dsp_types.specs.declared.ComplexSample.{ComplexSample}
use Rattle.listener.specs.Signal.{Signal}
use Rattle.listener.specs.View.{signal_in}
use Rattle.slot_receiver.specs.declared.Mode.TheVariants.{Dl}
use Rattle.slot_receiver.specs.Receiver.{Receiver, with_mode, with_clock, with_lock, with_slot, set_slot}
use Rattle.slot_receiver.specs.View.{receiver_from, mode_of}
use Rattle.slot_receiver.proofs.Signed.{wider}
use Rattle.slot_receiver.proofs.Times.{found_within}
use Rattle.slot_receiver.proofs.Views.{mode_stored, found_place, search_missed, search_found}
use Rattle.slot_receiver.proofs.SlotReceiver.search_window.Goals as goal
use Rattle.slot_receiver.proofs.SlotReceiver.search_window.Goals.{After-find_sync-found}

abbrev heard : After-find_sync-found → List ComplexSample → Signal
heard c inputs = signal_in inputs c.args.past

abbrev receiver : After-find_sync-found → ℤ → List ComplexSample → Receiver
receiver c next inputs = receiver_from c.args.self.now next (heard c inputs)

-- the array has the window's bits and no others
searched : (c : After-find_sync-found) → c.find_sync-found.result ≡ below 2 (find_sync (take 510 c.read_window-window.result.bits))
searched c =
    let e : length c.read_window-window.result.bits ≡ 510 = search rules in
    c.find_sync-found.ensures ∙ rw (take_all 510 c.read_window-window.result.bits (omega (arith, e)))

place : (c : After-find_sync-found) → c.find_sync-found.result.dist ≤ 1 → c.find_sync-found.result.pos ≤ 256
unfolding receiver_from
place c = found_place (receiver c (pos 0) []) c.read_window-window.result (c.read_window-window.ensures []) c.find_sync-found.result (searched c)

pub returns-then-found-gt-MAX_ERRS : goal.returns-then-found-gt-MAX_ERRS
unfolding receiver_from
returns-then-found-gt-MAX_ERRS c = λ next at inputs.
    let a = (goal.at.returns-then-found-gt-MAX_ERRS c).After-find_sync-found in
    c.empty.ensures next (heard a inputs)
    ∙ search_missed (receiver a next inputs) c.read_window-window.result (c.read_window-window.ensures inputs) c.find_sync-found.result (searched a) at c.if-found-gt-MAX_ERRS.true

pub found_time-reference-requires : goal.found_time-reference-requires
found_time-reference-requires c =
    (c.requires.0.ready, place (goal.at.found_time-reference-requires c).After-find_sync-found c.if-found-gt-MAX_ERRS.false)

pub set_slot-requires : goal.set_slot-requires
set_slot-requires c =
    let a = (goal.at.set_slot-requires c).After-find_sync-found in
    rw (c.found_time-reference.ensures, c.from_int-2.ensures)
    (wider (2 ^ 40) (lit≤ tt) (found_within c.args.self.now.slot_ready_time.0 c.find_sync-found.result.pos c.requires.0.ready (place a c.if-found-gt-MAX_ERRS.false)), slot_below (negsuc 0))

pub returns : goal.returns
unfolding receiver_from with_mode with_clock with_lock with_slot
returns c = λ next at inputs.
    let a = (goal.at.returns c).After-find_sync-found in
    let e = c.averaged-self.result in
    let z = c.found_time-reference.result.0 in
    rw (c.number-self.ensures, mode_stored Dl)
    (ap (λ (r : Receiver). with_mode r Dl) (c.set_slot.ensures next (heard a inputs))
    ∙ ap (λ (r : Receiver). with_mode (with_clock (with_lock r (record { timing_error = e; misses = 0 })) (set_slot r.mode z c.from_int-2.result.0)) Dl) (c.empty-2.ensures next (heard a inputs))
    ∙ search_found (receiver a next inputs) c.read_window-window.result (c.read_window-window.ensures inputs) c.find_sync-found.result (searched a) at (mode_of c.args.self.now.mode) z e _ _
    c.from_int.ensures c.from_int-2.ensures c.if-found-gt-MAX_ERRS.false c.requires.1 c.found_time-reference.ensures c.averaged-self.ensures)
