-- What a window's code leaves in the stored state is, in its view, what the definitions make of a receiver. Assumes nothing.
use mathlib.Core.Path.{◌≡◌, refl, ap, ◌∙◌}
use mathlib.Core.Bool.{true, false, cond}
use mathlib.Core.List.{List}
use Prim.Native.Nat.{ℕ, zero, suc, ◌+◌, ◌*◌, ◌≤◌, ◌<◌}
use native.Mathlib.Omega.{arith}
use native.Mathlib.Numerals.{add-one}
use lib.ListN.{length, take}
use lib.Seq.{take_all}
use lib.IntN.{ℤ, pos, negsuc, ◌+ℤ◌, ◌-ℤ◌, +ℤ_idr, +ℤ_assoc}
use lib.Ieee.{Float, binary32, add, sub}
use borrow.Author.Tests.{le-leb, lt-leb}
use Rattle.dsp_types.specs.Samples.{zero_f, one_f}
use Rattle.dsp_types.specs.Times.{slot_of}
use Rattle.timing.specs.Tracking.{averaged_of, late, early, lowered_of, settled_of, moved_of}
use Rattle.burst_finder.specs.declared.Found.{Found}
use Rattle.burst_finder.specs.declared.SlotType.{SlotType}
use Rattle.burst_finder.specs.Search.{find_sync, below}
use Rattle.burst_finder.specs.Slots.{check_slot}
use Rattle.burst_finder.proofs.Turns.{below_close, below_far}
use Rattle.burst_finder.proofs.Lock.{Placed}
use Rattle.listener.specs.declared.window.Reading.{Reading}
use Rattle.listener.specs.Signal.{slot_timing, window_bits}
use Rattle.listener.specs.View.{Reads}
use Rattle.listener.proofs.ReadBits.{read_bits}
use Rattle.rx_slot.specs.declared.RxBurst.{RxBurst}
use Rattle.rx_slot.specs.Views.{BurstView, checked, stored_burst, stored_view}
use Rattle.rx_slot.proofs.Laws.{stored_finding}
use Rattle.slot_receiver.specs.declared.Mode.{Mode}
use Rattle.slot_receiver.specs.declared.Mode.TheVariants.{Idle, DlUnsynchronized, Dl, Ul}
use Rattle.slot_receiver.specs.Receiver.{Lock, Receiver, with_mode, with_clock, with_lock, with_slot, set_slot, emptied, found, not_found_yet, search_window, hand_over, lock_after, mode_after, downlink_slot, downlink_window, uplink_slot, process_past_samples, track, search_on, schedule}
use Rattle.slot_receiver.specs.View.{mode_of, mode_number}
use Rattle.slot_receiver.proofs.Times.{found_reference, sync_placed}

-- ---- modes

pub mode_stored : (m : Mode) → mode_of (mode_number m) ≡ m
unfolding mode_of mode_number
mode_stored Idle = refl
mode_stored DlUnsynchronized = refl
mode_stored Dl = refl
mode_stored Ul = refl

-- fewer than 100 misses keep a receiver locked
pub mode_locked : (n misses : ℕ) → mode_of n ≡ Dl → misses < 100 → mode_of n ≡ mode_after misses
unfolding mode_after
mode_locked n misses e h = rw (e, lt-leb 100 misses h)

pub mode_lost : (n misses : ℕ) → n ≡ mode_number DlUnsynchronized → 100 ≤ misses → mode_of n ≡ mode_after misses
unfolding mode_after
mode_lost n misses e h = rw (e, mode_stored DlUnsynchronized, le-leb 100 misses h)

-- ---- a search window

-- the place of the synchronization sequence, and its errors
module _ (r : Receiver) (w : Reading) (read : Reads r.signal 1024 256 w) (b : Found) (at : b ≡ below 2 (find_sync (take 510 w.bits))) where
  abbrev all : Found
  all = find_sync (window_bits r.signal)

  there : b ≡ below 2 all
  there = at ∙ rw (read_bits read)

  best : b.dist ≤ 1 → b ≡ all
  best h = below_close 1 b all there h

  pub found_place : b.dist ≤ 1 → b.pos ≤ 256
  found_place h = let p : Placed b = rw (best h) (sync_placed r.signal) in omega (arith, p.place, p.most)

  pub search_missed : (c : ℤ) → 1 < b.dist → with_slot r (emptied r.slot r.slot.time) ≡ process_past_samples DlUnsynchronized r c
  unfolding process_past_samples search_window not_found_yet
  search_missed c h = rw (lt-leb all.dist 1 (below_far 1 b all there h))

  pub search_found : (c : ℤ) (m : Mode) (z : ℤ) (e : Float) (time n : ℕ) → time ≡ slot_of (pos 0) → n ≡ slot_of (negsuc 0) → b.dist ≤ 1 → m ≡ DlUnsynchronized
      → z ≡ r.clock.slot_ready_time -ℤ pos 2034 +ℤ pos (b.pos * 2) → e ≡ averaged_of zero_f w.timing
      → with_mode (with_clock (with_lock (with_slot r (emptied r.slot time)) (record { timing_error = e; misses = 0 })) (set_slot m z n)) Dl
      ≡ process_past_samples DlUnsynchronized r c
  unfolding process_past_samples search_window found slot_of slot_timing
  search_found c m z e time n f g h p q t =
      rw (f, g, ← best h, le-leb b.dist 1 h, found_reference r.clock.slot_ready_time b (rw (best h) (sync_placed r.signal)), p, q, t, read.timing)

-- ---- a slot that is handed over

-- a burst that was checked, as it is seen
pub seen : (k : SlotType) (n : ℕ) (bits : List ℕ) {b : RxBurst} → b ≡ stored_burst (check_slot k (take n bits)) → stored_view n bits b ≡ checked k (take n bits)
unfolding checked
seen k n bits e = ap (stored_view n bits) e ∙ stored_finding n bits (check_slot k (take n bits))

pub seen_all : (k : SlotType) (bits : List ℕ) {b : RxBurst} → length bits ≡ 510 → b ≡ stored_burst (check_slot k bits) → stored_view 510 bits b ≡ checked k (take 510 bits)
seen_all k bits l e = let t : take 510 bits ≡ bits = take_all 510 bits (omega (arith, l)) in seen k 510 bits (e ∙ rw t)

pub handed_over : (r : Receiver) (c : ℤ) (w : Reading) (v : BurstView) (type : ℕ) → Reads r.signal 1024 256 w → v ≡ checked SlotType.Dl (take 510 w.bits)
    → type ≡ (checked SlotType.Dl (take 510 w.bits)).type → (m : Mode) (l : Lock) → l ≡ lock_after r.lock w.timing type → m ≡ mode_after l.misses
    → hand_over (with_mode (with_lock r l) m) (downlink_slot r c v) ≡ process_past_samples Dl r c
unfolding process_past_samples downlink_window slot_timing
handed_over r c w v type read f g m l p q = rw (q, p, g, f, read_bits read, read.timing)

-- the lock after a slot with a training sequence, and after one without
pub hit : (l : Lock) (timing error : Float) (type : ℕ) → (type ≡ 0 → ⊥) → error ≡ averaged_of l.timing_error timing
    → record { timing_error = error; misses = 0 } ≡ lock_after l timing type
unfolding lock_after
hit l timing error zero e q = absurd (e refl)
hit l timing error (suc type) e q = rw q

pub miss : (l : Lock) (timing : Float) (type : ℕ) → type ≡ 0 → record { timing_error = l.timing_error; misses = l.misses + 1 } ≡ lock_after l timing type
unfolding lock_after
miss l timing type e = rw (e, add-one l.misses)

pub uplinked : (r : Receiver) (c : ℤ) (w w1 w2 : Reading) (v v1 v2 : BurstView) (time : ℕ) → Reads r.signal 1024 256 w → Reads r.signal 1024 128 w1
    → Reads r.signal 514 128 w2 → v ≡ checked SlotType.UlFull (take 510 w.bits) → v1 ≡ checked SlotType.UlSub (take 254 w1.bits)
    → v2 ≡ checked SlotType.UlSub (take 254 w2.bits) → time ≡ slot_of (pos r.clock.current_slot -ℤ pos 2)
    → hand_over r (record { time = time; closing_counter = c; full = v; subslot1 = v1; subslot2 = v2 }) ≡ process_past_samples Ul r c
unfolding process_past_samples uplink_slot
uplinked r c w w1 w2 v v1 v2 time read read1 read2 g g1 g2 t = rw (t, g, g1, g2, read_bits read, read_bits read1, read_bits read2)

-- ---- tracking

module _ (r : Receiver) where
  -- the reference time and the averaged error are these, and all else is as it was
  abbrev pub shifted : ℤ → Float → Receiver
  shifted z e =
      with_lock
      (with_clock r (record { reference_time = z; slot_ready_time = r.clock.slot_ready_time; current_slot = r.clock.current_slot }))
      (record { timing_error = e; misses = r.lock.misses })

  -- after the first test
  abbrev pub lowered : Receiver
  lowered = shifted (r.clock.reference_time +ℤ cond (late r.lock.timing_error) (pos 1) (pos 0)) (lowered_of r.lock.timing_error)

  pub shifted_later : (z : ℤ) → late r.lock.timing_error ≡ true → z ≡ r.clock.reference_time +ℤ pos 1 → shifted z (sub binary32 r.lock.timing_error one_f) ≡ lowered
  unfolding lowered_of
  shifted_later z t e = rw (t, e)

  pub not_later : late r.lock.timing_error ≡ false → r ≡ lowered
  unfolding lowered_of with_clock with_lock
  not_later t = rw (t, +ℤ_idr r.clock.reference_time)

  -- ... and after the second
  pub shifted_sooner : (z : ℤ) → early (lowered_of r.lock.timing_error) ≡ true → z ≡ r.clock.reference_time +ℤ cond (late r.lock.timing_error) (pos 1) (pos 0) -ℤ pos 1
      → shifted z (add binary32 (lowered_of r.lock.timing_error) one_f) ≡ track r
  unfolding track settled_of moved_of
  shifted_sooner z t e = rw (t, e, +ℤ_assoc r.clock.reference_time (cond (late r.lock.timing_error) (pos 1) (pos 0)) (negsuc 0))

  pub not_sooner : early (lowered_of r.lock.timing_error) ≡ false → lowered ≡ track r
  unfolding track settled_of moved_of
  not_sooner t = rw (t, +ℤ_idr (cond (late r.lock.timing_error) (pos 1) (pos 0)))

-- ---- the next search window

pub searched_on : (r : Receiver) (z : ℤ) → z ≡ r.clock.slot_ready_time +ℤ pos 400
    → with_clock r (record { reference_time = r.clock.reference_time; slot_ready_time = z; current_slot = r.clock.current_slot }) ≡ schedule DlUnsynchronized r
unfolding schedule search_on
searched_on r z e = rw e
