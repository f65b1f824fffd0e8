-- The receiver after demodulator.rs: its state, and what each stage makes of it (01, "Times", "The receiver"). Definitions only.
-- The stages bear the names of the source's functions, `process_sample` and so on.
use Rattle.std.specs.Prelude.{ℕ, zero, suc, ◌+◌, ◌-◌, ◌*◌, ◌%◌, ◌^◌, min, Bool, true, false, cond, ◌||◌, leb, ℤ, pos, negsuc, neg_ℤ, ◌+ℤ◌, ◌-ℤ◌, ◌*ℤ◌, Float}
use Rattle.std.specs.Int.Signed.{lt_z, mag, quot_z}
use Rattle.dsp_types.specs.declared.ComplexSample.{ComplexSample}
use Rattle.dsp_types.specs.Samples.{zero_f, silence}
use Rattle.dsp_types.specs.Refusals.{counters}
use Rattle.dsp_types.specs.Times.{slots, slot_of, div_euclid}
use Rattle.dsp_types.specs.Ints.{eq_z}
use Rattle.timing.specs.Tracking.{averaged_of, settled_of, moved_of}
use Rattle.burst_finder.specs.declared.SlotType.TheVariants as SlotType
use Rattle.burst_finder.specs.Search.{find_sync}
use Rattle.burst_finder.specs.Slots.{most_errors}
use Rattle.listener.specs.Signal.{Signal, unheard, hear, bits_of, slot_timing, window_bits}
use Rattle.rx_slot.specs.Views.{BurstView, no_view, checked}
use Rattle.rx_slot.specs.Slots.{HandedSlot, with_views, no_slot}
use Rattle.slot_receiver.specs.declared.Mode.{Mode}
use Rattle.slot_receiver.specs.declared.Mode.TheVariants.{Idle, DlUnsynchronized, Dl, Ul}

-- the slot timing: when hyperframe number 0 began and when the current slot's window closes, both in samples with the filter's
-- delay taken off, and the current slot's number
pub record Clock : Type 0 where
  pub reference_time : ℤ
  pub slot_ready_time : ℤ
  pub current_slot : ℕ

-- how good the lock is: the averaged timing error, and handed slots in a row without a training sequence
pub record Lock : Type 0 where
  pub timing_error : Float
  pub misses : ℕ

-- so many misses in a row (01, "The receiver")
abbrev pub lost_at : ℕ
lost_at = 100

pub record Receiver : Type 0 where
  pub mode : Mode
  pub clock : Clock
  pub lock : Lock
  -- whether the slot that was handed over last waits to be taken
  pub waits : Bool
  pub slot : HandedSlot
  -- the counter after the last accepted sample
  pub next : ℤ
  pub signal : Signal

-- ---- a receiver with one part anew

unfoldable pub with_mode : Receiver → Mode → Receiver
with_mode r m = record { mode = m; clock = r.clock; lock = r.lock; waits = r.waits; slot = r.slot; next = r.next; signal = r.signal }

unfoldable pub with_clock : Receiver → Clock → Receiver
with_clock r c = record { mode = r.mode; clock = c; lock = r.lock; waits = r.waits; slot = r.slot; next = r.next; signal = r.signal }

unfoldable pub with_lock : Receiver → Lock → Receiver
with_lock r l = record { mode = r.mode; clock = r.clock; lock = l; waits = r.waits; slot = r.slot; next = r.next; signal = r.signal }

unfoldable pub with_waits : Receiver → Bool → Receiver
with_waits r b = record { mode = r.mode; clock = r.clock; lock = r.lock; waits = b; slot = r.slot; next = r.next; signal = r.signal }

unfoldable pub with_slot : Receiver → HandedSlot → Receiver
with_slot r h = record { mode = r.mode; clock = r.clock; lock = r.lock; waits = r.waits; slot = h; next = r.next; signal = r.signal }

unfoldable pub with_next : Receiver → ℤ → Receiver
with_next r c = record { mode = r.mode; clock = r.clock; lock = r.lock; waits = r.waits; slot = r.slot; next = c; signal = r.signal }

unfoldable pub with_signal : Receiver → Signal → Receiver
with_signal r s = record { mode = r.mode; clock = r.clock; lock = r.lock; waits = r.waits; slot = r.slot; next = r.next; signal = s }

-- ---- slot timing

-- from a slot's begin to the close of its window: `slot_ready_from_begin`
unfoldable pub slot_ready_from_begin : Mode → ℤ
slot_ready_from_begin Idle = pos 1018
slot_ready_from_begin DlUnsynchronized = pos 1018
slot_ready_from_begin Dl = pos 1018
slot_ready_from_begin Ul = pos 1020

-- `set_slot`: s is the current slot; its window closes as reference time and mode say
unfoldable pub set_slot : Mode → ℤ → ℕ → Clock
set_slot m reference s =
    record { reference_time = reference; slot_ready_time = reference +ℤ pos (s * 1020) +ℤ slot_ready_from_begin m; current_slot = s }

-- `add_slots`
unfoldable pub add_slots : Mode → Clock → ℤ → Clock
add_slots m c k = set_slot m c.reference_time (slot_of (pos c.current_slot +ℤ k))

-- ---- a new receiver

unfoldable pub new : Mode → Receiver
new m =
    record {
      mode = m;
      clock = set_slot m (pos 0) 0;
      lock = record { timing_error = zero_f; misses = 0 };
      waits = false;
      slot = no_slot;
      next = pos 0;
      signal = unheard;
    }

-- ---- `process_slot`, for each mode. c is the counter at which the window closes: that of the newest sample

-- a search window empties the view of the full slot, also of one that waits
unfoldable pub emptied : HandedSlot → ℕ → HandedSlot
emptied h time = with_views h time no_view h.subslot1 h.subslot2

-- the reference time at a find with the sequence's first bit at 216 + place: one slot before the burst found began, by the source's
-- own comment "so that this burst will get demodulated in slot number 0". The catch-up skips that slot: 01 has the burst as slot 1
unfoldable pub found_time : ℤ → ℕ → ℤ
found_time ready place = ready -ℤ pos 1018 +ℤ quot_z (pos (place + 2) -ℤ pos 510) (pos 2) *ℤ pos 4

-- DlUnsynchronized, the synchronization sequence found: the step to the next slot makes the current one 0
unfoldable pub found : Receiver → ℕ → Receiver
found r place =
    with_mode
    (with_clock
    (with_lock
    (with_slot r (emptied r.slot 0))
    (record { timing_error = averaged_of zero_f (slot_timing r.signal); misses = 0 }))
    (set_slot DlUnsynchronized (found_time r.clock.slot_ready_time place) (slot_of (negsuc 0))))
    Dl

unfoldable pub not_found_yet : Receiver → Receiver
not_found_yet r = with_slot r (emptied r.slot r.slot.time)

unfoldable pub search_window : Bool → ℕ → Receiver → Receiver
search_window true place r = found r place
search_window false place r = not_found_yet r

-- a slot is handed over: it waits to be taken
unfoldable pub hand_over : Receiver → HandedSlot → Receiver
hand_over r h = with_waits (with_slot r h) true

-- Dl: the slot is handed over with its number; the hundredth miss in a row returns to search
unfoldable pub lock_after : Lock → Float → ℕ → Lock
lock_after l timing zero = record { timing_error = l.timing_error; misses = suc l.misses }
lock_after l timing (suc type) = record { timing_error = averaged_of l.timing_error timing; misses = 0 }

unfoldable pub mode_after : ℕ → Mode
mode_after misses = cond (leb lost_at misses) DlUnsynchronized Dl

unfoldable pub downlink_slot : Receiver → ℤ → BurstView → HandedSlot
downlink_slot r c v =
    record { time = r.clock.current_slot; closing_counter = c; full = v; subslot1 = r.slot.subslot1; subslot2 = r.slot.subslot2 }

unfoldable pub downlink_window : BurstView → Lock → Receiver → ℤ → Receiver
downlink_window v l r c = hand_over (with_mode (with_lock r l) (mode_after l.misses)) (downlink_slot r c v)

-- Ul: slot numbers are 2 less, wrapping; a full window and one for each half
unfoldable pub uplink_slot : ℕ → ℤ → Signal → HandedSlot
uplink_slot current c s =
    record {
      time = slot_of (pos current -ℤ pos 2);
      closing_counter = c;
      full = checked SlotType.UlFull (window_bits s);
      subslot1 = checked SlotType.UlSub (bits_of s 1024 128);
      subslot2 = checked SlotType.UlSub (bits_of s 514 128);
    }

unfoldable pub process_past_samples : Mode → Receiver → ℤ → Receiver
process_past_samples Idle r c = r
process_past_samples DlUnsynchronized r c = search_window (leb (find_sync (window_bits r.signal)).dist most_errors) (find_sync (window_bits r.signal)).pos r
process_past_samples Dl r c =
    downlink_window (checked SlotType.Dl (window_bits r.signal))
    (lock_after r.lock (slot_timing r.signal) (checked SlotType.Dl (window_bits r.signal)).type) r c
process_past_samples Ul r c = hand_over r (uplink_slot r.clock.current_slot c r.signal)

-- ---- slot timing after a window

-- tracking: an averaged error above 0.5 makes the reference time one sample later, one below −0.5 one sample sooner
unfoldable pub track : Receiver → Receiver
track r =
    with_lock
    (with_clock r
    (record {
      reference_time = r.clock.reference_time +ℤ moved_of r.lock.timing_error;
      slot_ready_time = r.clock.slot_ready_time;
      current_slot = r.clock.current_slot;
    }))
    (record { timing_error = settled_of r.lock.timing_error; misses = r.lock.misses })

-- 400 samples on
unfoldable pub search_on : Clock → Clock
search_on c = record { reference_time = c.reference_time; slot_ready_time = c.slot_ready_time +ℤ pos 400; current_slot = c.current_slot }

unfoldable pub next_slot : Receiver → Receiver
next_slot r = with_clock r (add_slots r.mode r.clock (pos 1))

unfoldable pub schedule : Mode → Receiver → Receiver
schedule Idle r = r
schedule DlUnsynchronized r = with_clock r (search_on r.clock)
schedule Dl r = next_slot (track r)
schedule Ul r = next_slot r

unfoldable pub processed : Receiver → ℤ → Receiver
processed r c = process_past_samples r.mode r c

-- a window closes at the counter c
unfoldable pub close_window : Receiver → ℤ → Receiver
close_window r c = schedule (processed r c).mode (processed r c)

-- ---- what a sample reads of the stored numbers: one that no call could have left counts as a valid one. (`reachable_valid` of crate
-- account: nothing that calls leave is changed by it.)

-- how far from 0 a reference time and a ready time may be, and the last counter that may be expected, which is one after the last
abbrev pub far_reference : ℕ
far_reference = 2 ^ 39

abbrev pub far_ready : ℕ
far_ready = 2 ^ 40 - 1

abbrev pub last_next : ℕ
last_next = counters

-- a time further from 0 than this counts as 0. `mag` is n both for n and for −1 − n
unfoldable pub valid_time : ℕ → ℤ → ℤ
valid_time most z = cond (leb (mag z) most) z (pos 0)

-- slot numbers count modulo their range
unfoldable pub valid_clock : Clock → Clock
valid_clock c =
    record {
      reference_time = valid_time far_reference c.reference_time;
      slot_ready_time = valid_time far_ready c.slot_ready_time;
      current_slot = c.current_slot % slots;
    }

-- more misses than lose the lock count as so many
unfoldable pub valid_lock : Lock → Lock
valid_lock l = record { timing_error = l.timing_error; misses = min lost_at l.misses }

unfoldable pub valid : Receiver → Receiver
valid r = with_lock (with_clock r (valid_clock r.clock)) (valid_lock r.lock)

-- a counter below 0 or above the last counts as 0
unfoldable pub valid_count : ℤ → ℤ
valid_count z = cond (lt_z z (pos 0) || lt_z (pos last_next) z) (pos 0) z

-- ---- `process_sample`

unfoldable pub listen : Receiver → ComplexSample → Receiver
listen r x = with_signal r (hear r.signal x)

-- the counter less the filter's delay, less the ready time
unfoldable pub tdiff : Receiver → ℤ → ℤ
tdiff r c = c -ℤ pos 16 -ℤ r.clock.slot_ready_time

-- not within −2,040 to 0
unfoldable pub far : ℤ → Bool
far t = lt_z t (negsuc 2039) || lt_z (pos 0) t

-- the slots from the ready time to the counter, rounded up
unfoldable pub slots_to_skip : ℤ → ℤ
slots_to_skip t = neg_ℤ (div_euclid (neg_ℤ t) 1020)

unfoldable pub skip_if : Bool → ℤ → Receiver → Receiver
skip_if true t r = with_clock r (add_slots r.mode r.clock (slots_to_skip t))
skip_if false t r = r

-- the slots that the counter has passed are skipped
unfoldable pub skipped : Receiver → ℤ → Receiver
skipped r c = skip_if (far (tdiff r c)) (tdiff r c) r

-- whether a window closes at the counter c
unfoldable pub closes : Receiver → ℤ → Bool
closes r c = eq_z (c -ℤ pos 16) r.clock.slot_ready_time

unfoldable pub close_if : Bool → Receiver → ℤ → Receiver
close_if true r c = close_window r c
close_if false r c = r

-- a receiver whose newest sample has the counter c, up to the close of a window, and after it
unfoldable pub ready : Receiver → ℤ → Receiver
ready r c = skipped (valid r) c

unfoldable pub arrive : Receiver → ℤ → Receiver
arrive r c = close_if (closes (ready r c) c) (ready r c) c

unfoldable pub process_sample : Receiver → ComplexSample → ℤ → Receiver
process_sample r x c = arrive (listen r x) c

-- ---- `sample`

-- how many zeros are fed for a missing stretch: at most 1,020
unfoldable pub missing : ℤ → ℕ
missing (pos n) = min n 1020
missing (negsuc n) = 0

-- k zeros, under the counters just before c
unfoldable pub feed_zeros : ℕ → Receiver → ℤ → Receiver
feed_zeros zero r c = r
feed_zeros (suc k) r c = feed_zeros k (process_sample r silence (c -ℤ pos (suc k))) c

-- the zeros that stand before a sample with the counter c
unfoldable pub zeros_before : Receiver → ℤ → ℕ
zeros_before r c = missing (c -ℤ valid_count r.next)

-- an accepted sample
unfoldable pub accept : Receiver → ComplexSample → ℤ → Receiver
accept r x c = with_next (process_sample (feed_zeros (zeros_before r c) r c) x c) (c +ℤ pos 1)
