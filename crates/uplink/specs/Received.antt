-- An uplink receiver that closes a window with a built burst in it: the slot is taken with that burst (02, point 1); and the counter at which
-- the window of a taken slot closed (02, point 2). Definitions only.
use Rattle.std.specs.Prelude.{◌≡◌, cond, List, [], ◌∷◌, ◌++◌, ℕ, zero, suc, ◌*◌, ◌≤◌, ℤ, pos, ◌-ℤ◌, get_or}
use Rattle.dsp_types.specs.declared.ComplexSample.{ComplexSample}
use Rattle.dsp_types.specs.Refusals.{accepted}
use Rattle.dsp_types.specs.Samples.{silence}
use Rattle.burst_finder.specs.Slots.{get_burst}
use Rattle.listener.specs.Signal.{bits_of, window_bits}
use Rattle.rx_slot.specs.declared.RxBurst.{RxBurst}
use Rattle.rx_slot.specs.declared.RxSlot.{RxSlot}
use Rattle.rx_slot.specs.Views.{BurstView, view_on, burst_shown, padded}
use Rattle.rx_slot.specs.Slots.{valid_closing}
use Rattle.slot_receiver.specs.declared.Mode.TheVariants.{Ul}
use Rattle.slot_receiver.specs.Receiver.{Receiver, valid_count, listen, ready, closes, process_sample, feed_zeros, zeros_before}
use Rattle.slot_receiver.specs.Calls.{Reply, took, Outcome, sample_refusal, sample_outcome, take_outcome}
use Rattle.slot_receiver.specs.Windows.{accept_windows}
use Rattle.slot_receiver.specs.Closing.{last_closing, ClosedAt}
use Rattle.slotter.specs.Uplink.{normal_uplink, control_uplink, uplink_number, uplink_bits}
use Rattle.uplink.specs.Placed.{normal_window, control_window, NormalReported, ControlReported}

-- a sample, and then a take
unfoldable pub taken_after : Receiver → ComplexSample → ℤ → (slot subslot1 subslot2 : List ℕ) → Outcome
taken_after r x c slot subslot1 subslot2 = take_outcome (sample_outcome r x c).receiver slot subslot1 subslot2

-- ---- the windows that close in a call, the last first. (`same_windows` of proofs/Taking: they are those of `accept_windows`.)

-- the receiver as a window's last sample has come in, and that one's counter
pub record ClosingWindow : Type 0 where
  pub receiver : Receiver
  pub counter : ℤ

-- with the newest sample, which has the counter c
unfoldable pub closed_at : Receiver → ℤ → List ClosingWindow
closed_at r c = cond (closes (ready r c) c) (record { receiver = ready r c; counter = c } ∷ []) []

-- with k zeros, under the counters just before c
unfoldable pub closed_by_zeros : ℕ → Receiver → ℤ → List ClosingWindow
closed_by_zeros zero r c = []
closed_by_zeros (suc k) r c = closed_by_zeros k (process_sample r silence (c -ℤ pos (suc k))) c ++ closed_at (listen r silence) (c -ℤ pos (suc k))

-- with an accepted sample, those of the zeros before it included
unfoldable pub closed_in : Receiver → ComplexSample → ℤ → List ClosingWindow
closed_in r x c = closed_at (listen (feed_zeros (zeros_before r c) r c) x) c ++ closed_by_zeros (zeros_before r c) r c

-- the sample is accepted, and the last window that closes with it, or with a zero before it, is an uplink receiver's: w, as it closes
pub record ClosesUplink (r : Receiver) (x : ComplexSample) (c : ℤ) (w : ClosingWindow) : Type 0 where
  pub accepts : sample_refusal (valid_count r.next) x c ≡ accepted
  pub earlier : List ClosingWindow
  pub last : closed_in r x c ≡ w ∷ earlier
  pub uplink : w.receiver.mode ≡ Ul

-- ---- the take after it

-- a slot was taken that has this view of one of its windows, of n bits: in its numbers, and in the i-th of the slices lent to it
pub record Took (numbers : RxSlot → RxBurst) (i n : ℕ) (reply : Reply RxSlot) (lent : List (List ℕ)) (view : BurstView) : Type 0 where
  pub slot : RxSlot
  pub answer : reply ≡ took slot
  pub shown : numbers slot ≡ burst_shown view
  pub bytes : get_or lent i [] ≡ padded n view.bits

-- a control burst in a half window with these bits
abbrev pub ControlTaken : (bits : List ℕ) (said : BurstView → Type 0) → Type 0
ControlTaken bits said =
    (blk1 blk2 : List ℕ) (k : ℕ) → uplink_number (control_uplink blk1 blk2) ≡ accepted → k ≤ 24 → bits ≡ control_window blk1 blk2 (2 * k)
    → ControlReported (λ f. said (view_on bits f)) bits k

-- what is then taken into slices of the right lengths: the slot has the counter at which its window closed, and a burst that the window holds is
-- reported
pub record BurstsTaken (w : ClosingWindow) (reply : Reply RxSlot) (lent : List (List ℕ)) : Type 0 where
  pub counter : (slot : RxSlot) → reply ≡ took slot → slot.closing_counter.0 ≡ w.counter
  pub full : (train : ℕ) (blk1 blk2 : List ℕ) (k : ℕ) → uplink_number (normal_uplink train blk1 blk2) ≡ accepted → k ≤ 24
      → window_bits w.receiver.signal ≡ normal_window train blk1 blk2 (2 * k)
      → NormalReported (λ f. Took (λ s. s.full) 0 510 reply lent (view_on (window_bits w.receiver.signal) f)) train (window_bits w.receiver.signal) k
  pub first_half : ControlTaken (bits_of w.receiver.signal 1024 128) (Took (λ s. s.subslot1) 1 254 reply lent)
  pub second_half : ControlTaken (bits_of w.receiver.signal 514 128) (Took (λ s. s.subslot2) 2 254 reply lent)
  -- .. and the view of a burst at its own offset has that burst's very bits
  pub full_bits : (train : ℕ) (blk1 blk2 : List ℕ) (k : ℕ) → uplink_number (normal_uplink train blk1 blk2) ≡ accepted → k ≤ 24
      → get_burst (normal_window train blk1 blk2 (2 * k)) (2 * k) 462 ≡ uplink_bits (normal_uplink train blk1 blk2)
  pub half_bits : (blk1 blk2 : List ℕ) (k : ℕ) → uplink_number (control_uplink blk1 blk2) ≡ accepted → k ≤ 24
      → get_burst (control_window blk1 blk2 (2 * k)) (2 * k) 206 ≡ uplink_bits (control_uplink blk1 blk2)

-- ---- a receiver in any mode: a taken slot has the closing counter of the last window that handed one over, with the sample or with a zero
-- before it (02, point 2)
pub record CounterTaken (r : Receiver) (x : ComplexSample) (c : ℤ) (slot : RxSlot) : Type 0 where
  pub windows : ClosedAt r x c
  pub taken : slot.closing_counter.0 ≡ valid_closing (last_closing (accept_windows r x c) r.slot.closing_counter)
