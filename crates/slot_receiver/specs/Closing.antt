-- The counters at which windows close (02, point 2: "the sample counter at which its window closed, before the filter delay is taken off; for
-- a fed zero that is the missing counter the source feeds it under. A later search window leaves it as it is"). Definitions only.
use Rattle.std.specs.Prelude.{◌≡◌, ℕ, ◌≤◌, ◌<◌, List, [], ◌∷◌, ℤ, pos, nat_abs}
use mathlib.Core.List.{Memᴰ}
use Rattle.dsp_types.specs.declared.ComplexSample.{ComplexSample}
use Rattle.rx_slot.specs.Slots.{HandedSlot}
use Rattle.slot_receiver.specs.Receiver.{Receiver, valid_count, feed_zeros, zeros_before, accept}
use Rattle.slot_receiver.specs.Windows.{Kind, searched, lock, slot, Window, window_of, zeros_windows, accept_windows}

-- n for a window that hands a slot over, else the counter before it
unfoldable pub closing_on : Kind → ℕ → ℤ → ℤ
closing_on searched n before = before
closing_on lock n before = before
closing_on (slot h) n before = pos n

-- the counter of the last window that handed a slot over, or the one before them all
unfoldable pub last_closing : List Window → ℤ → ℤ
last_closing [] before = before
last_closing (w ∷ ws) before = closing_on w.kind w.counter (last_closing ws before)

-- of an accepted sample x with the counter c, and the zeros fed before it
pub record ClosedAt (r : Receiver) (x : ComplexSample) (c : ℤ) : Type 0 where
  -- a window that closes with the sample has the sample's own counter
  pub sample : (w : Window) → Memᴰ w (window_of (feed_zeros (zeros_before r c) r c) x c) → pos w.counter ≡ c
  -- .. with a zero one that is missing: not before the expected counter, and before the sample's
  pub zero : (w : Window) → Memᴰ w (zeros_windows (zeros_before r c) r c) → (nat_abs (valid_count r.next) ≤ w.counter) × (w.counter < nat_abs c)
  -- each slot that is handed over carries its window's, and the receiver after them keeps the last one's
  pub own : (w : Window) (h : HandedSlot) → Memᴰ w (accept_windows r x c) → w.kind ≡ slot h → h.closing_counter ≡ pos w.counter
  pub last : (accept r x c).slot.closing_counter ≡ last_closing (accept_windows r x c) r.slot.closing_counter
