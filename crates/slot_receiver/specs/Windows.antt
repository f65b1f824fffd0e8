-- Which windows a sample closes (01, "The receiver"). Definitions only. Windows stand the last first.
use Rattle.std.specs.Prelude.{ℕ, zero, suc, Bool, true, false, ◌||◌, List, [], ◌∷◌, ◌++◌, ℤ, pos, nat_abs, ◌-ℤ◌}
use Rattle.dsp_types.specs.declared.ComplexSample.{ComplexSample}
use Rattle.dsp_types.specs.Samples.{silence}
use Rattle.rx_slot.specs.Slots.{HandedSlot}
use Rattle.slot_receiver.specs.declared.Mode.{Mode}
use Rattle.slot_receiver.specs.declared.Mode.TheVariants.{Idle, DlUnsynchronized, Dl, Ul}
use Rattle.slot_receiver.specs.Receiver.{Receiver, process_sample, listen, ready, closes, close_window, feed_zeros, zeros_before}

-- a search window that leaves the receiver searching, one that it locks on, or a slot that is handed over. (An idle receiver's window is
-- read by nobody: `searched`.)
pub data Kind : Type 0 where
  searched lock : Kind
  slot : HandedSlot → Kind

pub record Window : Type 0 where
  pub counter : ℕ
  pub kind : Kind

-- a search window, by the mode after it
unfoldable pub search_kind : Mode → Kind
search_kind Idle = searched
search_kind DlUnsynchronized = searched
search_kind Dl = lock
search_kind Ul = searched

-- what the window was, by the mode before it closed and the receiver after
unfoldable pub kind_of : Mode → Receiver → Kind
kind_of Idle r = searched
kind_of DlUnsynchronized r = search_kind r.mode
kind_of Dl r = slot r.slot
kind_of Ul r = slot r.slot

unfoldable pub window_if : Bool → Receiver → ℤ → List Window
window_if true r c = record { counter = nat_abs c; kind = kind_of r.mode (close_window r c) } ∷ []
window_if false r c = []

-- the window that closes where the newest sample has the counter c, if one does
unfoldable pub window_at : Receiver → ℤ → List Window
window_at r c = window_if (closes (ready r c) c) (ready r c) c

unfoldable pub window_of : Receiver → ComplexSample → ℤ → List Window
window_of r x c = window_at (listen r x) c

unfoldable pub zeros_windows : ℕ → Receiver → ℤ → List Window
zeros_windows zero r c = []
zeros_windows (suc k) r c = zeros_windows k (process_sample r silence (c -ℤ pos (suc k))) c ++ window_of r silence (c -ℤ pos (suc k))

-- the windows that an accepted sample closes, those of the zeros before it included
unfoldable pub accept_windows : Receiver → ComplexSample → ℤ → List Window
accept_windows r x c = window_of (feed_zeros (zeros_before r c) r c) x c ++ zeros_windows (zeros_before r c) r c

unfoldable pub is_slot : Kind → Bool
is_slot searched = false
is_slot lock = false
is_slot (slot h) = true

-- whether one of the windows hands a slot over
unfoldable pub hands_over : List Window → Bool
hands_over [] = false
hands_over (w ∷ ws) = is_slot w.kind || hands_over ws
