-- Which windows hand a slot over. Assumes nothing.
use mathlib.Core.Path.{◌≡◌, refl, sym}
use mathlib.Core.Bool.{true, false, or-false}
use lib.IntN.{ℤ}
use Rattle.slot_receiver.specs.declared.Mode.{Mode}
use Rattle.slot_receiver.specs.declared.Mode.TheVariants.{Idle, DlUnsynchronized, Dl, Ul}
use Rattle.slot_receiver.specs.Receiver.{Receiver, close_window}
use Rattle.slot_receiver.specs.Windows.{search_kind, kind_of, is_slot, hands_over, window_if}

pub search_hands_none : (m : Mode) → false ≡ is_slot (search_kind m)
unfolding is_slot search_kind
search_hands_none Idle = refl
search_hands_none DlUnsynchronized = refl
search_hands_none Dl = refl
search_hands_none Ul = refl

pub hands_closed : (r : Receiver) (c : ℤ) → is_slot (kind_of r.mode (close_window r c)) ≡ hands_over (window_if true r c)
unfolding hands_over window_if
hands_closed r c = sym (or-false (is_slot (kind_of r.mode (close_window r c))))

pub hands_none : (r : Receiver) (c : ℤ) → false ≡ hands_over (window_if false r c)
unfolding hands_over window_if
hands_none r c = refl
