-- 01's "burst view" (01, "Slot bits and burst views"), and how a stored burst stands for one. Definitions only.
use Rattle.std.specs.Prelude.{ℕ, zero, suc, ◌%◌, Bool, cond, not, ◌&&◌, List, [], ◌∷◌, map, eqb, leb, length, take}
use Rattle.burst_finder.specs.declared.Finding.{Finding}
use Rattle.burst_finder.specs.declared.SlotType.{SlotType}
use Rattle.burst_finder.specs.Slots.{most_errors, check_slot, type_number, get_burst}
use Rattle.rx_slot.specs.declared.RxBurst.{RxBurst}

-- type and errors of what was found in a window, its place there, and its part of the window's bits
pub record BurstView : Type 0 where
  pub type : ℕ
  pub errors : ℕ
  pub place : ℕ
  pub bits : List ℕ

-- 01: with nothing found the view is empty, at 0, with 100 errors
unfoldable pub no_view : BurstView
no_view = record { type = 0; errors = 100; place = 0; bits = [] }

-- the view of what was found in a window's bits: its part of them is what `get_burst` returns
unfoldable pub view_on : List ℕ → Finding → BurstView
view_on bits f =
    record {
      type = type_number f.train_type;
      errors = f.train_errs;
      place = f.burst_pos;
      bits = get_burst bits f.burst_pos f.burst_len;
    }

-- a window's bits, checked as a slot of this type
unfoldable pub checked : SlotType → List ℕ → BurstView
checked k bits = view_on bits (check_slot k bits)

-- ---- a view as it is stored

-- what was found, as it is stored
unfoldable pub stored_burst : Finding → RxBurst
stored_burst f =
    record { train_type = type_number f.train_type; train_errs = f.train_errs; burst_pos = f.burst_pos; burst_len = f.burst_len }

-- the view of a stored burst, in a window of the first n of these bits
unfoldable pub stored_view : ℕ → List ℕ → RxBurst → BurstView
stored_view n bits b =
    record { type = b.train_type; errors = b.train_errs; place = b.burst_pos; bits = get_burst (take n bits) b.burst_pos b.burst_len }

-- ---- a view as it is taken: one that no window could have left counts as none

-- a window can have left this view: a type from 1 to 4, accepted, with bits of the window
unfoldable pub is_found : BurstView → Bool
is_found v = not (eqb v.type 0) && (leb v.type 4 && (leb v.errors most_errors && not (eqb (length v.bits) 0)))

-- a bit byte counts modulo 2
unfoldable pub valid_view : BurstView → BurstView
valid_view v = cond (is_found v) (record { type = v.type; errors = v.errors; place = v.place; bits = map (λ b. b % 2) v.bits }) no_view

-- in numbers: of its bits their count, since the bits are the lent bytes
unfoldable pub burst_shown : BurstView → RxBurst
burst_shown v = record { train_type = v.type; train_errs = v.errors; burst_pos = v.place; burst_len = length v.bits }

-- n bytes: bits, and zeros behind them
unfoldable pub padded : ℕ → List ℕ → List ℕ
padded zero bits = []
padded (suc n) [] = 0 ∷ padded n []
padded (suc n) (b ∷ bits) = b ∷ padded n bits
