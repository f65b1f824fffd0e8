-- The rules of document 01's account of a list of calls: what one accepted sample makes of it. Definitions only. Windows stand THE LAST FIRST.
use Rattle.std.specs.Prelude.{◌≡◌, Bool, true, false, List, [], ◌∷◌, ℕ, zero, suc, ◌+◌, ◌%◌, ◌≤◌, ◌<◌, pos}
use Rattle.dsp_types.specs.Times.{slots}
use Rattle.burst_finder.specs.declared.SlotType.TheVariants as SlotType
use Rattle.burst_finder.specs.Search.{Holds}
use Rattle.rx_slot.specs.Views.{BurstView, no_view, checked}
use Rattle.rx_slot.specs.Slots.{HandedSlot}
use Rattle.slot_receiver.specs.Windows.{searched, lock, slot, Window}

-- 01's "account": when the next closing is due, whether it is locked or in search, the next number, misses, and the windows closed so far
pub record Account : Type 0 where
  pub due : ℕ
  pub locked : Bool
  pub number : ℕ
  pub misses : ℕ
  pub windows : List Window

-- "It starts in search with a closing due at 1,034."
abbrev pub start : Account
start = record { due = 1034; locked = false; number = 0; misses = 0; windows = [] }

-- "the downlink order above gives the window's type"
unfoldable pub type_of : List ℕ → ℕ
type_of bits = (checked SlotType.Dl bits).type

-- a downlink slot with this number and this view, whose window closed at n: nothing is found in its halves
unfoldable pub slot_with : Account → (n : ℕ) → BurstView → HandedSlot
slot_with a n v = record { time = a.number; closing_counter = pos n; full = v; subslot1 = no_view; subslot2 = no_view }

-- the slot of a locked window's bits: with the burst view of that type
unfoldable pub slot_in : Account → (n : ℕ) → (bits : List ℕ) → HandedSlot
slot_in a n bits = slot_with a n (checked SlotType.Dl bits)

-- "Type 0 is a miss; another type sets misses to 0."
unfoldable pub next_misses : (type misses : ℕ) → ℕ
next_misses zero m = suc m
next_misses (suc t) m = 0

-- "the next number, which then grows by 1, wrapping"
unfoldable pub next_number : ℕ → ℕ
next_number n = suc n % slots

-- ---- the account after a window that closed at n

-- a search window: it goes on searching
abbrev pub unfound : Account → ℕ → Account
unfound a n = record { due = n + 400; locked = false; number = a.number; misses = a.misses; windows = record { counter = n; kind = searched } ∷ a.windows }

-- a search window: "the account is locked, the next number is 1, misses are 0, and the next closing is due 4 to 516 later"
abbrev pub locked : Account → ℕ → (gap : ℕ) → Account
locked a n gap = record { due = n + gap; locked = true; number = 1; misses = 0; windows = record { counter = n; kind = lock } ∷ a.windows }

-- a locked window: "the slot is handed over with it and with the next number", and with the window's counter (02, point 2); the lock is kept
-- or lost
abbrev pub handed : Account → ℕ → List ℕ → (kept : Bool) (gap : ℕ) → Account
handed a n bits kept gap =
    record {
      due = n + gap;
      locked = kept;
      number = next_number a.number;
      misses = next_misses (type_of bits) a.misses;
      windows = record { counter = n; kind = slot (slot_in a n bits) } ∷ a.windows;
    }

-- from the account before the sample with the counter n, whose window, if one closes, has these bits, to the account after it
pub data Turn (a : Account) (n : ℕ) (bits : List ℕ) : Account → Type 0 where
  -- no closing is due
  between : (n ≡ a.due → ⊥) → Turn a n bits a
  -- "In search: if demand 3's lock rule holds, the account is locked, .. else 400 later."
  stays : n ≡ a.due → a.locked ≡ false → (Holds bits → ⊥) → Turn a n bits (unfound a n)
  locks : (gap : ℕ) → n ≡ a.due → a.locked ≡ false → Holds bits → 4 ≤ gap → gap ≤ 516 → Turn a n bits (locked a n gap)
  -- "Locked: .. At 100 misses it is in search, due 400 later; else due 1,019 to 1,021 later."
  hands : (gap : ℕ) → n ≡ a.due → a.locked ≡ true → next_misses (type_of bits) a.misses < 100 → 1019 ≤ gap → gap ≤ 1021
      → Turn a n bits (handed a n bits true gap)
  loses : n ≡ a.due → a.locked ≡ true → next_misses (type_of bits) a.misses ≡ 100 → Turn a n bits (handed a n bits false 400)
