-- Slot numbers, sums of times and rounded quotients (01, "Times"; "What the Rust has that Rattle lacks"). Definitions only.
use Rattle.std.specs.Prelude.{ℕ, zero, suc, ◌-◌, ◌/◌, ◌%◌, ◌^◌, min, ℤ, pos, negsuc}

-- how many slot numbers there are: 4 slots, 18 frames, 60 multiframes, 65,536 hyperframes
abbrev pub slots : ℕ
slots = 283115520

-- the slot number of a whole number: 0 to 283,115,519, wrapping at both ends. `negsuc n` is −1 − n
unfoldable pub slot_of : ℤ → ℕ
slot_of (pos n) = n % slots
slot_of (negsuc n) = slots - 1 - n % slots

-- a whole number as 64 bits hold it: the nearest that they hold
unfoldable pub fitted : ℤ → ℤ
fitted (pos n) = pos (min n (2 ^ 63 - 1))
fitted (negsuc n) = negsuc (min n (2 ^ 63 - 1))

-- a divisor of 0 counts as 1
unfoldable pub divisor : ℕ → ℕ
divisor zero = 1
divisor (suc d) = suc d

-- n over d, rounded down
unfoldable pub div_euclid : ℤ → ℕ → ℤ
div_euclid (pos n) d = pos (n / divisor d)
div_euclid (negsuc n) d = negsuc (n / divisor d)
