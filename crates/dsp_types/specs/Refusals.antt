-- The refusals (01, "Refusals"): their numbers, and the tests of the input that several calls share. Definitions only.
-- Each call's own definition puts its tests in the order of the numbers, so that the smallest that holds is given.
use Rattle.std.specs.Prelude.{ℕ, ◌-◌, Bool, true, false, not, ◌&&◌, ◌||◌, List, [], ◌∷◌, ltb, eqb, length, ℤ, pos, negsuc, Float}
use Rattle.std.specs.Float.{binary32}
use Rattle.std.specs.Float.Ieee.{of_bits, le}

-- what stands for "none of them": the call is accepted
abbrev pub accepted : ℕ
accepted = 0

-- a sample part is NaN, infinite, or beyond 1,024 either side of zero
abbrev pub bad_sample : ℕ
bad_sample = 1

-- a sample counter is below 0 or above 137,438,953,471
abbrev pub bad_counter : ℕ
bad_counter = 2

-- a slice has the wrong length
abbrev pub bad_length : ℕ
bad_length = 3

-- a bit byte is neither 0 nor 1
abbrev pub bad_bit : ℕ
bad_bit = 4

-- a normal burst is wanted with a training sequence other than 1 or 2
abbrev pub bad_training : ℕ
bad_training = 5

-- a slot number to send is above 283,115,519
abbrev pub bad_slot : ℕ
bad_slot = 6

-- a slot kind given by the logger is above 2
abbrev pub bad_kind : ℕ
bad_kind = 7

-- the receiver's counter is below the one after its last accepted sample
abbrev pub past_counter : ℕ
past_counter = 10

-- no slot waits to be taken
abbrev pub no_slot_waits : ℕ
no_slot_waits = 11

-- the sender needs the next slot
abbrev pub need_more_data : ℕ
need_more_data = 12

-- the receiver told to follow is itself in Dl or DlUnsynchronized
abbrev pub not_following : ℕ
not_following = 13

-- ---- tests of the input

-- a part of a sample is refused (1): NaN is neither at least −1,024 nor at most 1,024
unfoldable pub beyond : Float → Bool
beyond x = not (le (of_bits binary32 0xc480_0000) x && le x (of_bits binary32 0x4480_0000))

-- how many sample counters there are, and the last that is not refused
abbrev pub counters : ℕ
counters = 137438953472

abbrev pub last_counter : ℕ
last_counter = counters - 1

-- a sample counter is refused (2)
unfoldable pub out_of_count : ℤ → Bool
out_of_count (pos n) = ltb last_counter n
out_of_count (negsuc n) = true

-- a slice that should have n elements is refused (3)
unfoldable pub wrong_length : {A : Type 0} → ℕ → List A → Bool
wrong_length n xs = not (eqb (length xs) n)

-- bit bytes are refused (4): one of them is neither 0 nor 1
unfoldable pub not_bits : List ℕ → Bool
not_bits [] = false
not_bits (b ∷ bs) = ltb 1 b || not_bits bs
