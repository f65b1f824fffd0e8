-- The level of parts as a radio's meter shows it, in decibels below full scale: −k dBFS is 10^(−k/20) of 1.0. Definitions only.
use Rattle.std.specs.Prelude.{ℕ, zero, suc, ◌+◌, ◌*◌, ◌%◌, ◌^◌, max, List, [], ◌∷◌, Bool, true, false, ◌&&◌, cond, ltb, Float}
use Rattle.std.specs.Float.{nan, inf, fin, binary32}
use Rattle.std.specs.Float.Ieee.{is_nan, to_bits}
use Rattle.magnitude.specs.Magnitude.{units}

-- whether u / 2^149 is below 10^(−k/20): the 20th powers, in whole numbers
unfoldable pub less_than_db : ℕ → ℕ → Bool
less_than_db k u = ltb (u ^ 20 * 10 ^ k) (2 ^ (149 * 20))

-- whether a part is below −k dBFS: every finite f32 is a whole number of units of 2^−149. NaN counts as 0.
unfoldable pub quieter : ℕ → Float → Bool
quieter k nan = true
quieter k (inf s) = false
quieter k (fin s m e) = less_than_db k (units (fin s m e))

-- whether all parts are
unfoldable pub all_quieter : ℕ → List Float → Bool
all_quieter k [] = true
all_quieter k (x ∷ parts) = quieter k x && all_quieter k parts

-- how many of 0, −1, −2, .. dBFS all parts are below, of the first n
unfoldable pub steps_above : ℕ → List Float → ℕ
steps_above zero parts = 0
steps_above (suc k) parts = steps_above k parts + cond (all_quieter k parts) 1 0

-- the level in dB below full scale, rounded up: 0 where a part is 1.0 or more, 7 where the largest is 0.5, at most 99
unfoldable pub level_of : List Float → ℕ
level_of parts = steps_above 99 parts

-- ---- cited by private functions

-- the bit pattern of a part without its sign; NaN counts as 0. These patterns are in the order of the sizes.
unfoldable pub loudness : Float → ℕ
loudness x = cond (is_nan x) 0 (to_bits binary32 x % 0x8000_0000)

-- the largest of parts
unfoldable pub peak_of : List Float → ℕ
peak_of [] = 0
peak_of (x ∷ parts) = max (loudness x) (peak_of parts)
