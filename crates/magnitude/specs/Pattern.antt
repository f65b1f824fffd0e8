-- How a bit pattern below 0x7f80_0000, a finite f32 that is not negative, stands for a whole number of units. The contracts of private functions cite this. Definitions only.
use Rattle.std.specs.Prelude.{ℕ, ◌+◌, ◌-◌, ◌*◌, ◌/◌, ◌%◌, ◌^◌, min, cond, ltb, Float}
use Rattle.std.specs.Float.{binary32}
use Rattle.std.specs.Float.Ieee.{is_nan, to_bits}

-- the pattern of x without its sign, or 0x7f80_0000 where x is NaN
unfoldable pub size_of : Float → ℕ
unfolding is_nan to_bits
size_of x = cond (is_nan x) 0x7f80_0000 (to_bits binary32 x % 0x8000_0000)

-- A pattern is exponent_of · 2 ^ 23 + significand_of. A field of 0 counts as a field of 1, and ℕ's subtraction stops at 0.
abbrev pub exponent_of : ℕ → ℕ
exponent_of p = p / 0x80_0000 - 1

abbrev pub significand_of : ℕ → ℕ
significand_of p = p - exponent_of p * 0x80_0000

-- the value in units
abbrev pub pattern_units : ℕ → ℕ
pattern_units p = significand_of p * 2 ^ exponent_of p

-- the largest pattern that stands for at most g · 2 ^ e units, for a g below 2 ^ 25, and of 2 ^ 23 at least where e is above 0
abbrev pub packed_of : ℕ → ℕ → ℕ
packed_of e g = min (cond (ltb g 0x100_0000) (e * 0x80_0000 + g) ((e + 1) * 0x80_0000 + g / 2)) 0x7f7f_ffff
