-- The stand-in for `abs()` (01, "The past"): the largest f32 whose square is not above re² + im², exactly. Definitions only.
-- Every finite f32 is a whole number of units of 2 ^ -149, the smallest positive one, so the squares are compared as whole numbers.
use Rattle.std.specs.Prelude.{ℕ, zero, suc, ◌+◌, ◌*◌, ◌/◌, ◌^◌, Bool, ◌&&◌, cond, List, [], ◌∷◌, leb, ltb, Float}
use Rattle.std.specs.Float.{nan, inf, fin, binary32}
use Rattle.std.specs.Float.Ieee.{up, down, of_bits}
use Rattle.std.specs.Float.Ieee.Scale.{finite}
use Rattle.dsp_types.specs.Samples.{zero_f}

-- the size of a finite f32 in units; `fin s m e` is m · 2 ^ e, and 2 ^ e is up e / down e
unfoldable pub units : Float → ℕ
units nan = 0
units (inf s) = 0
units (fin s m e) = m * up e * 2 ^ 149 / down e

abbrev pub square : ℕ → ℕ
square a = a * a

-- The bit pattern p is a finite f32 that is not negative, and its square is not above n. The patterns of these f32s, 0 to 0x7f7f_ffff, are in the order of their values.
unfoldable pub under : ℕ → ℕ → Bool
unfolding units of_bits
under n p = ltb p 0x7f80_0000 && leb (square (units (of_bits binary32 p))) n

-- the largest number below p + 2 ^ k that passes the test, found digit by digit from the highest on: for a test that p passes, and that passes below whatever passes
unfoldable pub raised : (ℕ → Bool) → ℕ → ℕ → ℕ
raised test zero p = p
raised test (suc k) p = raised test k (cond (test (p + 2 ^ k)) (p + 2 ^ k) p)

-- the pattern of the largest f32 whose square is not above n
unfoldable pub largest : ℕ → ℕ
unfolding under raised
largest n = raised (under n) 31 0

-- the magnitude of the sample (re, im); 0.0 where a part is NaN or infinite
unfoldable pub magnitude_of : Float → Float → Float
unfolding largest units of_bits
magnitude_of re im = cond (finite re && finite im) (of_bits binary32 (largest (square (units re) + square (units im)))) zero_f

-- the magnitudes of samples (01, "The past") at the start of a buffer, as far as it and both lists of parts go; what is behind them stays
unfoldable pub magnitudes_in : List Float → List Float → List Float → List Float
magnitudes_in [] im out = out
magnitudes_in (x ∷ re) [] out = out
magnitudes_in (x ∷ re) (y ∷ im) [] = []
magnitudes_in (x ∷ re) (y ∷ im) (o ∷ out) = magnitude_of x y ∷ magnitudes_in re im out
