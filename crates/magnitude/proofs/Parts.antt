-- A part of a sample as `magnitude` reads it: NaN, infinite, or a whole number of units. Assumes nothing.
use mathlib.Core.Path.{◌≡◌, refl, sym, ap, ◌∙◌}
use mathlib.Core.Logic.{◌⊎◌, inl, inr}
use Prim.Native.Nat.{ℕ, ◌+◌, ◌%◌, ◌≤◌, ◌<◌}
use native.Mathlib.Nat.{lt_irrefl, lt_of_not-le}
use native.Mathlib.Omega.{arith}
use mathlib.Core.Bool.{Bool, true, false, not, ◌&&◌, ◌||◌, cond, true≢false}
use lib.Dec.{T, leb}
use borrow.Author.Tests.{le-ltb}
use lib.Ieee.{Float, nan, inf, fin, binary32, binary64, lt, le, is_nan, nan_bits, fits, of_bits, to_bits}
use lib.Ieee.Bits.{of_bits-to_bits, nan_bits_above, is_false}
use lib.Ieee.Scale.{finite}
use Rattle.std.specs.Float.{float_is_finite, IsFloatMin}
use Rattle.std.proofs.lemmas.Float.{le_left, T_from_true}
use Rattle.dsp_types.specs.Samples.{zero_f}
use Rattle.magnitude.specs.Magnitude.{units, square, largest, magnitude_of}
use Rattle.magnitude.specs.Pattern.{size_of, pattern_units}
use Rattle.magnitude.proofs.Largest.{largest_lt}
use Rattle.magnitude.proofs.Values.{Sized, sized_units, number_at, no_number_at}

-- ---- std's words
pub finite_is : (x : Float) → float_is_finite x ≡ finite x
unfolding float_is_finite
finite_is nan = refl
finite_is (inf s) = refl
finite_is (fin s m e) = refl

-- ---- what is below another is no NaN
pub below_not_nan : (x y : Float) → lt x y ≡ true → T (not (is_nan x))
unfolding lt is_nan
below_not_nan nan y e = absurd (true≢false (sym e))
below_not_nan (inf s) y e = tt
below_not_nan (fin s m k) y e = tt

-- the lesser of x and a number is a number, and one of the two
pub min_is : (x c r : Float) → T (not (is_nan c)) → IsFloatMin x c r → T (not (is_nan r)) × ((r ≡ x) ⊎ (r ≡ c))
min_is x c r n (inl e) = go (le x c) refl e
  where
    go : (b : Bool) → le x c ≡ b → r ≡ cond (b || is_nan c) x c → T (not (is_nan r)) × ((r ≡ x) ⊎ (r ≡ c))
    go true t h = (rw h (le_left x c (T_from_true (le x c) t)), inl h)
    go false t h = let k : r ≡ c = rw (is_false (is_nan c) n) at h in (rw k n, inr k)
min_is x c r n (inr e) = go (le c x) (is_nan x) refl e
  where
    go : (b d : Bool) → is_nan x ≡ d → r ≡ cond (b || d) c x → T (not (is_nan r)) × ((r ≡ x) ⊎ (r ≡ c))
    go true d t h = (rw h n, inr h)
    go false true t h = (rw h n, inr h)
    go false false t h = (rw (h, t) tt, inl h)

pub not_nan_pattern : (p : ℕ) → p < 0x7ff0_0000_0000_0000 → T (not (nan_bits binary64 p))
not_nan_pattern p h =
    let m : p % 0x8000_0000_0000_0000 ≡ p = omega arith in
    rw (nan_bits_above, m, le-ltb 0x7ff0_0000_0000_0000 p (omega arith)) tt

pub size_is : (x : Float) → T (not (is_nan x)) → to_bits binary32 x % 0x8000_0000 ≡ size_of x
unfolding size_of
size_is x h = rw (is_false (is_nan x) h)

-- ---- the size tells whether x is a number, and which
pub no_number : (x : Float) → T (fits binary32 x) → 0x7f80_0000 ≤ size_of x → finite x ≡ false
unfolding size_of
no_number nan f h = refl
no_number (inf s) f h = refl
no_number (fin s m e) f h =
    let x = fin s m e in
    ap finite (sym (of_bits-to_bits binary32 x f)) ∙ no_number_at (to_bits binary32 x) h

pub number : (x : Float) → T (fits binary32 x) → size_of x < 0x7f80_0000 → Sized x (leb 0x8000_0000 (to_bits binary32 x)) (pattern_units (size_of x))
unfolding size_of
number nan f h = absurd (lt_irrefl 0x7f80_0000 h)
number (inf s) f h = rw of_bits-to_bits at (number_at (to_bits binary32 (inf s)) h)
number (fin s m e) f h = rw of_bits-to_bits at (number_at (to_bits binary32 (fin s m e)) h)

pub units_size : (x : Float) → T (fits binary32 x) → size_of x < 0x7f80_0000 → units x ≡ pattern_units (size_of x)
units_size x f h = sized_units x (leb 0x8000_0000 (to_bits binary32 x)) (pattern_units (size_of x)) (number x f h)

pub size_lt : (x : Float) → T (fits binary32 x) → finite x ≡ true → size_of x < 0x7f80_0000
size_lt x f h = lt_of_not-le (λ g. absurd (true≢false (sym h ∙ no_number x f g)))

-- ---- the result
pub zero_first : (re im : Float) → finite re ≡ false → magnitude_of re im ≡ zero_f
unfolding magnitude_of
zero_first re im e = simp e

pub zero_second : (re im : Float) → finite im ≡ false → magnitude_of re im ≡ zero_f
unfolding magnitude_of
zero_second re im e = go (finite re)
  where
    go : (b : Bool) → cond (b && finite im) (of_bits binary32 (largest (square (units re) + square (units im)))) zero_f ≡ zero_f
    go true = simp e
    go false = refl

pub two_numbers : (re im : Float) → finite re ≡ true → finite im ≡ true → magnitude_of re im ≡ of_bits binary32 (largest (square (units re) + square (units im)))
unfolding magnitude_of
two_numbers re im a b = simp (a, b)

pub not_nan_bits : (p : ℕ) → p < 0x7f80_0000 → T (not (nan_bits binary32 p))
not_nan_bits p h =
    let m : p % 0x8000_0000 ≡ p = omega arith in
    rw (nan_bits_above, m, le-ltb 0x7f80_0000 p (omega arith)) tt

pub largest_number : (n p : ℕ) → p ≡ largest n → T (not (nan_bits binary32 p))
largest_number n p e = not_nan_bits p (rw e (largest_lt n))

pub two_sizes : (re im : Float) (x y p : ℕ) → T (fits binary32 re) → T (fits binary32 im) → finite re ≡ true → finite im ≡ true → x ≡ size_of re → y ≡ size_of im
    → p ≡ largest (square (pattern_units x) + square (pattern_units y)) → of_bits binary32 p ≡ magnitude_of re im
two_sizes re im x y p f g a b h k e = rw (two_numbers re im a b, units_size re f (size_lt re f a), units_size im g (size_lt im g b), e, h, k)
