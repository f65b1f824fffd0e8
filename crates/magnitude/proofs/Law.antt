-- `magnitude_of` is what 01 says of the stand-in for `abs()`: every f32 is the pattern of its size with a sign, and `largest` finds the largest pattern. Assumes nothing.
use mathlib.Core.Path.{◌≡◌, refl, sym, ◌∙◌}
use mathlib.Core.Logic.{inl, inr}
use Prim.Native.Nat.{ℕ, ◌+◌, ◌*◌, ◌^◌, ◌≤◌, ◌<◌}
use native.Mathlib.Nat.{eq-zero-or-pos, mul-le-mul_right}
use native.Mathlib.Omega.{arith}
use mathlib.Core.Bool.{Bool, true, false, ◌&&◌, ◌||◌, true≢false, false≢true}
use lib.Dec.{T, leb, ltb, eqb, lit<}
use lib.Pow.{pow_pos}
use borrow.Author.Tests.{lt-ltb}
use lib.Ieee.{Float, nan, inf, fin, binary32, up, down, fits, le, of_bits, to_bits}
use lib.Ieee.Bits.{of_bits-fits}
use lib.Ieee.Order.{le_of_values}
use lib.Ieee.Scale.{finite}
use Rattle.dsp_types.specs.Samples.{zero_f}
use Rattle.magnitude.specs.Magnitude.{units, square, under, largest, magnitude_of}
use Rattle.magnitude.specs.Pattern.{size_of, pattern_units}
use Rattle.magnitude.specs.Document.{Number, LargestUnder, StandIn}
use Rattle.magnitude.proofs.Values.{Sized, sized_finite, sized_units, unsigned_at, pattern_mono}
use Rattle.magnitude.proofs.Largest.{no_higher, largest_top, largest_lt, under_intro, under_elim}
use Rattle.magnitude.proofs.Parts.{number, size_lt, units_size, zero_first, zero_second, two_numbers}

-- ---- every finite f32 is a number, and so is every pattern that stands for one
pub number_law : (x : Float) → T (fits binary32 x) → finite x ≡ true → Number x
number_law x f h =
    let l = size_lt x f h in
    record {
      held = f;
      sign = leb 0x8000_0000 (to_bits binary32 x);
      exact = rw (units_size x f l) (number x f l);
    }

pattern_number : (p : ℕ) → p < 0x7f80_0000 → Number (of_bits binary32 p)
pattern_number p h = record {
  held = of_bits-fits binary32 p;
  sign = false;
  exact = rw (sized_units (of_bits binary32 p) false (pattern_units p) (unsigned_at p h)) (unsigned_at p h);
}

-- ---- a negative value, or −0.0, is at most one that is not negative
negative_le : (x r : Float) (a b : ℕ) → Sized x true a → Sized r false b → T (le x r)
unfolding le
negative_le nan r a b p q = absurd p
negative_le (inf s) r a b p q = absurd p
negative_le (fin false m e) r a b p q = absurd (false≢true p.0)
negative_le (fin true m e) nan a b p q = absurd q
negative_le (fin true m e) (inf t) a b p q = absurd q
negative_le (fin true m e) (fin true n f) a b p q = absurd (true≢false q.0)
negative_le (fin true m e) (fin false n f) a b p q = below_or_zero (m * up e * down f) (n * up f * down e)
  where
    below_or_zero : (a b : ℕ) → T (ltb 0 (a + b) || (eqb a b && (false || eqb a 0)))
    below_or_zero a b = elim (eq-zero-or-pos (a + b)) [
      | inl e ↦
          let A : a ≡ 0 = omega arith in
          let B : b ≡ 0 = omega arith in
          rw (A, B) tt
      | inr h ↦ rw (lt-ltb 0 (a + b) h) tt
    ]

-- ---- the law
module _ (n : ℕ) where
  largest_units : units (of_bits binary32 (largest n)) ≡ pattern_units (largest n)
  largest_units = sized_units (of_bits binary32 (largest n)) false (pattern_units (largest n)) (unsigned_at (largest n) (largest_lt n))

  -- where x's square is not above n, x's size is at most the largest
  size_le : (x : Float) → Number x → square (units x) ≤ n → units x ≤ pattern_units (largest n)
  size_le x h k =
      let l = size_lt x h.held (sized_finite x h.sign (units x) h.exact) in
      let e = units_size x h.held l in
      rw e (pattern_mono (size_of x) (largest n) (no_higher (under n) (largest n) (size_of x) (largest_top n) (under_intro n (size_of x) l (rw e at k))))

  no_larger : (x : Float) → Number x → square (units x) ≤ n → T (le x (of_bits binary32 (largest n)))
  no_larger x h k = go h.sign h.exact
    where
      go : (s : Bool) → Sized x s (units x) → T (le x (of_bits binary32 (largest n)))
      go true u = negative_le x (of_bits binary32 (largest n)) (units x) (pattern_units (largest n)) u (unsigned_at (largest n) (largest_lt n))
      go false u =
          le_of_values x (of_bits binary32 (largest n)) (units x) (2 ^ 149) (pattern_units (largest n)) (2 ^ 149) (pow_pos 149) (pow_pos 149) u
          (unsigned_at (largest n) (largest_lt n)) (mul-le-mul_right (2 ^ 149) (size_le x h k))

largest_law : (re im : Float) → Number re → Number im → LargestUnder re im (of_bits binary32 (largest (square (units re) + square (units im))))
largest_law re im a b =
    let n = square (units re) + square (units im) in
    record {
      first = a;
      second = b;
      not_above = rw (largest_units n) (under_elim n (largest n) (largest_top n).0).1;
      no_larger = no_larger n;
    }

stand_in : (re im : Float) (p : ℕ) → p < 0x7f80_0000 → (finite re ≡ true → finite im ≡ true → LargestUnder re im (of_bits binary32 p))
    → ((finite re && finite im) ≡ false → of_bits binary32 p ≡ zero_f) → StandIn re im (of_bits binary32 p)
unfolding pattern_number
stand_in re im p h l z = record { number = pattern_number p h; largest = l; otherwise = z; unsigned = refl }

pub magnitude_law : (re im : Float) → T (fits binary32 re) → T (fits binary32 im) → StandIn re im (magnitude_of re im)
magnitude_law re im f g = go (finite re) (finite im) refl refl
  where
    go : (a b : Bool) → finite re ≡ a → finite im ≡ b → StandIn re im (magnitude_of re im)
    go true true p q =
        let n = square (units re) + square (units im) in
        rw (two_numbers re im p q)
        (stand_in re im (largest n) (largest_lt n) (λ a b. largest_law re im (number_law re f p) (number_law im g q)) (λ h. absurd (true≢false (sym (simp (p, q)) ∙ h))))
    go true false p q = rw (zero_second re im q) (stand_in re im 0 (lit< tt) (λ a b. absurd (true≢false (sym b ∙ q))) (λ h. refl))
    go false b p q = rw (zero_first re im p) (stand_in re im 0 (lit< tt) (λ a b. absurd (true≢false (sym a ∙ p))) (λ h. refl))
