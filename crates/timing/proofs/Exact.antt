-- The quarter turns of the axes and diagonals are exact: the smaller magnitude over the larger is 0 or 1 there, and no operation after that rounds. Assumes nothing.
use mathlib.Core.Path.{◌≡◌, refl}
use Prim.Native.Nat.{ℕ, ◌+◌, ◌*◌, ◌<◌}
use native.Mathlib.Nat.{mul-pos, zero-lt-suc, zero-mul}
use native.Mathlib.Omega.{arith}
use mathlib.Core.Bool.{Bool, true, false}
use lib.IntN.{ℤ}
use lib.Dec.{T, ltb→lt}
use borrow.Author.Tests.{lt-ltb, le-ltb, ne_eqb}
use lib.Ieee.{Float, nan, inf, fin, binary32, up, down, neg, div, lt, eq, of_bits}
use lib.Ieee.Fits.{up_pos, down_pos}
use lib.Ieee.Positive.{positive}
use lib.Ieee.Scale.{round_same}
use Rattle.dsp_types.specs.Samples.{zero_f, one_f}
use Rattle.timing.specs.Floats.{half_f}
use Rattle.timing.specs.Turns.{absolute_of, octant_of, quadrant_of, directed, quarter_turns}
use Rattle.timing.specs.Document.{ExactAt}

turned : (i q : Float) (a b : Bool) (u : Float) → directed i q ≡ true → lt i zero_f ≡ a → lt q zero_f ≡ b → octant_of (absolute_of i) (absolute_of q) ≡ u → quarter_turns i q ≡ quadrant_of a b u
unfolding quarter_turns
turned i q a b u d l k o = rw (d, l, k, o)

-- ---- x is m · 2 ^ e, above 0
module _ (m : ℕ) (e : ℤ) (h : 0 < m) where
  size_pos : 0 < m * up e
  size_pos = mul-pos h (up_pos e)

  -- the tests
  not_below : lt (fin false m e) zero_f ≡ false
  unfolding lt of_bits
  not_below = le-ltb (m * up e * 1) (0 * down e) (omega (arith, zero-mul (down e)))

  neg_below : lt (fin true m e) zero_f ≡ true
  unfolding lt of_bits
  neg_below = lt-ltb 0 (m * up e * 1 + 0 * down e) (omega (arith, size_pos))

  above : lt zero_f (fin false m e) ≡ true
  unfolding lt of_bits
  above = lt-ltb (0 * down e) (m * up e * 1) (omega (arith, zero-mul (down e), size_pos))

  not_itself : lt (fin false m e) (fin false m e) ≡ false
  unfolding lt
  not_itself = le-ltb (m * up e * down e) (m * up e * down e) (omega arith)

  not_zero : (s : Bool) → eq (fin s m e) zero_f ≡ false
  unfolding eq of_bits
  not_zero s = rw (ne_eqb (m * up e * 1) (0 * down e) (λ z. omega (arith, zero-mul (down e), size_pos)))

  both_directed : (s t : Bool) → directed (fin s m e) (fin t m e) ≡ true
  unfolding directed
  both_directed s t = rw (not_zero s)

  first_directed : (s : Bool) → directed (fin s m e) zero_f ≡ true
  unfolding directed of_bits
  first_directed s = rw (not_zero s)

  second_directed : (s : Bool) → directed zero_f (fin s m e) ≡ true
  unfolding directed of_bits
  second_directed s = rw (not_zero s)

  -- z is 1 on a diagonal and 0 on an axis
  over_itself : div binary32 (fin false m e) (fin false m e) ≡ one_f
  unfolding div of_bits
  over_itself =
      rw (ne_eqb m 0 (λ z. omega arith))
      (round_same binary32 false (m * up e * down e) (m * up e * down e) 1 1 (mul-pos size_pos (down_pos e)) (zero-lt-suc 0) (omega arith))

  zero_over : div binary32 zero_f (fin false m e) ≡ zero_f
  unfolding div of_bits
  zero_over =
      rw (ne_eqb m 0 (λ z. omega arith))
      (round_same binary32 false (0 * down e) (m * up e * 1) 0 1 (mul-pos size_pos (zero-lt-suc 0)) (zero-lt-suc 0) (omega (arith, zero-mul (down e))))

  -- so u is 0.5, 0 or 1
  diagonal : octant_of (fin false m e) (fin false m e) ≡ half_f
  unfolding octant_of of_bits
  diagonal = rw (not_itself, over_itself)

  along : octant_of (fin false m e) zero_f ≡ zero_f
  unfolding octant_of of_bits
  along = rw (not_below, zero_over)

  across : octant_of zero_f (fin false m e) ≡ one_f
  unfolding octant_of of_bits
  across = rw (above, zero_over)

  zero_not_below : lt zero_f zero_f ≡ false
  unfolding lt of_bits
  zero_not_below = refl

  exact_at : ExactAt (fin false m e)
  unfolding quadrant_of absolute_of neg of_bits
  exact_at =
      let x = fin false m e in
      let y = fin true m e in
      record {
        at_0 = turned x zero_f false false zero_f (first_directed false) not_below zero_not_below along;
        at_1 = turned x x false false half_f (both_directed false false) not_below not_below diagonal;
        at_2 = turned zero_f x false false one_f (second_directed false) zero_not_below not_below across;
        at_3 = turned y x true false half_f (both_directed true false) neg_below not_below diagonal;
        at_4 = turned y zero_f true false zero_f (first_directed true) neg_below zero_not_below along;
        at_5 = turned y y true true half_f (both_directed true true) neg_below neg_below diagonal;
        at_6 = turned zero_f y false true one_f (second_directed true) zero_not_below neg_below across;
        at_7 = turned x y false true half_f (both_directed false true) not_below neg_below diagonal;
      }

pub exact_law : (x : Float) → T (positive x) → ExactAt x
exact_law nan p = absurd p
exact_law (inf s) p = absurd p
exact_law (fin true m e) p = absurd p
exact_law (fin false m e) p = exact_at m e (ltb→lt 0 m p)

-- 01's figure for a result that rounds to 4: (1, −2 ^ -30)
pub wraps : quarter_turns one_f (of_bits binary32 0xb080_0000) ≡ zero_f
unfolding quarter_turns of_bits
wraps = refl
