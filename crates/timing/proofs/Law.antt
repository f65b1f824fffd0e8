-- Whatever i and q are, `quarter_turns i q` is an f32 from 0 to below 4: u lies from 0 to 1, and each quadrant keeps it in the turn. Assumes nothing.
use mathlib.Core.Path.{◌≡◌, refl, sym, ◌∙◌}
use mathlib.Core.Logic.{inl, inr}
use Prim.Native.Nat.{ℕ, ◌*◌, ◌≤◌, ◌<◌, zero-le}
use native.Mathlib.Nat.{le_of_lt, lt_of_le_of_lt, eq-zero-or-pos, zero-lt-suc, zero-mul, mul-pos}
use native.Mathlib.Omega.{arith}
use mathlib.Core.Bool.{Bool, true, false, ◌&&◌, ◌||◌, cond, beq, true≢false}
use lib.IntN.{ℤ, pos}
use lib.Dec.{T, ltb, eqb, lit≤, lit<}
use borrow.Author.Tests.{ltb-true, ltb-false, lt-ltb, eqb-false}
use lib.Ieee.{Float, nan, inf, fin, binary32, up, down, round, sub, add, mul, div, lt, eq, le, fits, of_bits}
use lib.Ieee.Bits.{of_bits-fits, is_true}
use lib.Ieee.Fits.{up_pos, down_pos, add-fits, sub-fits, mul-fits, cond-fits}
use lib.Ieee.Order.{le_of_values}
use lib.Ieee.Positive.{first_pos}
use Rattle.dsp_types.specs.Samples.{zero_f, one_f}
use Rattle.timing.specs.Floats.{half_f, two_f, four_f, bend}
use Rattle.timing.specs.Turns.{absolute_of, curve_of, octant_of, wrapped_of, quadrant_of, directed, quarter_turns}
use Rattle.timing.specs.Document.{InTurn}
use Rattle.timing.proofs.Sizes.{AtMost, Holds, weaken, mul_within, add_within, sub_within, div_within}

-- ---- the bounds that are used are f32s
holds_1 : Holds 1 1
unfolding round
holds_1 = (refl, refl)

holds_2 : Holds 2 1
unfolding round
holds_2 = (refl, refl)

holds_3 : Holds 3 1
unfolding round
holds_3 = (refl, refl)

holds_4 : Holds 4 1
unfolding round
holds_4 = (refl, refl)

holds_1_4 : Holds 1 4
unfolding round
holds_1_4 = (refl, refl)

holds_6_8 : Holds 6 8
unfolding round
holds_6_8 = (refl, refl)

-- ---- u lies from 0 to 1
half_within : AtMost half_f false 1 2
unfolding of_bits
half_within = record { over = lit< tt; size = (refl, lit≤ tt) }

two_within : AtMost two_f false 2 1
unfolding of_bits
two_within = record { over = lit< tt; size = (refl, lit≤ tt) }

bend_within : AtMost bend false 1 4
unfolding bend
bend_within = record { over = lit< tt; size = (refl, lit≤ tt) }

-- 1, 2 and 4 less a value from 0 to that
one_less : {y : Float} → AtMost y false 1 1 → AtMost (sub binary32 one_f y) false 1 1
unfolding of_bits
one_less w = sub_within one_f holds_1 (refl, refl) w

two_less : {y : Float} → AtMost y false 2 1 → AtMost (sub binary32 two_f y) false 2 1
unfolding of_bits
two_less w = sub_within two_f holds_2 (refl, refl) w

four_less : {y : Float} → AtMost y false 4 1 → AtMost (sub binary32 four_f y) false 4 1
unfolding of_bits
four_less w = sub_within four_f holds_4 (refl, refl) w

curve_within : (z : Float) → AtMost z false 1 1 → AtMost (curve_of z) false 1 1
unfolding curve_of
curve_within z w = weaken 1 1 (lit< tt) (lit≤ tt) (mul_within holds_6_8 w (add_within holds_6_8 half_within (mul_within holds_1_4 bend_within (one_less w))))

-- one of i and q at least is not 0
zero_size : (s : Bool) (m : ℕ) (e : ℤ) → m ≡ 0 → eq (fin s m e) zero_f ≡ true
unfolding eq of_bits
zero_size s m e z = rw (z, zero-mul (up e), zero-mul (down e)) (either s)
  where
    either : (s : Bool) → (eqb 0 0 && (beq s false || eqb 0 0)) ≡ true
    either true = refl
    either false = refl

module _ (s : Bool) (m : ℕ) (e : ℤ) (t : Bool) (n : ℕ) (f : ℤ) where
  larger_pos : directed (fin s m e) (fin t n f) ≡ true → n * up f * down e ≤ m * up e * down f → 0 < m * up e
  unfolding directed
  larger_pos d h = elim (eq-zero-or-pos m) [
    | inr p ↦ mul-pos p (up_pos e)
    | inl p ↦
        let none : m * up e * down f ≡ 0 = rw (p, zero-mul, zero-mul) in
        elim (eq-zero-or-pos n) [
          | inl q ↦ absurd (true≢false (sym d ∙ rw (zero_size s m e p, zero_size t n f q)))
          | inr q ↦ let some : 0 < n * up f * down e = mul-pos (mul-pos q (up_pos f)) (down_pos e) in omega arith
        ]
  ]

  octant_within : directed (fin s m e) (fin t n f) ≡ true → AtMost (octant_of (fin false m e) (fin false n f)) false 1 1
  unfolding octant_of lt
  octant_within d = go (ltb (m * up e * down f) (n * up f * down e)) refl
    where
      go : (b : Bool) → ltb (m * up e * down f) (n * up f * down e) ≡ b
          → AtMost (cond b (sub binary32 one_f (curve_of (div binary32 (fin false m e) (fin false n f)))) (curve_of (div binary32 (fin false n f) (fin false m e)))) false 1 1
      go true p =
          let h = ltb-true (m * up e * down f) (n * up f * down e) p in
          one_less (curve_within (div binary32 (fin false m e) (fin false n f)) (div_within m e n f (first_pos (n * up f) (down e) (lt_of_le_of_lt zero-le h)) (le_of_lt h) holds_1))
      go false p =
          let h = ltb-false (m * up e * down f) (n * up f * down e) p in
          curve_within (div binary32 (fin false n f) (fin false m e)) (div_within n f m e (larger_pos d h) h holds_1)

-- ---- the result
in_turn : (m : ℕ) (e : ℤ) → T (fits binary32 (fin false m e)) → m * up e < 4 * down e → InTurn (fin false m e)
unfolding lt of_bits
in_turn m e f h =
    record {
      held = f;
      is_finite = refl;
      not_signed = refl;
      from_zero = is_true (le zero_f (fin false m e)) (le_of_values zero_f (fin false m e) 0 1 (m * up e) (down e) (zero-lt-suc 0) (down_pos e) (refl, refl) (refl, refl) (omega (arith, zero-mul (down e))));
      below_four = lt-ltb (m * up e * 1) (4 * down e) (omega arith);
    }

zero_in_turn : InTurn zero_f
unfolding of_bits
zero_in_turn = in_turn 0 (pos 0) (of_bits-fits binary32 0) (lit< tt)

-- at most 3
three_in_turn : (x : Float) → T (fits binary32 x) → AtMost x false 3 1 → InTurn x
three_in_turn nan f w = absurd w.size
three_in_turn (inf s) f w = absurd w.size
three_in_turn (fin true m e) f w = absurd (true≢false w.size.0)
three_in_turn (fin false m e) f w = in_turn m e f (omega (arith, w.size.1, down_pos e))

-- at most 4, and 0.0 instead of 4
wrapped_in_turn : (x : Float) → T (fits binary32 x) → AtMost x false 4 1 → InTurn (wrapped_of x)
unfolding wrapped_of eq of_bits
wrapped_in_turn nan f w = absurd w.size
wrapped_in_turn (inf s) f w = absurd w.size
wrapped_in_turn (fin true m e) f w = absurd (true≢false w.size.0)
wrapped_in_turn (fin false m e) f w = go (eqb (m * up e * 1) (4 * down e)) refl
  where
    go : (b : Bool) → eqb (m * up e * 1) (4 * down e) ≡ b → InTurn (cond (b && true) zero_f (fin false m e))
    go true p = zero_in_turn
    go false p =
        let other : m * up e * 1 ≡ 4 * down e → ⊥ = eqb-false (m * up e * 1) (4 * down e) p in
        in_turn m e f (omega (arith, w.size.1))

quadrant_in_turn : (i-below q-below : Bool) (u : Float) → T (fits binary32 u) → AtMost u false 1 1 → InTurn (quadrant_of i-below q-below u)
unfolding quadrant_of
quadrant_in_turn false false u f w = three_in_turn u f (weaken 3 1 (lit< tt) (lit≤ tt) w)
quadrant_in_turn true false u f w =
    three_in_turn (sub binary32 two_f u) (sub-fits binary32 two_f u) (weaken 3 1 (lit< tt) (lit≤ tt) (two_less (weaken 2 1 (lit< tt) (lit≤ tt) w)))
quadrant_in_turn true true u f w = three_in_turn (add binary32 two_f u) (add-fits binary32 two_f u) (add_within holds_3 two_within w)
quadrant_in_turn false true u f w = wrapped_in_turn (sub binary32 four_f u) (sub-fits binary32 four_f u) (four_less (weaken 4 1 (lit< tt) (lit≤ tt) w))

octant_fits : (a b : Float) → T (fits binary32 (octant_of a b))
unfolding octant_of curve_of
octant_fits a b =
    cond-fits binary32 (lt a b) (sub binary32 one_f (curve_of (div binary32 a b))) (curve_of (div binary32 b a)) (sub-fits binary32 one_f (curve_of (div binary32 a b)))
    (mul-fits binary32 (div binary32 b a) (add binary32 half_f (mul binary32 bend (sub binary32 one_f (div binary32 b a)))))

pub turns_law : (i q : Float) → InTurn (quarter_turns i q)
unfolding quarter_turns
turns_law i q = go (directed i q) refl
  where
    inner : (i q : Float) → directed i q ≡ true → AtMost (octant_of (absolute_of i) (absolute_of q)) false 1 1
    inner nan q d = absurd (true≢false (sym d))
    inner (inf s) q d = absurd (true≢false (sym d))
    inner (fin s m e) nan d = absurd (true≢false (sym d))
    inner (fin s m e) (inf t) d = absurd (true≢false (sym d))
    inner (fin s m e) (fin t n f) d = octant_within s m e t n f d

    go : (b : Bool) → directed i q ≡ b → InTurn (cond b (quadrant_of (lt i zero_f) (lt q zero_f) (octant_of (absolute_of i) (absolute_of q))) zero_f)
    go true d = quadrant_in_turn (lt i zero_f) (lt q zero_f) (octant_of (absolute_of i) (absolute_of q)) (octant_fits (absolute_of i) (absolute_of q)) (inner i q d)
    go false d = zero_in_turn
