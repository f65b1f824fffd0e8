-- Phase sums over any number of symbols, and the adjustment symbol: an odd number of symbols has an odd sum, and of the four symbols exactly one closes it.
-- It holds since `modulo8` takes sums to sums, and modulo 8 there are eight cases.
use mathlib.Core.Path.{◌≡◌, refl, ap, ◌∙◌, subst}
use mathlib.Core.Bool.{Bool, true, false, cond}
use mathlib.Core.List.{List, [], ◌∷◌}
use Prim.Native.Nat.{ℕ, zero, suc, ◌+◌, ◌-◌, ◌*◌, ◌/◌, ◌%◌, ◌<◌}
use native.Mathlib.Omega.{arith}
use lib.IntN.{ℤ, pos, negsuc, ◌+ℤ◌, sub_ℕ}
use lib.ListN.{length}
use lib.Dec.{ltb, eqb}
use mir.Syntax.{w32}
use mir.Val.{of_z}
use Rattle.std.specs.Int.{int_rem_euclid}
use borrow.Author.Tests.{ltb-true, ltb-false}
use Rattle.dsp_types.specs.Phases.{phase_of, modulo8}
use Rattle.slotter.specs.Phases.{phase_sum, cancels, adjustment}

sub_modulo : (a b : ℕ) → modulo8 (sub_ℕ a (suc b)) ≡ (a % 8 + (7 - b % 8)) % 8
unfolding modulo8
sub_modulo a b = go (ltb a (suc b)) refl
  where
    go : (c : Bool) → ltb a (suc b) ≡ c → modulo8 (cond c (negsuc (suc b - suc a)) (pos (a - suc b))) ≡ (a % 8 + (7 - b % 8)) % 8
    go true e = omega (arith, ltb-true a (suc b) e)
    go false e = omega (arith, ltb-false a (suc b) e)

pub modulo8_sum : (x y : ℤ) → modulo8 (x +ℤ y) ≡ (modulo8 x + modulo8 y) % 8
unfolding modulo8
modulo8_sum (pos a) (pos b) = omega arith
modulo8_sum (pos a) (negsuc b) = sub_modulo a b
modulo8_sum (negsuc a) (pos b) = sub_modulo b a ∙ omega arith
modulo8_sum (negsuc a) (negsuc b) = omega arith

pub modulo8_lt : (x : ℤ) → modulo8 x < 8
unfolding modulo8
modulo8_lt (pos n) = omega arith
modulo8_lt (negsuc n) = omega arith

phase_odd : (a b : ℕ) → modulo8 (phase_of a b) % 2 ≡ 1
unfolding modulo8 phase_of
phase_odd zero zero = refl
phase_odd zero (suc b) = refl
phase_odd (suc a) zero = refl
phase_odd (suc a) (suc b) = refl

-- the sum over n symbols is odd exactly if n is
pub sum_parity : (bits : List ℕ) (n : ℕ) → length bits ≡ 2 * n → modulo8 (phase_sum bits) % 2 ≡ n % 2
unfolding modulo8 phase_sum
sum_parity [] n e = omega arith
sum_parity (a ∷ []) n e = absurd (omega arith)
sum_parity (a ∷ b ∷ bits) zero e = absurd (omega arith)
sum_parity (a ∷ b ∷ bits) (suc n) e =
    omega (arith, modulo8_sum (phase_of a b) (phase_sum bits), phase_odd a b, sum_parity bits n (omega arith))

-- ---- modulo 8 there are eight cases

-- `cancels` and `adjustment` of a sum that is m modulo 8
cancels_at : ℕ → ℕ → ℕ → Bool
unfolding modulo8 phase_of
cancels_at m a b = eqb ((modulo8 (phase_of a b) + m) % 8) 0

cancels_at_lem : (sum : ℤ) (a b : ℕ) → cancels sum a b ≡ cancels_at (modulo8 sum) a b
unfolding cancels cancels_at
cancels_at_lem sum a b = ap (λ n. eqb n 0) (modulo8_sum (phase_of a b) sum)

unfoldable pub adjustment_at : ℕ → List ℕ
unfolding cancels_at
adjustment_at m =
    cond (cancels_at m 0 0) (0 ∷ 0 ∷ []) (cond (cancels_at m 0 1) (0 ∷ 1 ∷ []) (cond (cancels_at m 1 0) (1 ∷ 0 ∷ []) (1 ∷ 1 ∷ [])))

pub adjustment_at_lem : (sum : ℤ) → adjustment sum ≡ adjustment_at (modulo8 sum)
unfolding adjustment adjustment_at
adjustment_at_lem sum = rw (cancels_at_lem sum 0 0, cancels_at_lem sum 0 1, cancels_at_lem sum 1 0)

at_modulo : (sum : ℤ) (m : ℕ) → modulo8 sum ≡ m → adjustment sum ≡ adjustment_at m
at_modulo sum m e = adjustment_at_lem sum ∙ ap adjustment_at e

halves : (P : ℕ → Type 0) → P 1 → P 3 → P 5 → P 7 → (k : ℕ) → k < 4 → P (2 * k + 1)
halves P p₁ p₃ p₅ p₇ zero h = p₁
halves P p₁ p₃ p₅ p₇ (suc zero) h = p₃
halves P p₁ p₃ p₅ p₇ (suc (suc zero)) h = p₅
halves P p₁ p₃ p₅ p₇ (suc (suc (suc zero))) h = p₇
halves P p₁ p₃ p₅ p₇ (suc (suc (suc (suc k)))) h = absurd (omega arith)

pub odd_cases : (P : ℕ → Type 0) → P 1 → P 3 → P 5 → P 7 → (m : ℕ) → m < 8 → m % 2 ≡ 1 → P m
odd_cases P p₁ p₃ p₅ p₇ m h e =
    let whole : 2 * (m / 2) + 1 ≡ m = omega arith in
    subst P whole (halves P p₁ p₃ p₅ p₇ (m / 2) (omega arith))

-- The adjustment's phase plus an odd sum is 0 modulo 8,
pub adjustment_cancels : (sum : ℤ) → modulo8 sum % 2 ≡ 1 → modulo8 (phase_sum (adjustment sum) +ℤ sum) ≡ 0
unfolding modulo8 phase_sum phase_of cancels_at adjustment_at
adjustment_cancels sum odd =
    modulo8_sum (phase_sum (adjustment sum)) sum
    ∙ ap (λ bits. (modulo8 (phase_sum bits) + modulo8 sum) % 8) (adjustment_at_lem sum)
    ∙ odd_cases (λ m. (modulo8 (phase_sum (adjustment_at m)) + m) % 8 ≡ 0) refl refl refl refl (modulo8 sum) (modulo8_lt sum) odd

-- and no other symbol's is.
pub adjustment_only : (sum : ℤ) (a b : ℕ) → a < 2 → b < 2 → modulo8 (phase_of a b +ℤ sum) ≡ 0 → adjustment sum ≡ a ∷ b ∷ []
unfolding modulo8 phase_of cancels_at adjustment_at
adjustment_only sum zero zero h k e = at_modulo sum 7 (omega (arith, e, modulo8_sum (pos 1) sum, modulo8_lt sum))
adjustment_only sum zero (suc zero) h k e = at_modulo sum 5 (omega (arith, e, modulo8_sum (pos 3) sum, modulo8_lt sum))
adjustment_only sum (suc zero) zero h k e = at_modulo sum 1 (omega (arith, e, modulo8_sum (negsuc 0) sum, modulo8_lt sum))
adjustment_only sum (suc zero) (suc zero) h k e = at_modulo sum 3 (omega (arith, e, modulo8_sum (negsuc 2) sum, modulo8_lt sum))
adjustment_only sum zero (suc (suc b)) h k e = absurd (omega arith)
adjustment_only sum (suc zero) (suc (suc b)) h k e = absurd (omega arith)
adjustment_only sum (suc (suc a)) b h k e = absurd (omega arith)

-- ---- the symbol by what the code takes the sum to

eight_cases : (P : ℕ → Type 0) → P 0 → P 1 → P 2 → P 3 → P 4 → P 5 → P 6 → P 7 → (m : ℕ) → m < 8 → P m
eight_cases P p₀ p₁ p₂ p₃ p₄ p₅ p₆ p₇ zero h = p₀
eight_cases P p₀ p₁ p₂ p₃ p₄ p₅ p₆ p₇ (suc zero) h = p₁
eight_cases P p₀ p₁ p₂ p₃ p₄ p₅ p₆ p₇ (suc (suc zero)) h = p₂
eight_cases P p₀ p₁ p₂ p₃ p₄ p₅ p₆ p₇ (suc (suc (suc zero))) h = p₃
eight_cases P p₀ p₁ p₂ p₃ p₄ p₅ p₆ p₇ (suc (suc (suc (suc zero)))) h = p₄
eight_cases P p₀ p₁ p₂ p₃ p₄ p₅ p₆ p₇ (suc (suc (suc (suc (suc zero))))) h = p₅
eight_cases P p₀ p₁ p₂ p₃ p₄ p₅ p₆ p₇ (suc (suc (suc (suc (suc (suc zero)))))) h = p₆
eight_cases P p₀ p₁ p₂ p₃ p₄ p₅ p₆ p₇ (suc (suc (suc (suc (suc (suc (suc zero))))))) h = p₇
eight_cases P p₀ p₁ p₂ p₃ p₄ p₅ p₆ p₇ (suc (suc (suc (suc (suc (suc (suc (suc m)))))))) h = absurd (omega arith)

-- what the code's branches make of a remainder
abbrev pub named : ℕ → List ℕ
named m = cond (eqb m 7) (0 ∷ 0 ∷ []) (cond (eqb m 5) (0 ∷ 1 ∷ []) (cond (eqb m 1) (1 ∷ 0 ∷ []) (1 ∷ 1 ∷ [])))

-- the remainder is below 8, and not negative
rest_is : (sum : ℤ) → int_rem_euclid sum (pos 8) ≡ pos (modulo8 sum)
unfolding modulo8
rest_is (pos n) = refl
rest_is (negsuc n) = refl

pub rest_number : (sum : ℤ) → of_z w32 (int_rem_euclid sum (pos 8)) ≡ modulo8 sum
rest_number sum = ap (of_z w32) (rest_is sum) ∙ omega (arith, modulo8_lt sum)

pub names : (sum : ℤ) → adjustment sum ≡ named (modulo8 sum)
unfolding modulo8 phase_of cancels_at adjustment_at
names sum = adjustment_at_lem sum ∙ eight_cases (λ m. adjustment_at m ≡ named m) refl refl refl refl refl refl refl refl (modulo8 sum) (modulo8_lt sum)

-- ---- the symbol has two bits

-- the adjustment is one of four symbols
four_symbols : (P : List ℕ → Type 0) → P (0 ∷ 0 ∷ []) → P (0 ∷ 1 ∷ []) → P (1 ∷ 0 ∷ []) → P (1 ∷ 1 ∷ []) → (z : ℤ) → P (adjustment z)
unfolding adjustment
four_symbols P p₁ p₃ p₋₁ p₋₃ z = go (cancels z 0 0) (cancels z 0 1) (cancels z 1 0)
  where
    go : (a b c : Bool) → P (cond a (0 ∷ 0 ∷ []) (cond b (0 ∷ 1 ∷ []) (cond c (1 ∷ 0 ∷ []) (1 ∷ 1 ∷ []))))
    go true b c = p₁
    go false true c = p₃
    go false false true = p₋₁
    go false false false = p₋₃

pub adjustment_length : (z : ℤ) → length (adjustment z) ≡ 2
adjustment_length = four_symbols (λ bits. length bits ≡ 2) refl refl refl refl
