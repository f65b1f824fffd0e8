-- Decimal digits: the fewest that hold a number, last first, are the definition's.
use mathlib.Core.Path.{◌≡◌, ap}
use mathlib.Core.Bool.{Bool, true, false, cond}
use mathlib.Core.List.{[], ◌∷◌, ◌++◌}
use Prim.Native.Nat.{ℕ, zero, suc, ◌-◌, ◌*◌, ◌/◌, ◌%◌, ◌^◌, ◌≤◌, ◌<◌}
use native.Mathlib.Nat.{pow-suc, div-lt_iff_lt-mul, le-div_iff_mul-le, mod-eq_of_lt, pow-le-pow_right}
use native.Mathlib.Omega.{arith}
use lib.Dec.{ltb, lit<, lit≤}
use lib.ListN.{length, length-append}
use borrow.Author.Tests.{lt-ltb, le-ltb}
use mathlib.Core.Logic.{⊎_elim}
use Rattle.dsp_types.proofs.RingLaws.{le_or_lt}
use Rattle.io.specs.Digits.{last_digits, hex_digit_ascii, IsDigitCount}
use Rattle.text.specs.Text.{digit, decimal}

glyph_digit : (d : ℕ) → d < 10 → hex_digit_ascii d ≡ digit d
unfolding digit
glyph_digit d h = rw (lt-ltb d 10 h)

pow_pos_10 : (k : ℕ) → 1 ≤ 10 ^ k
pow_pos_10 zero = lit≤ tt
pow_pos_10 (suc k) = omega (arith, pow-suc 10 k, pow_pos_10 k)

pred : (k : ℕ) → suc k - 1 ≡ k
pred k = omega arith

pub fewest : (f k n : ℕ) → IsDigitCount 10 1 n (suc k) → suc k ≤ f → last_digits 10 (suc k) n ≡ decimal f n
unfolding decimal
fewest zero k n w h = absurd (omega arith)
fewest (suc f) zero n w h =
    let l : n < 10 = w.1 in
    rw (lt-ltb n 10 l, mod-eq_of_lt l) (ap (λ (d : ℕ). d ∷ []) (glyph_digit n l))
fewest (suc f) (suc k) n w h =
    let e : suc (suc k) - 1 ≡ suc k = omega arith in
    let low : 10 ^ suc k ≤ n = rw e at (w.2 (omega arith)) in
    let split : 10 ^ suc k ≡ 10 ^ k * 10 = pow-suc 10 k in
    let ten : 10 ≤ n = omega (arith, low, split, pow_pos_10 k) in
    let high : n < 10 ^ suc k * 10 = rw (pow-suc 10 (suc k)) at w.1 in
    let up : 1 < suc k → 10 ^ (suc k - 1) ≤ n / 10 = λ p. rw (pred k) ((le-div_iff_mul-le (lit< tt)).1 (rw (← split) low)) in
    rw (le-ltb n 10 ten, fewest f k (n / 10) (omega arith, (div-lt_iff_lt-mul (lit< tt)).1 high, up) (omega arith), glyph_digit (n % 10) (omega arith))

-- a number of 64 bits has at most 20 digits
few : (k n : ℕ) → IsDigitCount 10 1 n k → n < 2 ^ 64 → k ≤ 20
few k n w h = ⊎_elim (λ (l : k ≤ 20). l) (λ (g : 20 < k). absurd (many g)) (le_or_lt k 20)
  where
    many : 20 < k → ⊥
    many g =
        let a : 10 ^ 20 ≤ 10 ^ (k - 1) = pow-le-pow_right (lit< tt) {i = 20} {j = k - 1} (omega arith) in
        let b : 10 ^ (k - 1) ≤ n = w.2 (omega arith) in
        omega (arith, a, b)

pub digits_decimal : (k n : ℕ) → IsDigitCount 10 1 n k → n < 2 ^ 64 → (k ≤ 20) × (last_digits 10 k n ≡ decimal 20 n)
digits_decimal zero n w h = absurd (omega arith)
digits_decimal (suc k) n w h = (few (suc k) n w h, fewest 20 k n w (few (suc k) n w h))

pub length_decimal : (k n : ℕ) → length (decimal k n) ≤ k
unfolding decimal
length_decimal zero n = omega arith
length_decimal (suc k) n = go (ltb n 10) (length_decimal k (n / 10))
  where
    go : (b : Bool) → length (decimal k (n / 10)) ≤ k → length (cond b (digit n ∷ []) (decimal k (n / 10) ++ (digit (n % 10) ∷ []))) ≤ suc k
    go true h = omega arith
    go false h = omega (arith, length-append (decimal k (n / 10)) (digit (n % 10) ∷ []))
