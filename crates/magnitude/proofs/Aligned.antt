-- The smaller part's square may be cut to units of the larger one's: that leaves the whole part of the root of a² + b², in units of 2 ^ e with e the larger's exponent, as it is. Assumes nothing.
use mathlib.Core.Path.{◌≡◌, sym, ap, ◌∙◌}
use mathlib.Core.Logic.{inl, inr}
use Prim.Native.Nat.{ℕ, ◌+◌, ◌-◌, ◌*◌, ◌/◌, ◌^◌, ◌≤◌, ◌<◌}
use native.Mathlib.Nat.{le_trans, le_of_eq, le-add_right, lt_of_lt_of_le, lt_of_le_of_lt, eq-zero-or-pos, add-mul, suc-mul, mul_assoc, mul-pos, mul-le-mul_right, mul-lt-mul_of_pos_right, mul-mul-mul_comm, div-mul-le_self, div-le_self, lt-div-mul-add}
use native.Mathlib.Omega.{arith}
use lib.Pow.{pow-add, pow_pos}
use Rattle.magnitude.specs.Magnitude.{square, largest}
use Rattle.magnitude.specs.Pattern.{exponent_of, significand_of, pattern_units, packed_of}
use Rattle.magnitude.proofs.Numbers.{product_lt, root_lt, sum_lt_49}
use Rattle.magnitude.proofs.Values.{Normal}
use Rattle.magnitude.proofs.Largest.{largest_is, packed_top}

-- ---- a · K · Q + x · Q, with x cut to a multiple of K
cut_low : (a x K Q h : ℕ) → h ≤ a + x / K → h * (K * Q) ≤ a * (K * Q) + x * Q
cut_low a x K Q h l =
    let whole : h * (K * Q) ≤ a * (K * Q) + x / K * (K * Q) = le_trans (mul-le-mul_right (K * Q) l) (le_of_eq (add-mul a (x / K) (K * Q))) in
    let part : x / K * (K * Q) ≤ x * Q = le_trans (le_of_eq (sym (mul_assoc (x / K) K Q))) (mul-le-mul_right Q (div-mul-le_self x K)) in
    omega arith

cut_high : (a x K Q h : ℕ) → 0 < K → 0 < Q → a + x / K < h → a * (K * Q) + x * Q < h * (K * Q)
cut_high a x K Q h k q l =
    let part : x * Q < x / K * (K * Q) + K * Q =
    lt_of_lt_of_le (mul-lt-mul_of_pos_right (lt-div-mul-add k) q) (le_of_eq (add-mul (x / K * K) K Q ∙ ap (λ (y : ℕ). y + K * Q) (mul_assoc (x / K) K Q))) in
    let sum : (a + x / K) * (K * Q) ≡ a * (K * Q) + x / K * (K * Q) = add-mul a (x / K) (K * Q) in
    let next : (a + x / K) * (K * Q) + K * Q ≤ h * (K * Q) = le_trans (le_of_eq (sym (suc-mul (a + x / K) (K * Q)))) (mul-le-mul_right (K * Q) l) in
    omega arith

-- ---- the squares of m · 2 ^ e and n · 2 ^ f, for f ≤ e
abbrev gap : ℕ → ℕ → ℕ
gap e f = 2 ^ (2 * (e - f))

abbrev unit : ℕ → ℕ
unit f = 2 ^ f * 2 ^ f

module _ (e f : ℕ) (F : f ≤ e) where
  power : 2 ^ e * 2 ^ e ≡ gap e f * unit f
  power =
      let d = e - f in
      let parted : e ≡ d + f = omega arith in
      let twice : d + d ≡ 2 * d = omega arith in
      ap (λ (x : ℕ). 2 ^ x * 2 ^ x) parted
      ∙ ap (λ (x : ℕ). x * x) (pow-add 2 d f)
      ∙ mul-mul-mul_comm (2 ^ d) (2 ^ f) (2 ^ d) (2 ^ f)
      ∙ ap (λ (x : ℕ). x * unit f) (sym (pow-add 2 d d) ∙ ap (λ (x : ℕ). 2 ^ x) twice)

  scaled : (g : ℕ) → square (g * 2 ^ e) ≡ g * g * (gap e f * unit f)
  scaled g = mul-mul-mul_comm g (2 ^ e) g (2 ^ e) ∙ ap (λ (x : ℕ). g * g * x) power

  squares : (m n : ℕ) → square (m * 2 ^ e) + square (n * 2 ^ f) ≡ m * m * (gap e f * unit f) + n * n * unit f
  squares m n = rw (scaled m, mul-mul-mul_comm n (2 ^ f) n (2 ^ f))

  low : (m n g : ℕ) → square g ≤ square m + square n / gap e f → square (g * 2 ^ e) ≤ square (m * 2 ^ e) + square (n * 2 ^ f)
  low m n g h = rw (scaled g, squares m n) (cut_low (m * m) (n * n) (gap e f) (unit f) (g * g) h)

  high : (m n g : ℕ) → square m + square n / gap e f < square g → square (m * 2 ^ e) + square (n * 2 ^ f) < square (g * 2 ^ e)
  high m n g h = rw (scaled g, squares m n) (cut_high (m * m) (n * n) (gap e f) (unit f) (g * g) (pow_pos (2 * (e - f))) (mul-pos (pow_pos f) (pow_pos f)) h)

-- ---- the parts' patterns a and b
significand_lt : (p : ℕ) → significand_of p < 2 ^ 24
significand_lt p = omega arith

-- the smaller part's square has 48 digits at most, and the root 25
pub small_square_lt : (b k : ℕ) → square (significand_of b) / k < 2 ^ 48
small_square_lt b k = lt_of_le_of_lt (div-le_self (square (significand_of b)) k) (product_lt 24 (significand_lt b) (significand_lt b))

pub root_lt_25 : (s g : ℕ) → s < 2 ^ 49 → square g ≤ s → g < 2 ^ 25
root_lt_25 s g h l = root_lt g (2 ^ 25) (omega arith)

-- the root is no smaller than the larger part
normal : (a s g : ℕ) → square (significand_of a) ≤ s → s < square (g + 1) → Normal (exponent_of a) g
normal a s g lo hi =
    let l : significand_of a < g + 1 = root_lt (significand_of a) (g + 1) (lt_of_le_of_lt lo hi) in
    elim (eq-zero-or-pos (exponent_of a)) [ inl z ↦ inr z | inr p ↦ inl (omega arith) ]

aligned : (a b g : ℕ) → b ≤ a → a < 0x7f80_0000 → (let s = square (significand_of a) + square (significand_of b) / gap (exponent_of a) (exponent_of b) in (square g ≤ s) × (s < square (g + 1)))
    → packed_of (exponent_of a) g ≡ largest (square (pattern_units a) + square (pattern_units b))
aligned a b g h l r =
    let e = exponent_of a in
    let f = exponent_of b in
    let m = significand_of a in
    let n = significand_of b in
    let z = square n / gap e f in
    let F : f ≤ e = omega arith in
    sym (largest_is (square (pattern_units a) + square (pattern_units b)) (packed_of e g)
    (packed_top (square (pattern_units a) + square (pattern_units b)) e g (omega arith)
    (root_lt_25 (square m + z) g (sum_lt_49 m z (significand_lt a) (small_square_lt b (gap e f))) r.0)
    (normal a (square m + z) g (le-add_right (square m) z) r.1)
    (low e f F m n g r.0)
    (high e f F m n (g + 1) r.1)))

-- the same, by what the calls on the way give
pub aligned_at : (a b e m n f z g : ℕ) → b ≤ a → a < 0x7f80_0000 → e ≡ exponent_of a → m ≡ significand_of a → n ≡ significand_of b → f ≡ exponent_of b → z ≡ square n / gap e f
    → (square g ≤ square m + z) × (square m + z < square (g + 1)) → packed_of e g ≡ largest (square (pattern_units a) + square (pattern_units b))
aligned_at a b e m n f z g h l E M N F Z r =
    let q : square m + z ≡ square (significand_of a) + square (significand_of b) / gap (exponent_of a) (exponent_of b) = cc in
    rw E (aligned a b g h l (rw q at r))
