-- What number of units of 2 ^ -149 a bit pattern of binary32 stands for, and that a larger pattern stands for no smaller number. Assumes nothing.
use mathlib.Core.Path.{◌≡◌, refl, sym, ap, ◌∙◌, subst}
use mathlib.Core.Logic.{◌⊎◌, inl, inr}
use Prim.Native.Nat.{ℕ, zero, suc, ◌+◌, ◌*◌, ◌/◌, ◌%◌, ◌^◌, ◌≤◌, ◌<◌}
use native.Mathlib.Nat.{le_trans, le_of_eq, eq-or-lt_of_le, mul_assoc, mul-le-mul_left, mul-le-mul_right, mul-div_cancel, pow-succ'}
use native.Mathlib.Omega.{arith}
use mathlib.Core.Bool.{Bool, true, false, cond}
use lib.Dec.{leb, eqb}
use lib.Pow.{pow_mono}
use borrow.Author.Tests.{ne_eqb, lt-leb}
use lib.Ieee.{Float, nan, inf, fin, binary32, down, of_fields, of_bits}
use lib.Ieee.Exact.{HasValue, odd_sign}
use lib.Ieee.Fits.{down_pos}
use lib.Ieee.Scale.{finite}
use Rattle.magnitude.specs.Magnitude.{units}
use Rattle.magnitude.specs.Pattern.{exponent_of, significand_of, pattern_units}

-- x is a units with the sign s
abbrev pub Sized : Float → Bool → ℕ → Type 0
Sized x s a = HasValue x s a (2 ^ 149)

pub sized_finite : (x : Float) (s : Bool) (a : ℕ) → Sized x s a → finite x ≡ true
sized_finite nan s a h = absurd h
sized_finite (inf t) s a h = absurd h
sized_finite (fin t m e) s a h = refl

pub sized_units : (x : Float) (s : Bool) (a : ℕ) → Sized x s a → units x ≡ a
unfolding units
sized_units nan s a h = absurd h
sized_units (inf t) s a h = absurd h
sized_units (fin t m e) s a h = ap (λ (n : ℕ). n / down e) h.1 ∙ mul-div_cancel a (down_pos e)

-- ---- the fields of a pattern i: its sign, the exponent's field and the digits behind the leading one
fields : (i : ℕ) → of_bits binary32 i ≡ of_fields binary32 (leb 0x8000_0000 i) (i % 0x8000_0000 / 0x80_0000) (i % 0x80_0000)
unfolding of_bits
fields i = refl

low_field : (s : Bool) (t : ℕ) → Sized (of_fields binary32 s 0 t) s (t * 2 ^ 0)
unfolding of_fields
low_field s t = odd_sign 24 s t 0 149

high_field : (s : Bool) (x t : ℕ) → suc x < 255 → Sized (of_fields binary32 s (suc x) t) s ((0x80_0000 + t) * 2 ^ x)
unfolding of_fields
high_field s x t h = rw (ne_eqb (suc x) 255 (λ e. omega arith)) (odd_sign 24 s (0x80_0000 + t) x 149)

top_field : (s : Bool) (t : ℕ) → finite (of_fields binary32 s 255 t) ≡ false
unfolding of_fields
top_field s t = either (eqb t 0)
  where
    either : (b : Bool) → finite (cond b (inf s) nan) ≡ false
    either true = refl
    either false = refl

-- ---- the value of a pattern: `pattern_units`, with the sign's bit taken off
pattern_at : (p m e : ℕ) → significand_of p ≡ m → exponent_of p ≡ e → pattern_units p ≡ m * 2 ^ e
pattern_at p m e x y = rw (x, y)

number_of_field : (i x : ℕ) → i % 0x8000_0000 < 0x7f80_0000 → i % 0x8000_0000 / 0x80_0000 ≡ x
    → Sized (of_fields binary32 (leb 0x8000_0000 i) x (i % 0x80_0000)) (leb 0x8000_0000 i) (pattern_units (i % 0x8000_0000))
number_of_field i zero h e = rw (pattern_at (i % 0x8000_0000) (i % 0x80_0000) 0 (omega arith) (omega arith)) (low_field (leb 0x8000_0000 i) (i % 0x80_0000))
number_of_field i (suc x) h e =
    rw (pattern_at (i % 0x8000_0000) (0x80_0000 + i % 0x80_0000) x (omega arith) (omega arith)) (high_field (leb 0x8000_0000 i) x (i % 0x80_0000) (omega arith))

pub number_at : (i : ℕ) → i % 0x8000_0000 < 0x7f80_0000 → Sized (of_bits binary32 i) (leb 0x8000_0000 i) (pattern_units (i % 0x8000_0000))
number_at i h = rw fields (number_of_field i (i % 0x8000_0000 / 0x80_0000) h refl)

pub no_number_at : (i : ℕ) → 0x7f80_0000 ≤ i % 0x8000_0000 → finite (of_bits binary32 i) ≡ false
no_number_at i h = let top : i % 0x8000_0000 / 0x80_0000 ≡ 255 = omega arith in rw (fields, top) (top_field (leb 0x8000_0000 i) (i % 0x80_0000))

-- a pattern with no sign
pub unsigned_at : (p : ℕ) → p < 0x7f80_0000 → Sized (of_bits binary32 p) false (pattern_units p)
unsigned_at p h =
    let e : p % 0x8000_0000 ≡ p = omega arith in
    let s : leb 0x8000_0000 p ≡ false = lt-leb 0x8000_0000 p (omega arith) in
    rw (s, e) at (number_at p (omega arith))

-- ---- the order of the patterns is that of the values
pub pattern_mono : (p q : ℕ) → p ≤ q → pattern_units p ≤ pattern_units q
pattern_mono p q h =
    let l : exponent_of p ≤ exponent_of q = omega arith in
    elim (eq-or-lt_of_le l) [
      | inl e ↦ subst (λ (x : ℕ). pattern_units p ≤ significand_of q * 2 ^ x) e (mul-le-mul_right (2 ^ exponent_of p) (significands p q h e))
      | inr k ↦
          le_trans (mul-le-mul_right (2 ^ exponent_of p) (twice p))
          (le_trans (le_of_eq (mul_assoc 0x80_0000 2 (2 ^ exponent_of p) ∙ ap (λ (x : ℕ). 0x80_0000 * x) (sym (pow-succ' 2 (exponent_of p)))))
          (le_trans (mul-le-mul_left 0x80_0000 (pow_mono k)) (mul-le-mul_right (2 ^ exponent_of q) (leading q (exponent_of p) k))))
    ]
  where
    significands : (p q : ℕ) → p ≤ q → exponent_of p ≡ exponent_of q → significand_of p ≤ significand_of q
    significands p q h e = omega arith

    twice : (p : ℕ) → significand_of p ≤ 0x80_0000 * 2
    twice p = omega arith

    leading : (q x : ℕ) → x < exponent_of q → 0x80_0000 ≤ significand_of q
    leading q x h = omega arith

-- ---- the pattern of g · 2 ^ e units: g has 24 digits, or fewer where e is 0
abbrev pub Normal : ℕ → ℕ → Type 0
Normal e g = (0x80_0000 ≤ g) ⊎ (e ≡ 0)

pack_exponent : (e g : ℕ) → Normal e g → g < 0x100_0000 → exponent_of (e * 0x80_0000 + g) ≡ e
pack_exponent e g (inl n) h = omega arith
pack_exponent e g (inr n) h = omega arith

pack_significand : (e g : ℕ) → Normal e g → g < 0x100_0000 → significand_of (e * 0x80_0000 + g) ≡ g
pack_significand e g (inl n) h = omega arith
pack_significand e g (inr n) h = omega arith

-- one digit more carries into the exponent
carried : (e : ℕ) → pattern_units (e * 0x80_0000 + 0x100_0000) ≡ 0x100_0000 * 2 ^ e
carried e =
    pattern_at (e * 0x80_0000 + 0x100_0000) 0x80_0000 (suc e) (omega arith) (omega arith)
    ∙ ap (λ (x : ℕ). 0x80_0000 * x) (pow-succ' 2 e)
    ∙ sym (mul_assoc 0x80_0000 2 (2 ^ e))

pub pattern_pack : (e g : ℕ) → Normal e g → g ≤ 0x100_0000 → pattern_units (e * 0x80_0000 + g) ≡ g * 2 ^ e
pattern_pack e g n h = elim (eq-or-lt_of_le h) [
  | inl p ↦ rw p (carried e)
  | inr l ↦ pattern_at (e * 0x80_0000 + g) g e (pack_significand e g n l) (pack_exponent e g n l)
]
