-- `largest n` is the largest pattern whose square is not above n, and no other pattern is. Assumes nothing.
use mathlib.Core.Path.{◌≡◌, refl, sym, subst}
use mathlib.Core.Logic.{inl, inr}
use Prim.Native.Nat.{ℕ, zero, suc, ◌+◌, ◌*◌, ◌/◌, ◌^◌, ◌≤◌, ◌<◌, zero-le, min}
use native.Mathlib.Nat.{le_trans, le_of_eq, le_of_lt, le_antisymm, le_of_suc-le-suc, lt_of_not-le, not-le_of_lt, lt_of_lt_of_le, two-pow-succ, mul_assoc, mul-le-mul_right, pow-succ', min-eq_left, min-eq_right}
use native.Mathlib.Numerals.{add-one}
use native.Mathlib.Omega.{arith}
use mathlib.Core.Bool.{Bool, true, false, cond}
use lib.Dec.{T, leb, ltb, eqb, leb→le, le→leb, ltb→lt, lt→ltb, lit<}
use borrow.Author.Tests.{ltb-true, ltb-false, eqb-true, eqb-false}
use lib.Ieee.{binary32, of_bits}
use lib.Ieee.Fits.{and_i, and_l, and_r}
use Rattle.magnitude.specs.Magnitude.{units, under, raised, largest, square}
use Rattle.magnitude.specs.Pattern.{pattern_units, packed_of}
use Rattle.magnitude.proofs.Numbers.{square_le}
use Rattle.magnitude.proofs.Values.{unsigned_at, sized_units, pattern_mono, Normal, pattern_pack}

-- r passes the test, and nothing above it does
abbrev pub Top : (ℕ → Bool) → ℕ → Type 0
Top test r = T (test r) × ((q : ℕ) → r < q → T (test q) → ⊥)

pub no_higher : (test : ℕ → Bool) (r s : ℕ) → Top test r → T (test s) → s ≤ r
no_higher test r s top t = le_of_suc-le-suc (lt_of_not-le (λ h. top.1 s h t))

top_unique : (test : ℕ → Bool) (r s : ℕ) → Top test r → Top test s → r ≡ s
top_unique test r s a b = le_antisymm (no_higher test s r b a.0) (no_higher test r s a b.0)

-- ---- `raised` finds it: where the next digit passes, nothing is left above, and where it does not, nothing from there on passes
module _ (test : ℕ → Bool) (down : (p q : ℕ) → p ≤ q → T (test q) → T (test p)) where
  raised_top : (k p : ℕ) → T (test p) → ((q : ℕ) → p + 2 ^ k ≤ q → T (test q) → ⊥) → Top test (raised test k p)
  unfolding raised
  raised_top zero p here over = (here, λ q h. over q (omega arith))
  raised_top (suc k) p here over = go (test (p + 2 ^ k)) refl (raised_top k)
    where
      go : (b : Bool) → test (p + 2 ^ k) ≡ b → ((p : ℕ) → T (test p) → ((q : ℕ) → p + 2 ^ k ≤ q → T (test q) → ⊥) → Top test (raised test k p))
          → Top test (raised test k (cond b (p + 2 ^ k) p))
      go true e ih = ih (p + 2 ^ k) (subst T (sym e) tt) (λ q h. over q (omega (arith, two-pow-succ k)))
      go false e ih = ih p here (λ q h t. subst T e (down (p + 2 ^ k) q h t))

-- ---- the test on patterns, in units
units_at : (p : ℕ) → p < 0x7f80_0000 → units (of_bits binary32 p) ≡ pattern_units p
units_at p h = sized_units (of_bits binary32 p) false (pattern_units p) (unsigned_at p h)

pub under_intro : (n p : ℕ) → p < 0x7f80_0000 → square (pattern_units p) ≤ n → T (under n p)
unfolding under
under_intro n p h k =
    and_i (ltb p 0x7f80_0000) (leb (square (units (of_bits binary32 p))) n) (lt→ltb p 0x7f80_0000 h)
    (le→leb (square (units (of_bits binary32 p))) n (rw (units_at p h) k))

pub under_elim : (n p : ℕ) → T (under n p) → (p < 0x7f80_0000) × (square (pattern_units p) ≤ n)
unfolding under
under_elim n p t =
    let h : p < 0x7f80_0000 = ltb→lt p 0x7f80_0000 (and_l (ltb p 0x7f80_0000) (leb (square (units (of_bits binary32 p))) n) t) in
    (h, rw (units_at p h) at (leb→le (square (units (of_bits binary32 p))) n (and_r (ltb p 0x7f80_0000) (leb (square (units (of_bits binary32 p))) n) t)))

under_down : (n p q : ℕ) → p ≤ q → T (under n q) → T (under n p)
under_down n p q h t =
    let u = under_elim n q t in
    under_intro n p (omega arith) (le_trans (square_le (pattern_mono p q h)) u.1)

pub largest_top : (n : ℕ) → Top (under n) (largest n)
unfolding largest
largest_top n = raised_top (under n) (under_down n) 31 0 (under_intro n 0 (lit< tt) zero-le) (λ q h t. past q h (under_elim n q t).0)
  where
    past : (q : ℕ) → 0 + 2 ^ 31 ≤ q → q < 0x7f80_0000 → ⊥
    past q h k = omega arith

pub largest_is : (n p : ℕ) → Top (under n) p → largest n ≡ p
largest_is n p h = top_unique (under n) (largest n) p (largest_top n) h

pub largest_lt : (n : ℕ) → largest n < 0x7f80_0000
largest_lt n = (under_elim n (largest n) (largest_top n).0).0

-- ---- what `packed` makes is the largest
grown : (e g : ℕ) → Normal e g → Normal e (g + 1)
grown e g (inl h) = inl (omega arith)
grown e g (inr h) = inr h

top_at : (n e g : ℕ) → e < 254 → g < 0x100_0000 → Normal e g → square (g * 2 ^ e) ≤ n → n < square ((g + 1) * 2 ^ e) → Top (under n) (e * 0x80_0000 + g)
top_at n e g E G N lo hi = (
  under_intro n (e * 0x80_0000 + g) (omega arith) (rw (pattern_pack e g N (le_of_lt G)) lo),
  λ q h t.
      not-le_of_lt hi
      (le_trans (square_le (rw (pattern_pack e (g + 1) (grown e g N) (omega arith)) at (pattern_mono (e * 0x80_0000 + (g + 1)) q (omega arith)))) (under_elim n q t).1),
)

-- the largest pattern of all
last_top : (n g : ℕ) → 0x100_0000 ≤ g → square (g * 2 ^ 253) ≤ n → Top (under n) 0x7f7f_ffff
last_top n g h lo = (
  under_intro n 0x7f7f_ffff (lit< tt) (le_trans (square_le (mul-le-mul_right {m = 0xff_ffff} (2 ^ 253) (omega arith))) lo),
  λ q k t. not-le_of_lt (under_elim n q t).0 k,
)

double : (a e : ℕ) → a * 2 ^ (e + 1) ≡ a * 2 * 2 ^ e
double a e = rw (add-one, pow-succ', mul_assoc)

pub packed_top : (n e g : ℕ) → e < 254 → g < 0x200_0000 → Normal e g → square (g * 2 ^ e) ≤ n → n < square ((g + 1) * 2 ^ e) → Top (under n) (packed_of e g)
packed_top n e g E G N lo hi = go (ltb g 0x100_0000) refl (eqb e 253) refl
  where
    go : (a : Bool) → ltb g 0x100_0000 ≡ a → (b : Bool) → eqb e 253 ≡ b → Top (under n) (min (cond a (e * 0x80_0000 + g) ((e + 1) * 0x80_0000 + g / 2)) 0x7f7f_ffff)
    go true p b q =
        let l = ltb-true g 0x100_0000 p in
        rw (min-eq_left {n = e * 0x80_0000 + g} {m = 0x7f7f_ffff} (omega arith)) (top_at n e g E l N lo hi)
    go false p true q =
        let H = ltb-false g 0x100_0000 p in
        let F = eqb-true e 253 q in
        rw (min-eq_right {n = 0x7f7f_ffff} {m = (e + 1) * 0x80_0000 + g / 2} (omega arith)) (last_top n g H (rw F at lo))
    go false p false q =
        let H = ltb-false g 0x100_0000 p in
        let D : (e ≡ 253) → ⊥ = eqb-false e 253 q in
        let low : g / 2 * 2 ≤ g = omega arith in
        let high : g + 1 ≤ (g / 2 + 1) * 2 = omega arith in
        rw (min-eq_left {n = (e + 1) * 0x80_0000 + g / 2} {m = 0x7f7f_ffff} (omega arith))
        (top_at n (e + 1) (g / 2) (omega arith) (omega arith) (inl (omega arith))
        (le_trans (square_le (le_trans (le_of_eq (double (g / 2) e)) (mul-le-mul_right (2 ^ e) low))) lo)
        (lt_of_lt_of_le hi (square_le (le_trans (mul-le-mul_right (2 ^ e) high) (le_of_eq (sym (double (g / 2 + 1) e)))))))
