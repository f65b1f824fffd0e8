-- Laws of integers for `omega`, which reads native ℕ alone: at `pos n` and `negsuc n` up and dn compute, and a sum of integers is brought in by
-- `sum x y`. Assumes nothing.
use mathlib.Core.Path.{◌≡◌, refl, ap}
use mathlib.Core.Bool.{Bool, true, false, cond, true≢false}
use Prim.Native.Nat.{ℕ, zero, suc, ◌+◌, ◌-◌, ◌≤◌, ◌<◌}
use native.Mathlib.Omega.{arith}
use lib.IntN.{ℤ, pos, negsuc, neg_ℤ, sub_ℕ, ◌+ℤ◌, ◌-ℤ◌}
use lib.Signed.{lt_z}
use lib.Dec.{ltb}
use borrow.Author.Tests.{ltb-true, ltb-false, lt-ltb, le-ltb, eq-eqb, ne_eqb}
use Rattle.dsp_types.specs.Ints.{up, dn, eq_z}

sub_parts : (a b : ℕ) → up (sub_ℕ a b) + b ≡ dn (sub_ℕ a b) + a
sub_parts a b = go (ltb a b) refl
  where
    go : (c : Bool) → ltb a b ≡ c → up (cond c (negsuc (b - suc a)) (pos (a - b))) + b ≡ dn (cond c (negsuc (b - suc a)) (pos (a - b))) + a
    go true e = omega (arith, ltb-true a b e)
    go false e = omega (arith, ltb-false a b e)

-- a sum, as an equation of naturals
pub sum : (x y : ℤ) → up (x +ℤ y) + dn x + dn y ≡ dn (x +ℤ y) + up x + up y
sum (pos a) (pos b) = omega arith
sum (pos a) (negsuc b) = omega (arith, sub_parts a (suc b))
sum (negsuc a) (pos b) = omega (arith, sub_parts b (suc a))
sum (negsuc a) (negsuc b) = omega arith

pub up_neg : (x : ℤ) → up (neg_ℤ x) ≡ dn x
up_neg (pos zero) = refl
up_neg (pos (suc n)) = refl
up_neg (negsuc n) = refl

pub dn_neg : (x : ℤ) → dn (neg_ℤ x) ≡ up x
dn_neg (pos zero) = refl
dn_neg (pos (suc n)) = refl
dn_neg (negsuc n) = refl

-- a difference
pub less : (x y : ℤ) → up (x -ℤ y) + dn x + up y ≡ dn (x -ℤ y) + up x + dn y
less x y = omega (arith, sum x (neg_ℤ y), up_neg y, dn_neg y)

-- two integers with equal parts are equal
pub same : (x y : ℤ) → up x + dn y ≡ up y + dn x → x ≡ y
same (pos a) (pos b) h = ap pos (omega arith)
same (pos a) (negsuc b) h = absurd (omega arith)
same (negsuc a) (pos b) h = absurd (omega arith)
same (negsuc a) (negsuc b) h = ap negsuc (omega arith)

pub parts : (x y : ℤ) → x ≡ y → up x + dn y ≡ up y + dn x
parts x y e = omega (arith, ap up e, ap dn e)

-- one of the parts is 0
pub above_zero : (x : ℤ) → dn x ≤ up x → dn x ≡ 0
above_zero (pos n) h = refl
above_zero (negsuc n) h = absurd (omega arith)

-- ---- the tests
pub lt_z_yes : (x y : ℤ) → up x + dn y < up y + dn x → lt_z x y ≡ true
lt_z_yes (pos a) (pos b) h = lt-ltb a b (omega arith)
lt_z_yes (pos a) (negsuc b) h = absurd (omega arith)
lt_z_yes (negsuc a) (pos b) h = refl
lt_z_yes (negsuc a) (negsuc b) h = lt-ltb b a (omega arith)

pub lt_z_no : (x y : ℤ) → up y + dn x ≤ up x + dn y → lt_z x y ≡ false
lt_z_no (pos a) (pos b) h = le-ltb a b (omega arith)
lt_z_no (pos a) (negsuc b) h = refl
lt_z_no (negsuc a) (pos b) h = absurd (omega arith)
lt_z_no (negsuc a) (negsuc b) h = le-ltb b a (omega arith)

pub lt_z_true : (x y : ℤ) → lt_z x y ≡ true → up x + dn y < up y + dn x
lt_z_true (pos a) (pos b) e = omega (arith, ltb-true a b e)
lt_z_true (pos a) (negsuc b) e = absurd (let z : ◌≡◌ {A = ℕ} 0 1 = cc in omega arith)
lt_z_true (negsuc a) (pos b) e = omega arith
lt_z_true (negsuc a) (negsuc b) e = omega (arith, ltb-true b a e)

pub lt_z_false : (x y : ℤ) → lt_z x y ≡ false → up y + dn x ≤ up x + dn y
lt_z_false (pos a) (pos b) e = omega (arith, ltb-false a b e)
lt_z_false (pos a) (negsuc b) e = omega arith
lt_z_false (negsuc a) (pos b) e = absurd (true≢false e)
lt_z_false (negsuc a) (negsuc b) e = omega (arith, ltb-false b a e)

pub eq_z_yes : (x y : ℤ) → up x + dn y ≡ up y + dn x → eq_z x y ≡ true
eq_z_yes (pos a) (pos b) h = eq-eqb a b (omega arith)
eq_z_yes (pos a) (negsuc b) h = absurd (omega arith)
eq_z_yes (negsuc a) (pos b) h = absurd (omega arith)
eq_z_yes (negsuc a) (negsuc b) h = eq-eqb a b (omega arith)

pub eq_z_no : (x y : ℤ) → (up x + dn y ≡ up y + dn x → ⊥) → eq_z x y ≡ false
eq_z_no (pos a) (pos b) h = ne_eqb a b (λ e. h (omega arith))
eq_z_no (pos a) (negsuc b) h = refl
eq_z_no (negsuc a) (pos b) h = refl
eq_z_no (negsuc a) (negsuc b) h = ne_eqb a b (λ e. h (omega arith))
