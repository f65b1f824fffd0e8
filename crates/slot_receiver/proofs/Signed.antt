-- Bounds of sums and differences of signed numbers. Assumes nothing.
use mathlib.Core.Path.{◌≡◌}
use Prim.Native.Nat.{ℕ, ◌+◌, ◌-◌, ◌/◌, ◌<◌, ◌≤◌, ◌^◌}
use native.Mathlib.Omega.{arith}
use lib.IntN.{ℤ, pos, negsuc, neg_ℤ, ◌+ℤ◌, ◌-ℤ◌}
use lib.Dec.{lit≤}
use Rattle.slot_receiver.specs.declared.Mode.{Mode}
use Rattle.slot_receiver.specs.declared.Mode.TheVariants.{Idle, DlUnsynchronized, Dl, Ul}
use Rattle.slot_receiver.specs.Receiver.{slot_ready_from_begin, slots_to_skip}
use mathlib.Core.Bool.{true}
use borrow.Author.Tests.{eqb-true}
use mir.Syntax.{w32, w64}
use lib.Signed.{mag}
use mir.Val.{SFits, to_z, of_z}
use mir.ValLaws.{to_z-of_z}
use Rattle.dsp_types.specs.Ints.{up, dn, eq_z}
use Rattle.dsp_types.proofs.IntLaws.{sum, less, up_neg, dn_neg}
use Rattle.dsp_types.proofs.Fitting.{fitted_fits}
use Rattle.dsp_types.specs.Times.{fitted, div_euclid, divisor}
use Rattle.slot_receiver.specs.Bounds.{Within, Counter}

-- a number that is p − n, both within 2^62
fits : (z : ℤ) (p n : ℕ) → up z + n ≡ dn z + p → p ≤ 2 ^ 62 → n ≤ 2 ^ 62 → SFits w64 z
fits (pos k) p n e h l = record { sfits = omega (arith, e, h) }
fits (negsuc k) p n e h l = record { sfits = omega (arith, e, l) }

-- the same for any bound
bounded : {m : ℕ} (z : ℤ) (p n : ℕ) → up z + n ≡ dn z + p → p ≤ m → n ≤ m → Within m z
bounded (pos k) p n e h l = record { high = omega (arith, e, h); low = omega arith }
bounded (negsuc k) p n e h l = record { high = omega arith; low = omega (arith, e, l) }

pub sum_fits : (x y : ℤ) → Within (2 ^ 61) x → Within (2 ^ 61) y → SFits w64 (x +ℤ y)
sum_fits x y h k = fits (x +ℤ y) (up x + up y) (dn x + dn y) (omega (arith, sum x y)) (omega (arith, h, k)) (omega (arith, h, k))

pub difference_fits : (x y : ℤ) → Within (2 ^ 61) x → Within (2 ^ 61) y → SFits w64 (x -ℤ y)
difference_fits x y h k = fits (x -ℤ y) (up x + dn y) (dn x + up y) (omega (arith, less x y)) (omega (arith, h, k)) (omega (arith, h, k))

-- a sum, and a difference, of numbers within 2^61 is what it is in whole numbers
pub plus_is : {x y : ℤ} → Within (2 ^ 61) x → Within (2 ^ 61) y → fitted (x +ℤ y) ≡ x +ℤ y
plus_is {x} {y} h k = fitted_fits (x +ℤ y) (sum_fits x y h k)

pub minus_is : {x y : ℤ} → Within (2 ^ 61) x → Within (2 ^ 61) y → fitted (x -ℤ y) ≡ x -ℤ y
minus_is {x} {y} h k = fitted_fits (x -ℤ y) (difference_fits x y h k)

pub within_fits : {z : ℤ} → Within (2 ^ 61) z → SFits w64 z
within_fits {z} h = fits z (up z) (dn z) (omega arith) (omega (arith, h)) (omega (arith, h))

-- a call's result, read back from its bits
pub read : (z : ℤ) → mag z < 2 ^ 63 → to_z w64 (of_z w64 z) ≡ z
read z h = to_z-of_z w64 z (record { sfits = h })

-- a number within bounds, read back from its bits
pub read_within : {z : ℤ} → Within (2 ^ 61) z → to_z w64 (of_z w64 z) ≡ z
read_within {z} h = to_z-of_z w64 z (within_fits h)

-- ---- bounds that grow

pub wider : {m : ℕ} (n : ℕ) {z : ℤ} → m ≤ n → Within m z → Within n z
wider n l h = record { high = omega (arith, l, h); low = omega (arith, l, h) }

pub within_pos : {n : ℕ} (m : ℕ) → n ≤ m → Within m (pos n)
within_pos m h = record { high = h; low = omega arith }

-- so few more, or less, than a number within bounds
pub plus_few : {m : ℕ} (n : ℕ) {z : ℤ} → m ≤ 2 ^ 61 → n ≤ 2 ^ 61 → Within m z → fitted (z +ℤ pos n) ≡ z +ℤ pos n
plus_few n l k h = plus_is (wider (2 ^ 61) l h) (within_pos (2 ^ 61) k)

pub minus_few : {m : ℕ} (n : ℕ) {z : ℤ} → m ≤ 2 ^ 61 → n ≤ 2 ^ 61 → Within m z → fitted (z -ℤ pos n) ≡ z -ℤ pos n
minus_few n l k h = minus_is (wider (2 ^ 61) l h) (within_pos (2 ^ 61) k)

pub within_sum : {a b : ℕ} (x y : ℤ) → Within a x → Within b y → Within (a + b) (x +ℤ y)
within_sum x y h k = bounded (x +ℤ y) (up x + up y) (dn x + dn y) (omega (arith, sum x y)) (omega (arith, h, k)) (omega (arith, h, k))

pub within_difference : {a b : ℕ} (x y : ℤ) → Within a x → Within b y → Within (a + b) (x -ℤ y)
within_difference x y h k = bounded (x -ℤ y) (up x + dn y) (dn x + up y) (omega (arith, less x y)) (omega (arith, h, k)) (omega (arith, h, k))

pub within_less : {m n : ℕ} {x z : ℤ} → z ≡ x -ℤ pos n → Within m x → m ≤ 2 ^ 60 → n ≤ 2 ^ 60 → Within (2 ^ 61) z
within_less {m} {n} {x} e h l k = rw e (wider (2 ^ 61) (omega (arith, l, k)) (within_difference x (pos n) h (within_pos n (omega arith))))

pub ready_within : (m : Mode) → Within 1020 (slot_ready_from_begin m)
unfolding slot_ready_from_begin
ready_within Idle = within_pos 1020 (lit≤ tt)
ready_within DlUnsynchronized = within_pos 1020 (lit≤ tt)
ready_within Dl = within_pos 1020 (lit≤ tt)
ready_within Ul = within_pos 1020 (lit≤ tt)

-- ---- skipped slots

pub negated_fits : (z : ℤ) → Within (2 ^ 61) z → SFits w64 (pos 0 -ℤ z)
negated_fits z h = difference_fits (pos 0) z (within_pos (2 ^ 61) (lit≤ tt)) h

pub negated_within : {m : ℕ} (z : ℤ) → Within m z → Within m (neg_ℤ z)
negated_within z h = record { high = omega (arith, up_neg z, h); low = omega (arith, dn_neg z, h) }

pub quotient_within : {m : ℕ} (z : ℤ) → Within m z → Within (m / 1020 + 1) (div_euclid z 1020)
unfolding div_euclid divisor
quotient_within {m} (pos n) h = record { high = omega (arith, h); low = omega arith }
quotient_within {m} (negsuc n) h = record { high = omega arith; low = omega (arith, h) }

pub skipped_fits : (t : ℤ) → Within (2 ^ 41 - 2 ^ 34) t → SFits w32 (slots_to_skip t)
unfolding slots_to_skip
skipped_fits t h = fits_32 _ (negated_within _ (quotient_within _ (negated_within t h)))
  where
    fits_32 : (z : ℤ) → Within ((2 ^ 41 - 2 ^ 34) / 1020 + 1) z → SFits w32 z
    fits_32 (pos n) k = record { sfits = omega (arith, k) }
    fits_32 (negsuc n) k = record { sfits = omega (arith, k) }

pub eq_z_true : (x y : ℤ) → eq_z x y ≡ true → up x + dn y ≡ up y + dn x
eq_z_true (pos a) (pos b) e = omega (arith, eqb-true a b e)
eq_z_true (pos a) (negsuc b) e = absurd (let z : ◌≡◌ {A = ℕ} 0 1 = cc in omega arith)
eq_z_true (negsuc a) (pos b) e = absurd (let z : ◌≡◌ {A = ℕ} 0 1 = cc in omega arith)
eq_z_true (negsuc a) (negsuc b) e = omega (arith, eqb-true a b e)

pub counter_37 : {c : ℤ} → Counter c → Within (2 ^ 37) c
counter_37 h = record { high = omega (arith, h); low = omega (arith, h) }
