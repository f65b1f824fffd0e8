-- The tests and counts of a sample, over plain numbers. Assumes nothing.
use mathlib.Core.Path.{◌≡◌, refl}
use mathlib.Core.Bool.{Bool, true, false, cond, ◌||◌}
use Prim.Native.Nat.{ℕ, zero, suc, ◌+◌, ◌-◌, ◌<◌, ◌≤◌, min}
use native.Mathlib.Nat.{min-le_left}
use native.Mathlib.Omega.{arith}
use lib.Dec.{lit≤}
use lib.IntN.{ℤ, pos, negsuc, ◌+ℤ◌, ◌-ℤ◌}
use lib.Signed.{mag, lt_z}
use borrow.Author.Tests.{ltb-false}
use Rattle.dsp_types.specs.Ints.{up, dn}
use Rattle.dsp_types.proofs.IntLaws.{less, lt_z_no}
use Rattle.dsp_types.specs.declared.ComplexSample.{ComplexSample}
use Rattle.dsp_types.specs.Refusals.{beyond, out_of_count, counters, last_counter}
use Rattle.dsp_types.specs.Samples.{silence}
use Rattle.dsp_types.specs.Times.{fitted}
use Rattle.slot_receiver.specs.Receiver.{Receiver, valid_count, process_sample, missing, feed_zeros}
use Rattle.slot_receiver.specs.Calls.{sample_refusal}
use Rattle.slot_receiver.specs.Bounds.{Counter}
use Rattle.slot_receiver.proofs.Signed.{counter_37, plus_few}

pub missing_least : (c n : ℤ) → up n + dn c ≤ up c + dn n → min (mag (c -ℤ n)) 1020 ≡ missing (c -ℤ n)
unfolding missing
missing_least c n h = go (c -ℤ n) (omega (arith, less c n))
  where
    go : (z : ℤ) → dn z ≤ up z → min (mag z) 1020 ≡ missing z
    go (pos k) l = refl
    go (negsuc k) l = absurd (omega arith)

-- ---- zeros for missing samples

pub no_zeros : (left : ℕ) (r : Receiver) (c : ℤ) → left ≤ 0 → r ≡ feed_zeros left r c
unfolding feed_zeros
no_zeros zero r c h = refl
no_zeros (suc left) r c h = absurd (omega arith)

pub one_zero : (left : ℕ) (r : Receiver) (c : ℤ) → 0 < left → feed_zeros left r c ≡ feed_zeros (left - 1) (process_sample r silence (c -ℤ pos left)) c
unfolding feed_zeros
one_zero zero r c h = absurd (omega arith)
one_zero (suc left) r c h = rw (suc_less left)
  where
    suc_less : (n : ℕ) → suc n - 1 ≡ n
    suc_less n = omega arith

pub counter_before : (c : ℤ) (left : ℕ) → left ≤ up c → Counter c → Counter (c -ℤ pos left)
counter_before c left h n = at (c -ℤ pos left) (less c (pos left))
  where
    at : (z : ℤ) → up z + dn c + left ≡ dn z + up c + 0 → Counter z
    at (pos k) e = record { high = omega (arith, e, n); low = omega arith }
    at (negsuc k) e = absurd (omega (arith, e, n, h))

-- the counter after one in its range is what it is in whole numbers
pub next_counter_lem : (c : ℤ) → Counter c → fitted (c +ℤ pos 1) ≡ c +ℤ pos 1
next_counter_lem c h = plus_few 1 (lit≤ tt) (lit≤ tt) (counter_37 h)

-- a counter in its range counts as it is
pub counted : (c : ℤ) → Counter c → valid_count c ≡ c
unfolding valid_count
counted c h =
    let a : lt_z c (pos 0) ≡ false = lt_z_no c (pos 0) (omega (arith, h.low)) in
    let b : lt_z (pos counters) c ≡ false = lt_z_no (pos counters) c (omega (arith, h.low, h.high)) in
    rw (a, b)

-- what it means that a sample is not refused
pub record Heard (next c : ℤ) : Type 0 where
  pub counter : Counter c
  pub later : lt_z c next ≡ false

pub not_refused : (next : ℤ) (x : ComplexSample) (c : ℤ) → sample_refusal next x c ≡ 0 → Heard next c
unfolding sample_refusal out_of_count
not_refused next x c e = go c (beyond x.re || beyond x.im) (out_of_count c) refl (lt_z c next) refl e
  where
    go : (y : ℤ) (a b : Bool) → out_of_count y ≡ b → (d : Bool) → lt_z y next ≡ d → ◌≡◌ {A = ℕ} (cond a 1 (cond b 2 (cond d 10 0))) 0 → Heard next y
    go y true b f d g h = absurd (omega (arith, h))
    go y false true f d g h = absurd (omega (arith, h))
    go y false false f true g h = absurd (omega (arith, h))
    go (pos n) false false f false g h = record { counter = record { high = omega (arith, ltb-false last_counter n f); low = omega arith }; later = g }
    go (negsuc n) false false f false g h = absurd (let z : ◌≡◌ {A = ℕ} 0 1 = cc in omega arith)

pub missing_below : (c n : ℤ) → dn n ≤ 0 → dn c ≤ 0 → missing (c -ℤ n) ≤ up c
unfolding missing
missing_below c n h k = go (c -ℤ n) (less c n)
  where
    go : (z : ℤ) → up z + dn c + up n ≡ dn z + up c + dn n → missing z ≤ up c
    go (pos m) e = omega (arith, min-le_left m 1020, e, h, k)
    go (negsuc m) e = omega arith
