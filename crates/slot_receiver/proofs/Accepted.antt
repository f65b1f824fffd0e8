-- The counter of a sample that is not refused. Assumes nothing.
use mathlib.Core.Path.{◌≡◌, refl}
use mathlib.Core.Bool.{Bool, true, false, cond, ◌||◌}
use Prim.Native.Nat.{ℕ, ◌+◌, ◌-◌, ◌≤◌, ◌<◌}
use native.Mathlib.Omega.{arith}
use lib.Dec.{ltb}
use lib.IntN.{ℤ, pos, negsuc, ◌-ℤ◌}
use lib.Signed.{lt_z}
use borrow.Author.Tests.{ltb-false}
use Rattle.dsp_types.specs.declared.ComplexSample.{ComplexSample}
use Rattle.dsp_types.proofs.IntLaws.{less, same}
use Rattle.dsp_types.specs.Refusals.{beyond, out_of_count, counters, last_counter}
use Rattle.slot_receiver.specs.Receiver.{missing}
use Rattle.slot_receiver.specs.Calls.{sample_refusal}

-- the counter of a sample that is accepted where n is expected
pub record Accepted (n : ℕ) (c : ℤ) : Type 0 where
  pub counter : ℕ
  pub is : c ≡ pos counter
  pub below : counter < counters
  pub least : n ≤ counter

pub accepted_at_lem : (next : ℤ) (x : ComplexSample) (c : ℤ) (n : ℕ) → sample_refusal next x c ≡ 0 → next ≡ pos n → Accepted n c
unfolding sample_refusal out_of_count
accepted_at_lem next x c n e f = bad (beyond x.re || beyond x.im) c e
  where
    count : (k : ℕ) (o : Bool) → ltb last_counter k ≡ o → (l : Bool) → lt_z (pos k) next ≡ l → ◌≡◌ {A = ℕ} (cond o 2 (cond l 10 0)) 0 → Accepted n (pos k)
    count k true p l q e = absurd (omega (arith, e))
    count k false p true q e = absurd (omega (arith, e))
    count k false p false q e = record { counter = k; is = refl; below = omega (arith, ltb-false last_counter k p); least = omega (arith, ltb-false k n (rw f at q)) }

    bad : (b : Bool) (c : ℤ) → ◌≡◌ {A = ℕ} (cond b 1 (cond (out_of_count c) 2 (cond (lt_z c next) 10 0))) 0 → Accepted n c
    bad true c e = absurd (omega (arith, e))
    bad false (negsuc k) e = absurd (omega (arith, e))
    bad false (pos k) e = count k (ltb last_counter k) refl (lt_z (pos k) next) refl e

-- so many zeros are fed before it
pub missing_most : (n k : ℕ) → n ≤ k → n + missing (pos k -ℤ pos n) ≤ k
unfolding missing
missing_most n k h = rw e (omega arith)
  where
    e : pos k -ℤ pos n ≡ pos (k - n)
    e = same (pos k -ℤ pos n) (pos (k - n)) (omega (arith, less (pos k) (pos n)))
