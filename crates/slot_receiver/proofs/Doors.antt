-- Stored numbers as a sample reads them: they are valid ones. Assumes nothing.
use mathlib.Core.Path.{◌≡◌, refl}
use mathlib.Core.Bool.{Bool, true, false, cond, ◌||◌}
use Prim.Native.Nat.{ℕ, ◌+◌, ◌%◌, ◌^◌, min}
use native.Mathlib.Nat.{mod-lt, min-le_left}
use native.Mathlib.Omega.{arith}
use lib.Dec.{leb, lit<}
use lib.IntN.{ℤ, pos, negsuc}
use lib.Signed.{mag, lt_z}
use borrow.Author.Tests.{leb-true, ltb-false}
use Rattle.dsp_types.specs.Refusals.{counters}
use Rattle.dsp_types.specs.Times.{slots}
use Rattle.slot_receiver.specs.Receiver.{Receiver, lost_at, with_clock, with_lock, far_reference, far_ready, valid_time, valid_count, valid_clock, valid_lock, valid}
use Rattle.slot_receiver.specs.Bounds.{Within, Timed, Counter}

pub valid_within : (most : ℕ) (z : ℤ) → Within (most + 1) (valid_time most z)
unfolding valid_time
valid_within most z = go z (leb (mag z) most) refl
  where
    go : (y : ℤ) (b : Bool) → leb (mag y) most ≡ b → Within (most + 1) (cond b y (pos 0))
    go (pos n) true e = record { high = omega (arith, leb-true n most e); low = omega arith }
    go (negsuc n) true e = record { high = omega arith; low = omega (arith, leb-true n most e) }
    go y false e = record { high = omega arith; low = omega arith }

pub valid_timed : (r : Receiver) → Timed (valid r).clock (valid r).lock.misses
unfolding valid valid_clock valid_lock with_clock with_lock
valid_timed r =
    record {
      reference = valid_within far_reference r.clock.reference_time;
      ready = near (valid_within far_ready r.clock.slot_ready_time);
      current = mod-lt r.clock.current_slot (lit< tt);
      few = min-le_left lost_at r.lock.misses;
    }
  where
    near : {z : ℤ} → Within (far_ready + 1) z → Within (2 ^ 40) z
    near h = record { high = omega (arith, h); low = omega (arith, h) }

pub valid_counter : (z : ℤ) → Counter (valid_count z)
unfolding valid_count
valid_counter z = go z (lt_z z (pos 0)) refl (lt_z (pos counters) z) refl
  where
    go : (y : ℤ) (a : Bool) → lt_z y (pos 0) ≡ a → (b : Bool) → lt_z (pos counters) y ≡ b → Counter (cond (a || b) (pos 0) y)
    go y true e b f = record { high = omega arith; low = omega arith }
    go y false e true f = record { high = omega arith; low = omega arith }
    go (pos n) false e false f = record { high = omega (arith, ltb-false counters n f); low = omega arith }
    go (negsuc n) false e false f = absurd (let z : ◌≡◌ {A = ℕ} 0 1 = cc in omega arith)

pub valid_as : (r : Receiver) (reference ready : ℤ) (slot misses : ℕ) → reference ≡ valid_time far_reference r.clock.reference_time
    → ready ≡ valid_time far_ready r.clock.slot_ready_time → slot ≡ r.clock.current_slot % slots → misses ≡ min lost_at r.lock.misses
    → with_lock (with_clock r (record { reference_time = reference; slot_ready_time = ready; current_slot = slot })) (record { timing_error = r.lock.timing_error; misses = misses })
    ≡ valid r
unfolding valid valid_clock valid_lock
valid_as r reference ready slot misses a b o m = rw (a, b, o, m)
