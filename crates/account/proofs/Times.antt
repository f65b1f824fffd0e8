-- The receiver's integer arithmetic, each place once, as facts that `omega` reads.
use mathlib.Core.Path.{◌≡◌, refl, ap, ◌∙◌}
use mathlib.Core.Bool.{true, false}
use Prim.Native.Nat.{ℕ, zero, suc, ◌+◌, ◌*◌, ◌≤◌, ◌<◌}
use native.Mathlib.Omega.{arith}
use native.Mathlib.Nat.{mod-eq_of_lt, div-eq_of_lt}
use lib.IntN.{ℤ, pos, negsuc, neg_ℤ, ◌+ℤ◌, ◌-ℤ◌}
use Rattle.slot_receiver.proofs.Times.{found_half}
use Rattle.dsp_types.specs.Ints.{up, dn, eq_z}
use Rattle.dsp_types.proofs.IntLaws.{sum, less, same, lt_z_yes, lt_z_no, eq_z_yes, eq_z_no}
use Rattle.dsp_types.specs.Times.{slots, slot_of, div_euclid, divisor}
use Rattle.slot_receiver.specs.Receiver.{far, slots_to_skip, found_time, missing}

-- the counter less the filter's delay, less the ready time z
tdiff_parts : (n : ℕ) (z : ℤ) → up (pos n -ℤ pos 16 -ℤ z) + 16 + up z ≡ dn (pos n -ℤ pos 16 -ℤ z) + n + dn z
tdiff_parts n z = omega (arith, less (pos n) (pos 16), less (pos n -ℤ pos 16) z)

pub near : (n : ℕ) (z : ℤ) → n + dn z ≤ up z + 16 → up z + 16 ≤ n + dn z + 2040 → far (pos n -ℤ pos 16 -ℤ z) ≡ false
unfolding far
near n z h k =
    let t : ℤ = pos n -ℤ pos 16 -ℤ z in
    rw (lt_z_no t (negsuc 2039) (omega (arith, tdiff_parts n z)), lt_z_no (pos 0) t (omega (arith, tdiff_parts n z)))

pub past : (n : ℕ) (z : ℤ) → up z + 16 < n + dn z → far (pos n -ℤ pos 16 -ℤ z) ≡ true
unfolding far
past n z h =
    let t : ℤ = pos n -ℤ pos 16 -ℤ z in
    rw (lt_z_no t (negsuc 2039) (omega (arith, tdiff_parts n z)), lt_z_yes (pos 0) t (omega (arith, tdiff_parts n z)))

-- less than a slot late: one slot is skipped
one_slot : (t : ℤ) → up t ≤ 1020 + dn t → dn t < up t → slots_to_skip t ≡ pos 1
unfolding slots_to_skip div_euclid divisor
one_slot (pos zero) h l = absurd (omega arith)
one_slot (pos (suc n)) h l = ap (λ (k : ℕ). neg_ℤ (negsuc k)) (div-eq_of_lt (omega arith))
one_slot (negsuc n) h l = absurd (omega arith)

pub skips_one : (n : ℕ) (z : ℤ) → up z + 16 < n + dn z → n + dn z ≤ up z + 1036 → slots_to_skip (pos n -ℤ pos 16 -ℤ z) ≡ pos 1
skips_one n z h k = one_slot (pos n -ℤ pos 16 -ℤ z) (omega (arith, tdiff_parts n z)) (omega (arith, tdiff_parts n z))

pub closes_yes : (n : ℕ) (z : ℤ) → up z + 16 ≡ n + dn z → eq_z (pos n -ℤ pos 16) z ≡ true
closes_yes n z h = eq_z_yes (pos n -ℤ pos 16) z (omega (arith, less (pos n) (pos 16)))

pub closes_no : (n : ℕ) (z : ℤ) → (up z + 16 ≡ n + dn z → ⊥) → eq_z (pos n -ℤ pos 16) z ≡ false
closes_no n z h = eq_z_no (pos n -ℤ pos 16) z (λ e. h (omega (arith, less (pos n) (pos 16), e)))

-- no sample is missing
pub none_missing : (n : ℕ) → missing (pos n -ℤ pos n) ≡ 0
unfolding missing
none_missing n = ap missing (same (pos n -ℤ pos n) (pos 0) (omega (arith, less (pos n) (pos n))))

-- the slot's ready time from the reference time
pub ready_parts : (z : ℤ) (a b : ℕ) → up (z +ℤ pos a +ℤ pos b) + dn z ≡ dn (z +ℤ pos a +ℤ pos b) + up z + a + b
ready_parts z a b = omega (arith, sum z (pos a), sum (z +ℤ pos a) (pos b))

-- the next slot, where the count does not wrap; from the last number, −1, it is 0
pub next_slot_lem : (s : ℕ) → suc s < slots → slot_of (pos s +ℤ pos 1) ≡ suc s
unfolding slot_of
next_slot_lem s h = mod-eq_of_lt (omega arith) ∙ omega arith

pub first_slot : slot_of (pos (slot_of (negsuc 0)) +ℤ pos 1) ≡ 0
unfolding slot_of
first_slot = refl

-- the reference time at a find, from the ready time z: the place, from bit 216 on, is even and at most 256
pub found_parts : (z : ℤ) (place half : ℕ) → place ≡ 2 * half → half ≤ 128
    → up (found_time z place) + 2034 + dn z ≡ dn (found_time z place) + up z + 4 * half
unfolding found_time
found_parts z place half e k =
    rw (e, found_half z half k) (omega (arith, sum (z -ℤ pos 2034) (pos (2 * half * 2)), less z (pos 2034)))
