-- Between windows samples are only kept. Assumes nothing.
use mathlib.Core.Path.{◌≡◌, refl}
use mathlib.Core.Bool.{Bool, true, false, cond, ◌||◌, ◌&&◌, not}
use Prim.Native.Nat.{ℕ, ◌+◌, ◌≤◌, ◌<◌, ◌%◌, ◌^◌}
use native.Mathlib.Nat.{mod-eq_of_lt}
use native.Mathlib.Omega.{arith}
use lib.Dec.{ltb, leb}
use lib.IntN.{ℤ, pos, negsuc, nat_abs, ◌+ℤ◌, ◌-ℤ◌}
use lib.Signed.{lt_z, mag}
use borrow.Author.Tests.{ltb-true, leb-true}
use Rattle.dsp_types.proofs.Laws.{both_true}
use Rattle.dsp_types.specs.Ints.{up, dn, eq_z}
use Rattle.dsp_types.proofs.IntLaws.{sum, less, same, parts, lt_z_false}
use Rattle.dsp_types.specs.Refusals.{counters}
use Rattle.dsp_types.specs.Times.{slots}
use Rattle.slot_receiver.specs.Receiver.{Clock, lost_at, far_reference, far_ready, valid_time, valid_clock}
use Rattle.slot_receiver.specs.Quiet.{stands, until_close, most_quiet, last_quiet, quiet_samples}
use Rattle.slot_receiver.specs.Bounds.{Within}
use Rattle.slot_receiver.proofs.Signed.{eq_z_true}
use Rattle.slot_receiver.proofs.Doors.{valid_within}

-- a number between two others
pub record Between (l : ℤ) (x : ℤ) (h : ℤ) : Type 0 where
  pub least : up l + dn x ≤ up x + dn l
  pub most : up x + dn h ≤ up h + dn x

pub between : (l x h : ℤ) → (lt_z x l || lt_z h x) ≡ false → Between l x h
between l x h e = go (lt_z x l) refl (lt_z h x) refl e
  where
    go : (a : Bool) → lt_z x l ≡ a → (b : Bool) → lt_z h x ≡ b → (a || b) ≡ false → Between l x h
    go true f b g e = absurd (let z : ◌≡◌ {A = ℕ} 0 1 = cc in omega arith)
    go false f true g e = absurd (let z : ◌≡◌ {A = ℕ} 0 1 = cc in omega arith)
    go false f false g e = record { least = lt_z_false x l f; most = lt_z_false h x g }

-- ---- stored numbers that are read as they are

pub record Stands (k : Clock) (misses : ℕ) : Type 0 where
  pub clock : valid_clock k ≡ k
  pub ready : Within (2 ^ 40) k.slot_ready_time
  pub few : misses ≤ lost_at

pub alike : (x y : ℤ) → eq_z x y ≡ true → x ≡ y
alike x y e = same x y (eq_z_true x y e)

pub stands_as : (k : Clock) (misses : ℕ) → stands k misses ≡ true → Stands k misses
unfolding stands valid_clock
stands_as k misses e =
    let a = both_true (eq_z (valid_time far_reference k.reference_time) k.reference_time) (eq_z (valid_time far_ready k.slot_ready_time) k.slot_ready_time && (ltb k.current_slot slots && leb misses lost_at)) e in
    let b = both_true (eq_z (valid_time far_ready k.slot_ready_time) k.slot_ready_time) (ltb k.current_slot slots && leb misses lost_at) a.1 in
    let d = both_true (ltb k.current_slot slots) (leb misses lost_at) b.1 in
    let reference = alike (valid_time far_reference k.reference_time) k.reference_time a.0 in
    let ready = alike (valid_time far_ready k.slot_ready_time) k.slot_ready_time b.0 in
    let slot : k.current_slot % slots ≡ k.current_slot = mod-eq_of_lt (ltb-true k.current_slot slots d.0) in
    let w = rw ready at (valid_within far_ready k.slot_ready_time) in
    record {
      clock = λ t. record { reference_time = reference t; slot_ready_time = ready t; current_slot = slot t };
      ready = record { high = omega (arith, w.high); low = omega (arith, w.low) };
      few = leb-true misses lost_at d.1;
    }

-- ---- how many samples are only kept

module _ (k : Clock) (misses : ℕ) (c : ℤ) where
  pub quiet_invalid : stands k misses ≡ false → 0 ≡ quiet_samples k misses c
  unfolding quiet_samples
  quiet_invalid e = rw e

  module _ (e : stands k misses ≡ true) where
    pub quiet_late : (lt_z c (pos 0) || lt_z (pos last_quiet) c) ≡ true → 0 ≡ quiet_samples k misses c
    unfolding quiet_samples
    quiet_late f = rw (e, f)

    module _ (f : (lt_z c (pos 0) || lt_z (pos last_quiet) c) ≡ false) where
      pub quiet_none : (lt_z (until_close k c) (pos 1) || lt_z (pos most_quiet) (until_close k c)) ≡ true → 0 ≡ quiet_samples k misses c
      unfolding quiet_samples
      quiet_none g = rw (e, f, g)

      pub quiet_some : (lt_z (until_close k c) (pos 1) || lt_z (pos most_quiet) (until_close k c)) ≡ false → mag (until_close k c) ≡ quiet_samples k misses c
      unfolding quiet_samples
      quiet_some g = rw (e, f, g) (go (until_close k c) (between (pos 1) (until_close k c) (pos most_quiet) g))
        where
          go : (z : ℤ) → Between (pos 1) z (pos most_quiet) → mag z ≡ nat_abs z
          go (pos n) h = refl
          go (negsuc n) h = absurd (omega (arith, h.least))

-- ---- THE LAW: the n samples from the counter c on are only kept. The stored numbers are read as they are, the counters are not refused,
-- and they are all before the ready time and near it

pub record Quiet (k : Clock) (misses : ℕ) (c : ℤ) (n : ℕ) : Type 0 where
  pub clock : valid_clock k ≡ k
  pub few : misses ≤ lost_at
  pub low : dn c ≤ 0
  pub high : up c + n ≤ counters
  pub before : up c + n + dn k.slot_ready_time ≤ up k.slot_ready_time + 16
  pub near : up k.slot_ready_time ≤ up c + dn k.slot_ready_time + 2024

module _ (k : Clock) (misses : ℕ) (c : ℤ) where
  abbrev left : ℤ
  left = k.slot_ready_time +ℤ pos 16 -ℤ c

  near_it : (y z : ℤ) → Between (pos 0) y (pos last_quiet) → Between (pos 1) z (pos most_quiet)
      → up z + dn (k.slot_ready_time +ℤ pos 16 -ℤ y) ≡ up (k.slot_ready_time +ℤ pos 16 -ℤ y) + dn z → Stands k misses → Quiet k misses y (nat_abs z)
  near_it (pos m) (pos n) i j d s =
      record {
        clock = s.clock;
        few = s.few;
        low = omega arith;
        high = omega (arith, i.most, j.most);
        before = omega (arith, d, less (k.slot_ready_time +ℤ pos 16) (pos m), sum k.slot_ready_time (pos 16));
        near = omega (arith, d, j.most, less (k.slot_ready_time +ℤ pos 16) (pos m), sum k.slot_ready_time (pos 16));
      }
  near_it (pos m) (negsuc n) i j d s = absurd (omega (arith, j.least))
  near_it (negsuc m) z i j d s = absurd (omega (arith, i.least))

  pub quiet_samples_lem : 0 < quiet_samples k misses c → Quiet k misses c (quiet_samples k misses c)
  unfolding quiet_samples until_close
  quiet_samples_lem = go (stands k misses) refl (lt_z c (pos 0) || lt_z (pos last_quiet) c) refl (lt_z left (pos 1) || lt_z (pos most_quiet) left) refl
    where
      go : (a : Bool) → stands k misses ≡ a → (b : Bool) → (lt_z c (pos 0) || lt_z (pos last_quiet) c) ≡ b → (d : Bool) → (lt_z left (pos 1) || lt_z (pos most_quiet) left) ≡ d
          → 0 < cond (a && (not b && not d)) (nat_abs left) 0 → Quiet k misses c (cond (a && (not b && not d)) (nat_abs left) 0)
      go false e b f d g h = absurd (omega arith)
      go true e true f d g h = absurd (omega arith)
      go true e false f true g h = absurd (omega arith)
      go true e false f false g h =
          near_it c left (between (pos 0) c (pos last_quiet) f) (between (pos 1) left (pos most_quiet) g) (parts left left refl) (stands_as k misses e)
