-- The receiver's times stay within their bounds as a window closes: a find sets the reference time by the ready time, tracking moves it
-- by one sample, and the ready time is at most all slots behind it. Assumes nothing.
use mathlib.Core.Path.{◌≡◌}
use mathlib.Core.Bool.{Bool, true, false}
use mathlib.Core.Logic.{inl, inr}
use Prim.Native.Nat.{ℕ, suc, ◌+◌, ◌-◌, ◌*◌, ◌/◌, ◌≤◌, ◌<◌, ◌^◌}
use native.Mathlib.Omega.{arith}
use lib.Dec.{leb, lit≤}
use lib.ListN.{length}
use lib.IntN.{ℤ, pos, negsuc, neg_ℤ, ◌+ℤ◌, ◌-ℤ◌, ◌*ℤ◌}
use lib.Signed.{quot_z}
use lib.Ieee.{Float}
use Rattle.dsp_types.proofs.Laws.{slot_below}
use Rattle.dsp_types.specs.Ints.{up, dn, eq_z}
use Rattle.dsp_types.proofs.IntLaws.{sum, less, same, up_neg, dn_neg}
use Rattle.dsp_types.specs.Samples.{silence, ago}
use Rattle.dsp_types.specs.Times.{slots, slot_of}
use Rattle.timing.specs.Tracking.{moved_of}
use Rattle.timing.proofs.Tracking.{moved_law}
use Rattle.timing.specs.Turns.{whole_of, fract_of}
use Rattle.burst_finder.specs.declared.Found.{Found}
use Rattle.burst_finder.specs.Search.{find_sync}
use Rattle.burst_finder.proofs.Lock.{Placed, placed}
use Rattle.slot_bits.proofs.Laws.{length_bits}
use Rattle.listener.specs.Signal.{Signal, timing_of, bits_of, window_bits}
use Rattle.slot_receiver.specs.declared.Mode.{Mode}
use Rattle.slot_receiver.specs.declared.Mode.TheVariants.{Idle, DlUnsynchronized, Dl, Ul}
use Rattle.slot_receiver.specs.Receiver.{Clock, Receiver, with_mode, with_clock, with_lock, with_waits, with_slot, set_slot, add_slots, slot_ready_from_begin, found_time, found, not_found_yet, search_window, hand_over, downlink_window, process_past_samples, track, processed, tdiff, far, slots_to_skip, skip_if, skipped}
use Rattle.slot_receiver.specs.Bounds.{Within, Timed, Closing, Scheduled, Counter}
use Rattle.slot_receiver.proofs.Signed.{wider, within_pos, within_sum, within_difference, ready_within, eq_z_true, counter_37}

-- ---- a window's bits

-- a window of n symbols has 2 (n − 1) bits
pub bits_long : (s : Signal) (d n : ℕ) → length (bits_of s d n) ≡ 2 * (n - 1)
unfolding bits_of
bits_long s d n = length_bits (ago silence s.past) d (whole_of (timing_of s d n)) (fract_of (timing_of s d n)) n

pub sync_placed : (s : Signal) → Placed (find_sync (window_bits s))
sync_placed s = placed (window_bits s) (bits_long s 1024 256)

-- ---- sums

-- a find's reference time: the place is even and at most 256, so that the source's quotient rounds nothing
pub found_half : (z : ℤ) (half : ℕ) → half ≤ 128
    → z -ℤ pos 1018 +ℤ quot_z (pos (2 * half + 2) -ℤ pos 510) (pos 2) *ℤ pos 4 ≡ z -ℤ pos 2034 +ℤ pos (2 * half * 2)
found_half z half h =
    rw (below, halved)
    (let w : ℤ = neg_ℤ (pos (suc (253 - half) * 4)) in
    same (z -ℤ pos 1018 +ℤ w) (z -ℤ pos 2034 +ℤ pos (2 * half * 2))
    (omega (arith, sum (z -ℤ pos 1018) w, less z (pos 1018), up_neg (pos (suc (253 - half) * 4)), dn_neg (pos (suc (253 - half) * 4)), sum (z -ℤ pos 2034) (pos (2 * half * 2)), less z (pos 2034))))
  where
    below : pos (2 * half + 2) -ℤ pos 510 ≡ negsuc (507 - 2 * half)
    below = same (pos (2 * half + 2) -ℤ pos 510) (negsuc (507 - 2 * half)) (omega (arith, less (pos (2 * half + 2)) (pos 510)))

    halved : suc (507 - 2 * half) / 2 ≡ suc (253 - half)
    halved = omega arith

pub found_reference : (z : ℤ) (f : Found) → Placed f → found_time z f.pos ≡ z -ℤ pos 2034 +ℤ pos (f.pos * 2)
unfolding found_time
found_reference z f p =
    let e : f.pos ≡ 2 * (p.half - 108) = omega (arith, p.place, p.least) in
    rw e (found_half z (p.half - 108) (omega (arith, p.most)))

pub found_within : (z : ℤ) (place : ℕ) → Within (2 ^ 38) z → place ≤ 256 → Within (2 ^ 39) (z -ℤ pos 2034 +ℤ pos (place * 2))
found_within z place h l =
    wider (2 ^ 39) (lit≤ tt)
    (within_sum (z -ℤ pos 2034) (pos (place * 2)) (within_difference z (pos 2034) h (within_pos {n = 2034} 2034 (lit≤ tt))) (within_pos {n = place * 2} 512 (omega (arith, l))))

-- tracking moves the reference time by at most one
pub moved_within : (e : Float) → Within 1 (moved_of e)
moved_within e = elim (moved_law e) [ inl z ↦ rw z (within_pos 1 (lit≤ tt)) | inr o ↦ elim o [ inl p ↦ rw p (within_pos 1 (lit≤ tt)) | inr n ↦ rw n (record { high = omega arith; low = lit≤ tt }) ] ]

-- a receiver that was tracked
pub record Tracked (k : Clock) : Type 0 where
  pub reference : Within (2 ^ 40) k.reference_time
  pub current : k.current_slot < slots

pub tracked_near : (r : Receiver) → Scheduled r.clock → Tracked (track r).clock
unfolding track with_clock with_lock
tracked_near r h =
    let z = r.clock.reference_time in
    let e = moved_of r.lock.timing_error in
    record { reference = wider (2 ^ 40) (lit≤ tt) (within_sum z e h.reference (moved_within r.lock.timing_error)); current = h.current }

-- when a slot is ready: less than 2^40 samples from 0
pub ready_near : (m : Mode) (z : ℤ) (s : ℕ) → Within (2 ^ 39 + 1) z → s < slots → Within (2 ^ 40) (z +ℤ pos (s * 1020) +ℤ slot_ready_from_begin m)
ready_near m z s h t =
    wider (2 ^ 40) (lit≤ tt)
    (within_sum (z +ℤ pos (s * 1020)) (slot_ready_from_begin m) (within_sum z (pos (s * 1020)) h (within_pos {n = s * 1020} (slots * 1020) (omega (arith, t)))) (ready_within m))

-- ---- a window is read

module _ (r : Receiver) (c : ℤ) (h : Closing r.clock r.lock.misses) where
  -- where the clock stays
  stays : Scheduled r.clock
  stays = record { reference = h.timed.reference; ready = h.timed.ready; current = h.timed.current }

  searched : (b : Bool) (f : Found) → Placed f → Scheduled (search_window b f.pos r).clock
  unfolding search_window found not_found_yet set_slot with_mode with_clock with_lock with_slot
  searched true f p =
      let z = r.clock.slot_ready_time in
      let w : Within (2 ^ 39) (found_time z f.pos) =
      rw (found_reference z f p) (found_within z f.pos h.ready (omega (arith, p.place, p.most))) in
      let v = wider (2 ^ 39 + 1) (lit≤ tt) w in
      record { reference = v; ready = ready_near DlUnsynchronized _ (slot_of (negsuc 0)) v (slot_below (negsuc 0)); current = slot_below (negsuc 0) }
  searched false f p = stays

  by_mode : (m : Mode) → Scheduled (process_past_samples m r c).clock
  unfolding process_past_samples downlink_window hand_over with_mode with_lock with_waits with_slot
  by_mode Idle = stays
  by_mode DlUnsynchronized = searched (leb (find_sync (window_bits r.signal)).dist 1) (find_sync (window_bits r.signal)) (sync_placed r.signal)
  by_mode Dl = stays
  by_mode Ul = stays

  pub processed_scheduled : Scheduled (processed r c).clock
  unfolding processed
  processed_scheduled = by_mode r.mode

-- ---- a sample's counter

-- so near are the counter and the ready time that the slots between them fit 32 bits
pub tdiff_within : (c z : ℤ) → Within (2 ^ 40) z → Counter c → Within (2 ^ 41 - 2 ^ 34) (c -ℤ pos 16 -ℤ z)
tdiff_within c z h n =
    wider (2 ^ 41 - 2 ^ 34) (lit≤ tt) (within_difference (c -ℤ pos 16) z (within_difference c (pos 16) (counter_37 n) (within_pos {n = 16} 16 (lit≤ tt))) h)

pub skipped_timed : (r : Receiver) (c : ℤ) → Timed r.clock r.lock.misses → Timed (skipped r c).clock (skipped r c).lock.misses
unfolding skipped skip_if with_clock add_slots set_slot
skipped_timed r c h = go (far (tdiff r c)) (tdiff r c)
  where
    go : (b : Bool) (t : ℤ) → Timed (skip_if b t r).clock (skip_if b t r).lock.misses
    go false t = h
    go true t =
        let below = slot_below (pos r.clock.current_slot +ℤ slots_to_skip t) in
        record { reference = h.reference; ready = ready_near r.mode r.clock.reference_time _ h.reference below; current = below; few = h.few }

-- where a window closes, the ready time is the counter less 16
pub closing : (k : Clock) (misses : ℕ) (c : ℤ) → Timed k misses → Counter c → eq_z (c -ℤ pos 16) k.slot_ready_time ≡ true → Closing k misses
closing k misses c h n e =
    let z : ℤ = k.slot_ready_time in
    let p = eq_z_true (c -ℤ pos 16) z e in
    let w = within_difference c (pos 16) (counter_37 n) (within_pos {n = 16} 16 (lit≤ tt)) in
    record { timed = h; ready = same_within (c -ℤ pos 16) z p (wider (2 ^ 38) (lit≤ tt) w) }
  where
    same_within : {m : ℕ} (x y : ℤ) → up x + dn y ≡ up y + dn x → Within m x → Within m y
    same_within x (pos a) q v = record { high = omega (arith, q, v); low = omega arith }
    same_within x (negsuc a) q v = record { high = omega arith; low = omega (arith, q, v) }
