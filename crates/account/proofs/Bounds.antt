-- Nothing that calls can leave is changed by reading it as a valid receiver: a lock sets the reference time from a counter, each window
-- moves it by at most one and has a counter of its own, and every ready time is a slot's or a counter's. Of slot numbers and views: Numbers.
use mathlib.Core.Path.{◌≡◌, refl, ap, sym}
use mathlib.Core.Bool.{Bool, true, false, true≢false, cond}
use mathlib.Core.List.{List, []}
use mathlib.Core.Logic.{◌⊎◌, inl, inr}
use Prim.Native.Nat.{ℕ, zero, suc, ◌+◌, ◌-◌, ◌*◌, ◌%◌, ◌≤◌, ◌<◌, min}
use native.Mathlib.Omega.{arith}
use native.Mathlib.Numerals.{add-one}
use native.Mathlib.Nat.{mod-eq_of_lt}
use lib.IntN.{ℤ, pos, negsuc, ◌+ℤ◌, ◌-ℤ◌}
use lib.Dec.{leb}
use lib.Ieee.{Float}
use borrow.Author.Tests.{le-leb, leb-false, eqb-true}
use Rattle.dsp_types.proofs.Laws.{slot_below}
use Rattle.dsp_types.specs.declared.ComplexSample.{ComplexSample}
use Rattle.dsp_types.specs.Ints.{up, dn, eq_z}
use Rattle.dsp_types.proofs.IntLaws.{sum, less, same, lt_z_no}
use Rattle.dsp_types.specs.Refusals.{counters}
use Rattle.dsp_types.specs.Samples.{silence}
use Rattle.dsp_types.specs.Times.{slots, slot_of}
use Rattle.burst_finder.specs.Search.{find_sync}
use Rattle.listener.specs.Signal.{window_bits}
use Rattle.slot_receiver.specs.Receiver as R
use Rattle.slot_receiver.specs.declared.Mode.{Mode}
use Rattle.slot_receiver.specs.declared.Mode.TheVariants.{Idle, DlUnsynchronized, Dl, Ul}
use Rattle.slot_receiver.specs.Receiver.{Clock, Lock, Receiver, with_mode, with_clock, with_lock, with_waits, with_slot, with_next, with_signal, new, set_slot, add_slots, process_sample, close_window, missing, feed_zeros, accept, valid_time, valid_clock, valid_lock, valid_count, valid, far_reference, far_ready}
use Rattle.rx_slot.specs.Views.{BurstView}
use Rattle.rx_slot.specs.Slots.{no_slot, valid_closing, valid_slot}
use Rattle.slot_receiver.specs.Calls.{Outcome, unless, sample_refusal, sampled, sample_outcome, take_refusal, taken, take_outcome, follow_refusal, slot_when, following, followed, follow_outcome}
use Rattle.account.specs.Reachable.{Reachable, anew, told}
use Rattle.account.proofs.Laws.{SyncPlace, sync_place}
use Rattle.account.proofs.Times.{ready_parts, found_parts}
use Rattle.slot_receiver.specs.Windows.{accept_windows}
use Rattle.slot_receiver.specs.Closing.{ClosedAt}
use Rattle.slot_receiver.proofs.Taken.{Views, none_valid, valid_slot_lem}
use Rattle.slot_receiver.proofs.Accepted.{Accepted, accepted_at_lem, missing_most}
use Rattle.slot_receiver.proofs.Closing.{closed_by, closed_below, counter_valid, last_valid}
use Rattle.timing.specs.Tracking.{moved_of}
use Rattle.account.proofs.Simulation.{shifted_parts, gap_span, advanced}
use Rattle.account.proofs.Simulation.{valid_heard}
use Rattle.account.proofs.Numbers.{process_step, accept_step}

-- ---- what a receiver that expects the counter n is bounded by

-- how late a reference time may be: no later than the counter, or for a receiver that took another's, than any counter
unfoldable pub reach : Mode → ℕ → ℕ
reach Idle n = counters
reach DlUnsynchronized n = n
reach Dl n = n
reach Ul n = counters

-- a locked receiver has had fewer than a hundred misses
unfoldable pub spare : Mode → ℕ
spare Idle = 0
spare DlUnsynchronized = 0
spare Dl = 1
spare Ul = 0

-- the slot timing: late and early are the reference time's distances from 0
pub record Timely (m : Mode) (c : Clock) (n : ℕ) : Type 0 where
  pub late : up c.reference_time ≤ reach m n
  pub early : dn c.reference_time ≤ reach m n + 2050
  pub ready_late : up c.slot_ready_time ≤ far_reference
  pub ready_early : dn c.slot_ready_time ≤ far_reference

-- .. and the misses
pub record Bounded (r : Receiver) (n : ℕ) : Type 0 where
  pub timely : Timely r.mode r.clock n
  pub misses : r.lock.misses + spare r.mode ≤ 100

-- ---- integers
one_part : (z : ℤ) → (up z ≡ 0) ⊎ (dn z ≡ 0)
one_part (pos n) = inr refl
one_part (negsuc n) = inl refl

reach_most : (m : Mode) (n : ℕ) → n ≤ counters → reach m n ≤ counters
unfolding reach
reach_most Idle n h = omega arith
reach_most DlUnsynchronized n h = h
reach_most Dl n h = h
reach_most Ul n h = omega arith

reach_more : (m : Mode) (n k : ℕ) → n ≤ k → reach m n ≤ reach m k
unfolding reach
reach_more Idle n k h = omega arith
reach_more DlUnsynchronized n k h = h
reach_more Dl n k h = h
reach_more Ul n k h = omega arith

begin_parts : (m : Mode) (z : ℤ) (s : ℕ) → s < slots → up z ≤ counters → dn z ≤ counters + 2050
    → (up (z +ℤ pos (s * 1020) +ℤ R.slot_ready_from_begin m) ≤ far_reference) × (dn (z +ℤ pos (s * 1020) +ℤ R.slot_ready_from_begin m) ≤ far_reference)
unfolding R.slot_ready_from_begin
begin_parts m z s h a b = go m
  where
    by : (k : ℕ) → k ≤ 1020 → (up (z +ℤ pos (s * 1020) +ℤ pos k) ≤ far_reference) × (dn (z +ℤ pos (s * 1020) +ℤ pos k) ≤ far_reference)
    by k l =
        let y : ℤ = z +ℤ pos (s * 1020) +ℤ pos k in
        elim (one_part y) [
          | inl e ↦ omega (arith, ready_parts z (s * 1020) k, e, h, a, b, l)
          | inr e ↦ omega (arith, ready_parts z (s * 1020) k, e, h, a, b, l)
        ]

    go : (m : Mode) → (up (z +ℤ pos (s * 1020) +ℤ R.slot_ready_from_begin m) ≤ far_reference) × (dn (z +ℤ pos (s * 1020) +ℤ R.slot_ready_from_begin m) ≤ far_reference)
    go Idle = by 1018 (omega arith)
    go DlUnsynchronized = by 1018 (omega arith)
    go Dl = by 1018 (omega arith)
    go Ul = by 1020 (omega arith)

-- ---- slot timing
timely_set : (m j : Mode) (z : ℤ) (s n : ℕ) → s < slots → n ≤ counters → up z ≤ reach m n → dn z ≤ reach m n + 2050 → Timely m (set_slot j z s) n
unfolding set_slot
timely_set m j z s n h l a b =
    let k = reach_most m n l in
    let p = begin_parts j z s h (omega (arith, a, k)) (omega (arith, b, k)) in
    record { late = a; early = b; ready_late = p.0; ready_early = p.1 }

timely_add : (m : Mode) (c : Clock) (j : ℤ) (n : ℕ) → n ≤ counters → Timely m c n → Timely m (add_slots m c j) n
unfolding add_slots
timely_add m c j n l t = timely_set m m c.reference_time (slot_of (pos c.current_slot +ℤ j)) n (slot_below (pos c.current_slot +ℤ j)) l t.late t.early

timely_more : (m : Mode) (c : Clock) (n k : ℕ) → n ≤ k → Timely m c n → Timely m c k
timely_more m c n k h t =
    let r = reach_more m n k h in
    record { late = omega (arith, t.late, r); early = omega (arith, t.early, r); ready_late = t.ready_late; ready_early = t.ready_early }

-- a window closed at the counter k: the ready time is the counter less 16
closed_at : (k : ℕ) (z : ℤ) → eq_z (pos k -ℤ pos 16) z ≡ true → up z + 16 ≡ k + dn z
closed_at k z e = go (pos k -ℤ pos 16) z e (less (pos k) (pos 16))
  where
    go : (x z : ℤ) → eq_z x z ≡ true → up x + 0 + 16 ≡ dn x + k + 0 → up z + 16 ≡ k + dn z
    go (pos a) (pos b) e h = omega (arith, eqb-true a b e)
    go (pos a) (negsuc b) e h = absurd (true≢false (sym e))
    go (negsuc a) (pos b) e h = absurd (true≢false (sym e))
    go (negsuc a) (negsuc b) e h = omega (arith, eqb-true a b e)

-- ---- a window

-- after its bits are read: in search the ready time is still the counter less 16
record Judged (r : Receiver) (k : ℕ) : Type 0 where
  bounded : Bounded r k
  at : r.mode ≡ DlUnsynchronized → up r.clock.slot_ready_time + 16 ≡ k + dn r.clock.slot_ready_time

reach_dl : (m : Mode) (k : ℕ) → m ≡ Dl → reach m k ≡ k
unfolding reach
reach_dl m k e = rw e

spare_dl : (m : Mode) → m ≡ Dl → spare m ≡ 1
unfolding spare
spare_dl m e = rw e

bounded_more : (r : Receiver) (n k : ℕ) → n ≤ k → Bounded r n → Bounded r k
bounded_more r n k h b = record { timely = timely_more r.mode r.clock n k h b.timely; misses = b.misses }

-- ---- the next window
on_bounded : (r : Receiver) (k : ℕ) → k < counters → Bounded r k → up r.clock.slot_ready_time + 16 ≡ k + dn r.clock.slot_ready_time
    → Bounded (with_clock r (R.search_on r.clock)) (suc k)
unfolding with_clock R.search_on
on_bounded r k few b at =
    let t : Timely r.mode r.clock (suc k) = timely_more r.mode r.clock k (suc k) (omega arith) b.timely in
    let z : ℤ = r.clock.slot_ready_time +ℤ pos 400 in
    let y = sum r.clock.slot_ready_time (pos 400) in
    let s : (up z ≤ far_reference) × (dn z ≤ far_reference) = elim (one_part z) [ inl e ↦ omega (arith, y, e, at, few) | inr e ↦ omega (arith, y, e, at, few) ] in
    record {
      timely = record { late = t.late; early = t.early; ready_late = s.0; ready_early = s.1 };
      misses = b.misses;
    }

advanced_bounded : (r : Receiver) (k : ℕ) → r.mode ≡ Dl → k < counters → Bounded r k → Bounded (advanced r) (suc k)
unfolding R.next_slot R.track add_slots with_clock with_lock
advanced_bounded r k m few b =
    let e : Float = r.lock.timing_error in
    let z : ℤ = r.clock.reference_time +ℤ moved_of e in
    let y = shifted_parts e r.clock.reference_time in
    let g = gap_span e in
    let p = reach_dl r.mode k m in
    let q = reach_dl r.mode (suc k) m in
    let s : (up z ≤ suc k) × (dn z ≤ suc k + 2050) = elim (one_part z) [ inl o ↦ omega (arith, y, g, o, b.timely, p) | inr o ↦ omega (arith, y, g, o, b.timely, p) ] in
    record {
      timely = timely_set r.mode r.mode z (slot_of (pos r.clock.current_slot +ℤ pos 1)) (suc k) (slot_below (pos r.clock.current_slot +ℤ pos 1)) (omega arith) (omega (arith, s, q)) (omega (arith, s, q));
      misses = b.misses;
    }

next_bounded : (r : Receiver) (n : ℕ) → n ≤ counters → Bounded r n → Bounded (R.next_slot r) n
unfolding R.next_slot with_clock
next_bounded r n few b = record { timely = timely_add r.mode r.clock (pos 1) n few b.timely; misses = b.misses }

-- ---- a window's bits
-- a find sets the reference time from the counter
found_bounded : (r : Receiver) (k place : ℕ) → k < counters → SyncPlace place → Bounded r k → up r.clock.slot_ready_time + 16 ≡ k + dn r.clock.slot_ready_time → Bounded (R.found r place) k
unfolding R.found with_mode with_clock with_lock with_slot set_slot reach spare
found_bounded r k place few p b at =
    let z : ℤ = (R.found r place).clock.reference_time in
    let y = found_parts r.clock.slot_ready_time place p.half p.even p.most in
    let s : (up z ≤ k) × (dn z ≤ k + 2050) = elim (one_part z) [ inl e ↦ omega (arith, y, e, p, at) | inr e ↦ omega (arith, y, e, p, at) ] in
    record { timely = timely_set Dl DlUnsynchronized z (slot_of (negsuc 0)) k (slot_below (negsuc 0)) (omega arith) s.0 s.1; misses = omega arith }

lock_misses : (l : Lock) (timing : Float) (type : ℕ) → l.misses < 100 → (R.lock_after l timing type).misses ≤ 100
unfolding R.lock_after
lock_misses l timing zero h = omega arith
lock_misses l timing (suc type) h = omega arith

-- a locked window: one miss more at most, and with the hundredth it is in search
slot_bounded : (v : BurstView) (l : Lock) (r : Receiver) (c : ℤ) (k : ℕ) → r.mode ≡ Dl → Bounded r k → l.misses ≤ 100
    → up r.clock.slot_ready_time + 16 ≡ k + dn r.clock.slot_ready_time → Judged (R.downlink_window v l r c) k
unfolding R.downlink_window R.hand_over with_mode with_lock with_waits with_slot R.mode_after reach spare
slot_bounded v l r c k m b few at = record { bounded = record { timely = timely (leb 100 l.misses); misses = go (leb 100 l.misses) refl }; at = λ h. at }
  where
    downlink : (m : Mode) → reach m k ≡ k → Timely m r.clock k
    downlink j e =
        let t : Timely r.mode r.clock k = b.timely in
        let f = reach_dl r.mode k m in
        record { late = omega (arith, t.late, e, f); early = omega (arith, t.early, e, f); ready_late = t.ready_late; ready_early = t.ready_early }

    timely : (c : Bool) → Timely (cond c DlUnsynchronized Dl) r.clock k
    timely true = downlink DlUnsynchronized refl
    timely false = downlink Dl refl

    go : (c : Bool) → leb 100 l.misses ≡ c → l.misses + spare (cond c DlUnsynchronized Dl) ≤ 100
    go true e = omega (arith, few)
    go false e = omega (arith, leb-false 100 l.misses e)

unlike : Dl ≡ DlUnsynchronized → ⊥
unlike e = let z : ◌≡◌ {A = ℕ} 0 1 = cc in omega arith

-- a search window
search_bounded : (r : Receiver) (k : ℕ) (d : Bool) → leb (find_sync (window_bits r.signal)).dist 1 ≡ d → k < counters → Bounded r k
    → up r.clock.slot_ready_time + 16 ≡ k + dn r.clock.slot_ready_time → Judged (R.search_window d (find_sync (window_bits r.signal)).pos r) k
unfolding R.search_window R.not_found_yet with_slot R.found with_mode
search_bounded r k true e few b at =
    record {
      bounded = found_bounded r k (find_sync (window_bits r.signal)).pos few (sync_place r.signal) b at;
      at = λ h. absurd (unlike h);
    }
search_bounded r k false e few b at = record { bounded = record { timely = b.timely; misses = b.misses }; at = λ h. at }

judged : (m : Mode) (r : Receiver) (c : ℤ) (k : ℕ) → r.mode ≡ m → k < counters → Bounded r k → up r.clock.slot_ready_time + 16 ≡ k + dn r.clock.slot_ready_time
    → Judged (R.process_past_samples m r c) k
unfolding R.process_past_samples R.hand_over with_waits with_slot
judged Idle r c k m few b at = record { bounded = b; at = λ h. at }
judged DlUnsynchronized r c k m few b at = search_bounded r k (leb (find_sync (window_bits r.signal)).dist 1) refl few b at
judged Dl r c k m few b at = slot_bounded _ _ r c k m b (lock_misses r.lock _ _ (omega (arith, b.misses, spare_dl r.mode m))) at
judged Ul r c k m few b at = record { bounded = record { timely = b.timely; misses = b.misses }; at = λ h. at }

-- the next window
scheduled : (m : Mode) (r : Receiver) (k : ℕ) → r.mode ≡ m → k < counters → Judged r k → Bounded (R.schedule m r) (suc k)
unfolding R.schedule
scheduled Idle r k m few j = bounded_more r k (suc k) (omega arith) j.bounded
scheduled DlUnsynchronized r k m few j = on_bounded r k few j.bounded (j.at m)
scheduled Dl r k m few j = advanced_bounded r k m few j.bounded
scheduled Ul r k m few j = next_bounded r (suc k) (omega arith) (bounded_more r k (suc k) (omega arith) j.bounded)

window_bounded : (r : Receiver) (c : ℤ) (k : ℕ) → k < counters → Bounded r k → up r.clock.slot_ready_time + 16 ≡ k + dn r.clock.slot_ready_time → Bounded (close_window r c) (suc k)
unfolding close_window R.processed
window_bounded r c k few b at =
    let s : Receiver = R.process_past_samples r.mode r c in
    scheduled s.mode s k refl few (judged r.mode r c k refl few b at)

-- ---- a sample
close_bounded : (d : Bool) (r : Receiver) (k : ℕ) → eq_z (pos k -ℤ pos 16) r.clock.slot_ready_time ≡ d → k < counters → Bounded r k → Bounded (R.close_if d r (pos k)) (suc k)
unfolding R.close_if
close_bounded true r k e few b = window_bounded r (pos k) k few b (closed_at k r.clock.slot_ready_time e)
close_bounded false r k e few b = bounded_more r k (suc k) (omega arith) b

skip_bounded : (d : Bool) (t : ℤ) (r : Receiver) (x : ComplexSample) (k : ℕ) → k < counters → Bounded r k → Bounded (R.skip_if d t (R.listen r x)) k
unfolding R.skip_if R.listen with_clock with_signal
skip_bounded true t r x k few b = record { timely = timely_add r.mode r.clock (R.slots_to_skip t) k (omega arith) b.timely; misses = b.misses }
skip_bounded false t r x k few b = record { timely = b.timely; misses = b.misses }

-- a receiver within its bounds is read as it is
valid_time_lem : (most : ℕ) (z : ℤ) → up z ≤ most → dn z ≤ most → valid_time most z ≡ z
unfolding valid_time
valid_time_lem most (pos n) h k = rw (le-leb n most h)
valid_time_lem most (negsuc n) h k = rw (le-leb n most (omega arith))

module _ (r : Receiver) (n : ℕ) (b : Bounded r n) (most : n ≤ counters) (current : r.clock.current_slot < slots) where
  clock_same : valid_clock r.clock ≡ r.clock
  unfolding valid_clock
  clock_same =
      let t : Timely r.mode r.clock n = b.timely in
      let m = reach_most r.mode n most in
      let z = valid_time_lem far_reference r.clock.reference_time (omega (arith, t, m)) (omega (arith, t, m)) in
      let y = valid_time_lem far_ready r.clock.slot_ready_time (omega (arith, t)) (omega (arith, t)) in
      let s : r.clock.current_slot % slots ≡ r.clock.current_slot = mod-eq_of_lt current in
      λ i. record { reference_time = z i; slot_ready_time = y i; current_slot = s i }

  lock_same : valid_lock r.lock ≡ r.lock
  unfolding valid_lock
  lock_same =
      let k : min 100 r.lock.misses ≡ r.lock.misses = omega (arith, b.misses) in
      λ i. record { timing_error = r.lock.timing_error; misses = k i }

  bounded_same : valid r ≡ r
  unfolding valid with_clock with_lock
  bounded_same = rw (clock_same, lock_same)

pub process_bounded : (r : Receiver) (x : ComplexSample) (n k : ℕ) → n ≤ k → k < counters → Bounded r n → r.clock.current_slot < slots
    → Bounded (process_sample r x (pos k)) (suc k)
unfolding process_sample R.arrive R.ready R.skipped R.closes
process_bounded r x n k h few b current =
    let v = valid_heard r x (bounded_same r n b (omega arith) current) in
    let t = R.tdiff (R.listen r x) (pos k) in
    rw v (close_bounded _ (R.skip_if (R.far t) t (R.listen r x)) k refl few (skip_bounded _ t r x k few (bounded_more r n k h b)))

record InRange (r : Receiver) (k : ℕ) : Type 0 where
  bounded : Bounded r k
  current : r.clock.current_slot < slots

zeros_bounded : (j : ℕ) (r : Receiver) (n k : ℕ) → n + j ≤ k → k < counters → Bounded r n → r.clock.current_slot < slots → InRange (feed_zeros j r (pos k)) k
unfolding feed_zeros
zeros_bounded zero r n k h few b current = record { bounded = bounded_more r n k (omega arith) b; current = current }
zeros_bounded (suc j) r n k h few b current =
    rw before
    (zeros_bounded j (process_sample r silence (pos (k - suc j))) (suc (k - suc j)) k (omega arith) few
    (process_bounded r silence n (k - suc j) (omega arith) (omega arith) b current) (process_step r silence (pos (k - suc j))).current)
  where
    before : pos k -ℤ pos (suc j) ≡ pos (k - suc j)
    before = same (pos k -ℤ pos (suc j)) (pos (k - suc j)) (omega (arith, less (pos k) (pos (suc j))))

-- ---- the whole state, with the counter that it expects
pub record InBounds (r : Receiver) : Type 0 where
  pub count : ℕ
  pub next : r.next ≡ pos count
  pub most : count ≤ counters
  pub bounded : Bounded r count
  pub current : r.clock.current_slot < slots
  pub time : r.slot.time < slots
  pub closing : valid_closing r.slot.closing_counter ≡ r.slot.closing_counter
  pub views : Views r.slot

module _ (r : Receiver) (w : InBounds r) where
  pub valid_count_lem : valid_count r.next ≡ r.next
  unfolding valid_count
  valid_count_lem = rw (w.next, lt_z_no (pos w.count) (pos 0) (omega arith), lt_z_no (pos counters) (pos w.count) (omega (arith, w.most)))

  pub valid_same : valid r ≡ r
  valid_same = bounded_same r w.count w.bounded w.most w.current

  pub slot_same : valid_slot r.slot ≡ r.slot
  slot_same = valid_slot_lem r.slot w.time w.closing w.views

-- ---- the calls

accept_within : (r : Receiver) (x : ComplexSample) (k : ℕ) → k < counters → (w : InBounds r) → w.count ≤ k → InBounds (accept r x (pos k))
unfolding accept with_next R.zeros_before
accept_within r x k few w h =
    let n : ℕ = w.count in
    let j : ℕ = R.zeros_before r (pos k) in
    let l : n + j ≤ k = rw (valid_count_lem r w, w.next) (missing_most n k h) in
    let z = zeros_bounded j r n k l few w.bounded w.current in
    let b : Bounded (process_sample (feed_zeros j r (pos k)) x (pos k)) (suc k) = process_bounded (feed_zeros j r (pos k)) x k k (omega arith) few z.bounded z.current in
    let s = accept_step r x (pos k) in
    let a : ClosedAt r x (pos k) = closed_by r x k (rw (valid_count_lem r w, w.next) h) in
    record {
      count = suc k;
      next = ap pos (add-one k);
      most = few;
      bounded = record { timely = b.timely; misses = b.misses };
      current = s.current;
      time = s.time w.time;
      closing = rw a.last (last_valid (accept_windows r x (pos k)) r.slot.closing_counter (λ v m. omega (arith, closed_below r x k a v m, few)) w.closing);
      views = s.views w.views;
    }

-- a refused call leaves the receiver, and one that is not refused comes to o
unless_within : (n : ℕ) (r : Receiver) (lent : List (List ℕ)) (o : Outcome) → InBounds r → (n ≡ 0 → InBounds o.receiver) → InBounds (unless n r lent o).receiver
unfolding unless
unless_within zero r lent o w h = h refl
unless_within (suc n) r lent o w h = w

pub sample_within : (r : Receiver) (x : ComplexSample) (c : ℤ) → InBounds r → InBounds (sample_outcome r x c).receiver
unfolding sample_outcome sampled
sample_within r x c w =
    rw (valid_count_lem r w)
    (unless_within (sample_refusal r.next x c) r [] (sampled r x c) w
    (λ e. let a : Accepted w.count c = accepted_at_lem r.next x c w.count e w.next in rw a.is (accept_within r x a.counter a.below w a.least)))

pub taken_within : (r : Receiver) → InBounds r → InBounds (with_waits r false)
unfolding with_waits
taken_within r w =
    record {
      count = w.count;
      next = w.next;
      most = w.most;
      bounded = record { timely = w.bounded.timely; misses = w.bounded.misses };
      current = w.current;
      time = w.time;
      closing = w.closing;
      views = w.views;
    }

take_within : (r : Receiver) (slot subslot1 subslot2 : List ℕ) → InBounds r → InBounds (take_outcome r slot subslot1 subslot2).receiver
unfolding take_outcome taken
take_within r s a b w = unless_within (take_refusal s a b r.waits) r _ (taken r (valid_slot r.slot)) w (λ e. taken_within r w)

-- what Idle and Ul share
record Follower (m : Mode) (n : ℕ) : Type 0 where
  reach_is : reach m n ≡ counters
  spare_is : spare m ≡ 0

follower : (m : Mode) (n : ℕ) → follow_refusal m ≡ 0 → Follower m n
unfolding follow_refusal reach spare
follower Idle n e = record { reach_is = refl; spare_is = refl }
follower DlUnsynchronized n e = absurd (omega (arith, e))
follower Dl n e = absurd (omega (arith, e))
follower Ul n e = record { reach_is = refl; spare_is = refl }

slot_when_lem : (m : Mode) (a b : ℕ) → a < slots → b < slots → slot_when m a b < slots
unfolding slot_when
slot_when_lem Idle a b h k = h
slot_when_lem DlUnsynchronized a b h k = k
slot_when_lem Dl a b h k = k
slot_when_lem Ul a b h k = k

-- an order to follow: a receiver in Idle or Ul takes a reference time that another in Dl has
module _ (r other : Receiver) (w : InBounds r) (o : InBounds other) (f : Follower r.mode w.count) where
  abbrev t : Timely r.mode r.clock w.count
  t = w.bounded.timely

  idle_within : InBounds (with_mode r Idle)
  unfolding with_mode reach spare
  idle_within =
      record {
        count = w.count;
        next = w.next;
        most = w.most;
        bounded = record {
          timely = record { late = omega (arith, t.late, f.reach_is); early = omega (arith, t.early, f.reach_is); ready_late = t.ready_late; ready_early = t.ready_early };
          misses = omega (arith, w.bounded.misses);
        };
        current = w.current;
        time = w.time;
        closing = w.closing;
        views = w.views;
      }

  uplink_within : other.mode ≡ Dl → InBounds (following Dl r other)
  unfolding following with_mode with_clock reach spare
  uplink_within e =
      let u : Timely other.mode other.clock o.count = o.bounded.timely in
      let m = reach_dl other.mode o.count e in
      record {
        count = w.count;
        next = w.next;
        most = w.most;
        bounded = record {
          timely = record { late = omega (arith, u.late, m, o.most); early = omega (arith, u.early, m, o.most); ready_late = t.ready_late; ready_early = t.ready_early };
          misses = omega (arith, w.bounded.misses);
        };
        current = slot_when_lem r.mode other.slot.time r.clock.current_slot o.time w.current;
        time = w.time;
        closing = w.closing;
        views = w.views;
      }

  following_within : (m : Mode) → other.mode ≡ m → InBounds (following m r other)
  unfolding following
  following_within Idle e = w
  following_within DlUnsynchronized e = idle_within
  following_within Dl e = uplink_within e
  following_within Ul e = w

follow_within : (r other : Receiver) → InBounds r → InBounds other → InBounds (follow_outcome r other).receiver
unfolding follow_outcome followed
follow_within r other w o =
    unless_within (follow_refusal r.mode) r [] (followed r other) w (λ e. following_within r other w o (follower r.mode w.count e) other.mode refl)

-- ---- a new receiver
spare_most : (m : Mode) → 0 + spare m ≤ 100
unfolding spare
spare_most Idle = omega arith
spare_most DlUnsynchronized = omega arith
spare_most Dl = omega arith
spare_most Ul = omega arith

pub new_within : (m : Mode) → InBounds (new m)
unfolding new no_slot set_slot
new_within m =
    record {
      count = 0;
      next = refl;
      most = omega arith;
      bounded = record { timely = timely_set m m (pos 0) 0 0 (omega arith) (omega arith) (omega arith) (omega arith); misses = spare_most m };
      current = omega arith;
      time = omega arith;
      closing = counter_valid 0 (omega arith);
      views = record { full = none_valid; subslot1 = none_valid; subslot2 = none_valid };
    }

-- ---- THE LAW: every receiver that calls can leave is valid, as a sample reads it and as a take reads its slot
reachable_within : {r : Receiver} → Reachable r → InBounds r
reachable_within (anew m) = new_within m
reachable_within (Reachable.sampled {r} h x c) = sample_within r x c (reachable_within h)
reachable_within (Reachable.taken {r} h s a b) = take_within r s a b (reachable_within h)
reachable_within (told {r} {other} h o) = follow_within r other (reachable_within h) (reachable_within o)

pub reachable_valid : {r : Receiver} → Reachable r → (valid r ≡ r) × (valid_count r.next ≡ r.next) × (valid_slot r.slot ≡ r.slot)
reachable_valid {r} h = let w : InBounds r = reachable_within h in (valid_same r w, valid_count_lem r w, slot_same r w)
