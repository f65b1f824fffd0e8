-- One accepted sample: the receiver does what the account does. The invariant has three states: searching, just locked (the slot's
-- ready time lies in the past until the next sample skips a slot), and locked.
use mathlib.Core.Path.{◌≡◌, refl, ap, sym, ◌∙◌}
use mathlib.Core.Bool.{Bool, true, false}
use mathlib.Core.List.{List, [], ◌∷◌, ◌++◌}
use Prim.Native.Nat.{ℕ, zero, suc, ◌+◌, ◌*◌, ◌%◌, ◌≤◌, ◌<◌}
use native.Mathlib.Omega.{arith}
use native.Mathlib.Nat.{mod-eq_of_lt}
use lib.IntN.{ℤ, pos, negsuc, ◌+ℤ◌, ◌-ℤ◌, +ℤ_idr}
use mathlib.Core.Logic.{inl, inr}
use lib.Dec.{ltb, leb, eqb}
use lib.Ieee.{Float}
use borrow.Author.Tests.{eqb-true, eqb-false, ne_eqb, lt-ltb, le-ltb, leb-true, leb-false}
use Rattle.dsp_types.specs.Refusals.{counters}
use Rattle.dsp_types.specs.declared.ComplexSample.{ComplexSample}
use Rattle.dsp_types.specs.Ints.{up, dn, eq_z}
use Rattle.dsp_types.proofs.IntLaws.{sum, above_zero}
use Rattle.dsp_types.specs.Times.{slots, slot_of}
use Rattle.timing.specs.Tracking.{late, early, lowered_of, settled_of, moved_of}
use Rattle.timing.proofs.Tracking.{moved_law}
use Rattle.burst_finder.specs.declared.SlotType.TheVariants as SlotType
use Rattle.burst_finder.specs.Search.{find_sync}
use Rattle.listener.specs.Signal.{Signal, hear, slot_timing, window_bits}
use Rattle.slot_receiver.specs.Receiver as R
use Rattle.slot_receiver.specs.declared.Mode.{Mode}
use Rattle.slot_receiver.specs.declared.Mode.TheVariants.{DlUnsynchronized, Dl}
use Rattle.slot_receiver.specs.Receiver.{Clock, Lock, Receiver, with_mode, with_clock, with_lock, with_waits, with_slot, with_signal, far, slots_to_skip, listen, close_window, valid, process_sample, set_slot, add_slots}
use Rattle.rx_slot.specs.Slots.{HandedSlot, with_views}
use Rattle.rx_slot.specs.Views.{no_view, checked}
use Rattle.slot_receiver.specs.Windows.{Kind, searched, lock, slot, Window, kind_of, search_kind, window_at, window_of, window_if}
use Rattle.account.specs.Rules.{Account, type_of, slot_with, slot_in, next_misses, next_number}
use Rattle.account.specs.Tracked.{Tracked, slot_gap, error_after, search_turn, slot_turn, window_turn, turn_if, turn}
use Rattle.account.specs.Account.{Waiting, nothing, waits, changed}
use Rattle.account.proofs.Laws.{not_late, not_early, SyncPlace, sync_place}
use Rattle.account.proofs.Times.{near, past, skips_one, closes_yes, closes_no, ready_parts, next_slot_lem, first_slot, found_parts}

-- what waits after some windows more, the last first
unfoldable pub over : List Window → Waiting → Waiting
over [] v = v
over (w ∷ ws) v = changed w.kind (over ws v)

-- ---- the invariant: mode, slot timing and lock before the sample with the counter n

pub record Search (m : Mode) (c : Clock) (n : ℕ) (t : Tracked) : Type 0 where
  pub mode : m ≡ DlUnsynchronized
  pub unlocked : t.account.locked ≡ false
  pub above_zero : dn c.slot_ready_time ≡ 0
  pub due : up c.slot_ready_time + 16 ≡ t.account.due
  pub least : n ≤ t.account.due
  pub most : t.account.due ≤ n + 1034
  pub begun : 1019 ≤ t.account.due

pub record Locked (m : Mode) (l : Lock) (t : Tracked) : Type 0 where
  pub mode : m ≡ Dl
  pub locked : t.account.locked ≡ true
  pub lock : l ≡ record { timing_error = t.error; misses = t.account.misses }

pub record Fresh (c : Clock) (n : ℕ) (t : Tracked) : Type 0 where
  pub current : c.current_slot ≡ 0
  pub number : t.account.number ≡ 1
  pub ready : up c.slot_ready_time + 1036 ≡ t.account.due + dn c.slot_ready_time
  pub reference : up c.reference_time + 2054 ≡ t.account.due + dn c.reference_time
  pub least : n + 3 ≤ t.account.due
  pub most : t.account.due ≤ n + 515
  pub begun : 1019 ≤ t.account.due

pub record Steady (c : Clock) (n : ℕ) (t : Tracked) : Type 0 where
  pub current : c.current_slot ≡ t.account.number
  pub above_zero : dn c.slot_ready_time ≡ 0
  pub due : up c.slot_ready_time + 16 ≡ t.account.due
  pub reference : up c.reference_time + t.account.number * 1020 + 1034 ≡ t.account.due + dn c.reference_time
  pub least : n ≤ t.account.due
  pub most : t.account.due ≤ n + 1020
  pub slow : t.account.number * 1019 ≤ t.account.due
  pub begun : 1019 ≤ t.account.due

pub data InStep (m : Mode) (c : Clock) (l : Lock) (n : ℕ) (t : Tracked) : Type 0 where
  searching : Search m c n t → InStep m c l n t
  fresh : Locked m l t → Fresh c n t → InStep m c l n t
  steady : Locked m l t → Steady c n t → InStep m c l n t

-- ---- the handed slot is what waits

abbrev pub Stands : Bool → HandedSlot → Waiting → Type 0
Stands b h nothing = b ≡ false
Stands b h (waits w) = (b ≡ true) × (h ≡ w)

-- in the downlink nothing is found in a slot's halves
pub record Whole (h : HandedSlot) : Type 0 where
  pub subslot1 : h.subslot1 ≡ no_view
  pub subslot2 : h.subslot2 ≡ no_view

pub record Waits (b : Bool) (h : HandedSlot) (v : Waiting) : Type 0 where
  pub stands : Stands b h v
  pub whole : Whole h

module _ (h : HandedSlot) (w : Whole h) where
  emptied_is : (n : ℕ) → R.emptied h n ≡ with_views h n no_view no_view no_view
  unfolding R.emptied
  emptied_is n = λ i. with_views h n no_view (w.subslot1 i) (w.subslot2 i)

-- a locked receiver has the account's number and misses
handed_is : (r : Receiver) (a : Account) (n : ℕ) (bits : List ℕ) → r.clock.current_slot ≡ a.number → Whole r.slot
    → R.downlink_slot r (pos n) (checked SlotType.Dl bits) ≡ slot_in a n bits
unfolding R.downlink_slot slot_in slot_with
handed_is r a n bits e w =
    λ i. record { time = e i; closing_counter = pos n; full = checked SlotType.Dl bits; subslot1 = w.subslot1 i; subslot2 = w.subslot2 i }

handed_waits : (r : Receiver) (a : Account) (n : ℕ) (bits : List ℕ) (v : Waiting) → r.clock.current_slot ≡ a.number → Waits r.waits r.slot v
    → Waits true (R.downlink_slot r (pos n) (checked SlotType.Dl bits)) (changed (slot (slot_in a n bits)) v)
unfolding R.downlink_slot changed
handed_waits r a n bits v e w =
    record { stands = (refl, handed_is r a n bits e w.whole); whole = record { subslot1 = w.whole.subslot1; subslot2 = w.whole.subslot2 } }

module _ (b : Bool) (h : HandedSlot) where
  emptied_searched : (v : Waiting) → Waits b h v → Waits b (R.emptied h h.time) (changed searched v)
  unfolding with_views R.emptied changed
  emptied_searched nothing w = record { stands = w.stands; whole = record { subslot1 = w.whole.subslot1; subslot2 = w.whole.subslot2 } }
  emptied_searched (waits v) w =
      record {
        stands = (w.stands.0, emptied_is h w.whole h.time ∙ ap (λ (g : HandedSlot). with_views g g.time no_view no_view no_view) w.stands.1);
        whole = record { subslot1 = w.whole.subslot1; subslot2 = w.whole.subslot2 };
      }

  emptied_lock : (v : Waiting) → Waits b h v → Waits b (R.emptied h 0) (changed lock v)
  unfolding with_views R.emptied changed
  emptied_lock nothing w = record { stands = w.stands; whole = record { subslot1 = w.whole.subslot1; subslot2 = w.whole.subslot2 } }
  emptied_lock (waits v) w =
      record {
        stands = (w.stands.0, emptied_is h w.whole 0 ∙ ap (λ (g : HandedSlot). with_views g 0 no_view no_view no_view) w.stands.1);
        whole = record { subslot1 = w.whole.subslot1; subslot2 = w.whole.subslot2 };
      }

-- a sample with the counter n takes r to r', closing the windows w
pub record Stepped (r r' : Receiver) (w : List Window) (n : ℕ) (s : Signal) (t t' : Tracked) : Type 0 where
  pub timed : InStep r'.mode r'.clock r'.lock (suc n) t'
  pub signal : r'.signal ≡ s
  pub windows : w ++ t.account.windows ≡ t'.account.windows
  pub waiting : (v : Waiting) → Waits r.waits r.slot v → Waits r'.waits r'.slot (over w v)

-- ---- `process_sample` in its three ways, of a receiver that is read as it is

pub valid_heard : (r : Receiver) (x : ComplexSample) → valid r ≡ r → valid (listen r x) ≡ listen r x
unfolding valid listen with_signal with_clock with_lock
valid_heard r x v = ap (λ (q : Receiver). with_signal q (hear r.signal x)) v

module _ (r : Receiver) (x : ComplexSample) (n : ℕ) (v : valid r ≡ r) where
  -- up to the close of a window
  unskipped : far (pos n -ℤ pos 16 -ℤ r.clock.slot_ready_time) ≡ false → R.ready (listen r x) (pos n) ≡ listen r x
  unfolding R.ready R.skipped R.tdiff R.skip_if listen with_signal
  unskipped e = rw (valid_heard r x v, e)

  passes : far (pos n -ℤ pos 16 -ℤ r.clock.slot_ready_time) ≡ false → eq_z (pos n -ℤ pos 16) r.clock.slot_ready_time ≡ false
      → (process_sample r x (pos n) ≡ listen r x) × (window_of r x (pos n) ≡ [])
  unfolding process_sample R.arrive R.closes R.close_if window_of window_at window_if listen with_signal
  passes e f = (rw (unskipped e, f), rw (unskipped e, f))

  shuts : far (pos n -ℤ pos 16 -ℤ r.clock.slot_ready_time) ≡ false → eq_z (pos n -ℤ pos 16) r.clock.slot_ready_time ≡ true
      → (process_sample r x (pos n) ≡ close_window (listen r x) (pos n))
      × (window_of r x (pos n) ≡ record { counter = n; kind = kind_of r.mode (close_window (listen r x) (pos n)) } ∷ [])
  unfolding process_sample R.arrive R.closes R.close_if window_of window_at window_if listen with_signal
  shuts e f = (rw (unskipped e, f), rw (unskipped e, f))

  skips : far (pos n -ℤ pos 16 -ℤ r.clock.slot_ready_time) ≡ true → slots_to_skip (pos n -ℤ pos 16 -ℤ r.clock.slot_ready_time) ≡ pos 1
      → eq_z (pos n -ℤ pos 16) (add_slots r.mode r.clock (pos 1)).slot_ready_time ≡ false
      → (process_sample r x (pos n) ≡ with_clock (listen r x) (add_slots r.mode r.clock (pos 1))) × (window_of r x (pos n) ≡ [])
  unfolding process_sample R.arrive R.ready R.skipped R.tdiff R.skip_if R.closes R.close_if window_of window_at window_if listen with_signal with_clock
  skips e s f = (rw (valid_heard r x v, e, s, f), rw (valid_heard r x v, e, s, f))

-- ---- a locked receiver's slot timing: the reference time moves by at most one, and the next slot with it. No float is looked at
pub shifted_parts : (e : Float) (z : ℤ) → up (z +ℤ moved_of e) + dn z + 1020 ≡ dn (z +ℤ moved_of e) + up z + slot_gap e
unfolding slot_gap
shifted_parts e z =
    elim (moved_law e) [
      | inl p ↦ rw p (omega (arith, sum z (pos 0)))
      | inr o ↦ elim o [ inl p ↦ rw p (omega (arith, sum z (pos 1))) | inr p ↦ rw p (omega (arith, sum z (negsuc 0))) ]
    ]

pub gap_span : (e : Float) → (1019 ≤ slot_gap e) × (slot_gap e ≤ 1021)
unfolding slot_gap
gap_span e = elim (moved_law e) [ inl p ↦ rw p (omega arith) | inr o ↦ elim o [ inl p ↦ rw p (omega arith) | inr p ↦ rw p (omega arith) ] ]

-- a receiver after its slot's window: the next slot, with the reference time moved
abbrev pub advanced : Receiver → Receiver
advanced r = R.next_slot (R.track r)

-- an error within both tests moves nothing
settled_stays : (r : Receiver) → late r.lock.timing_error ≡ false → early r.lock.timing_error ≡ false → R.track r ≡ r
unfolding R.track moved_of settled_of lowered_of with_clock with_lock
settled_stays r a b = rw (a, b, +ℤ_idr r.clock.reference_time)

-- ---- a window closes, in its four ways
module _ (r : Receiver) where
  -- a search window that finds nothing
  unfoldable stayed : Receiver
  stayed = with_clock (R.not_found_yet r) (R.search_on r.clock)

  -- one that finds the sequence
  unfoldable found : Receiver
  found = with_clock (R.found r (find_sync (window_bits r.signal)).pos) (set_slot Dl (R.found r (find_sync (window_bits r.signal)).pos).clock.reference_time 0)

  -- a locked window, and what it makes of the lock
  abbrev type : ℕ
  type = type_of (window_bits r.signal)

  abbrev lock_on : ℕ → Lock
  lock_on k = record { timing_error = error_after k r.lock.timing_error (slot_timing r.signal); misses = next_misses k r.lock.misses }

  lock_is : (k : ℕ) → R.lock_after r.lock (slot_timing r.signal) k ≡ lock_on k
  unfolding R.lock_after error_after next_misses
  lock_is zero = refl
  lock_is (suc k) = refl

  -- at the counter c
  module _ (c : ℤ) where
    close_stays : r.mode ≡ DlUnsynchronized → leb (find_sync (window_bits r.signal)).dist 1 ≡ false → close_window r c ≡ stayed
    unfolding close_window R.processed R.process_past_samples R.search_window R.not_found_yet with_slot R.schedule stayed
    close_stays m e = rw (m, e)

    close_locks : r.mode ≡ DlUnsynchronized → leb (find_sync (window_bits r.signal)).dist 1 ≡ true → close_window r c ≡ found
    unfolding close_window R.processed R.process_past_samples R.search_window R.found with_mode with_clock with_lock with_slot R.schedule R.next_slot add_slots set_slot found
    close_locks m e = rw (m, e, settled_stays (R.found r (find_sync (window_bits r.signal)).pos) (not_late r.signal) (not_early r.signal), first_slot)

    -- the slot is handed over
    unfoldable handed_over : Mode → Receiver
    handed_over m =
        R.hand_over (with_mode (with_lock r (lock_on type)) m) (R.downlink_slot r c (checked SlotType.Dl (window_bits r.signal)))

    hands_over_lem : (m : Mode) → r.mode ≡ Dl → R.mode_after (next_misses type r.lock.misses) ≡ m → R.processed r c ≡ handed_over m
    unfolding R.processed R.process_past_samples R.downlink_window handed_over type_of
    hands_over_lem m e f = rw (e, lock_is type, f)

    close_keeps : r.mode ≡ Dl → leb 100 (next_misses type r.lock.misses) ≡ false → close_window r c ≡ advanced (handed_over Dl)
    unfolding close_window R.schedule R.mode_after handed_over R.hand_over with_waits with_slot with_mode
    close_keeps m e = rw (hands_over_lem Dl m (rw e))

    close_loses : r.mode ≡ Dl → leb 100 (next_misses type r.lock.misses) ≡ true
        → close_window r c ≡ with_clock (handed_over DlUnsynchronized) (R.search_on r.clock)
    unfolding close_window R.schedule R.mode_after handed_over R.hand_over with_waits with_slot with_mode with_lock
    close_loses m e = rw (hands_over_lem DlUnsynchronized m (rw e))

-- ---- the account's ways
module _ (t : Tracked) (n : ℕ) (s : Signal) where
  pub turn_no : eqb n t.account.due ≡ false → turn t n s ≡ t
  unfolding turn turn_if
  turn_no e = rw e

  pub turn_search : (b : Bool) → eqb n t.account.due ≡ true → t.account.locked ≡ false → leb (find_sync (window_bits s)).dist 1 ≡ b
      → turn t n s ≡ search_turn b (find_sync (window_bits s)).pos t n (slot_timing s)
  unfolding turn turn_if window_turn
  turn_search b e f g = rw (e, f, g)

  pub turn_slot : (b : Bool) → eqb n t.account.due ≡ true → t.account.locked ≡ true → ltb (next_misses (type_of (window_bits s)) t.account.misses) 100 ≡ b
      → turn t n s ≡ slot_turn b (window_bits s) t n (error_after (type_of (window_bits s)) t.error (slot_timing s))
  unfolding turn turn_if window_turn
  turn_slot b e f g = rw (e, f, g)

-- ---- one sample
assemble : {r r₁ r₂ : Receiver} {w₁ w₂ : List Window} {n : ℕ} {s : Signal} {t t₁ t₂ : Tracked} → r₁ ≡ r₂ → w₁ ≡ w₂ → t₁ ≡ t₂
    → Stepped r r₂ w₂ n s t t₂ → Stepped r r₁ w₁ n s t t₁
assemble p q s u = rw (p, q, s) u

-- the kind of a window, from the mode before it closed and the receiver after
kind_searched : (m : Mode) (c r : Receiver) → m ≡ DlUnsynchronized → c ≡ r → r.mode ≡ DlUnsynchronized → kind_of m c ≡ searched
unfolding kind_of search_kind
kind_searched m c r p q e = rw (p, q, e)

kind_lock : (m : Mode) (c r : Receiver) → m ≡ DlUnsynchronized → c ≡ r → r.mode ≡ Dl → kind_of m c ≡ lock
unfolding kind_of search_kind
kind_lock m c r p q e = rw (p, q, e)

kind_slot : (m : Mode) (c r : Receiver) (h : HandedSlot) → m ≡ Dl → c ≡ r → r.slot ≡ h → kind_of m c ≡ slot h
unfolding kind_of
kind_slot m c r h p q e = rw (p, q, e)

one_window : {w : List Window} {n : ℕ} {j k : Kind} → w ≡ record { counter = n; kind = j } ∷ [] → j ≡ k → w ≡ record { counter = n; kind = k } ∷ []
one_window e f = rw (← f) e

-- the slot's ready time, where the receiver is locked
slot_ready : (z : ℤ) (s : ℕ) → up (set_slot Dl z s).slot_ready_time + dn z ≡ dn (set_slot Dl z s).slot_ready_time + up z + s * 1020 + 1018
unfolding set_slot R.slot_ready_from_begin
slot_ready z s = ready_parts z (s * 1020) 1018

-- the next slot, where the count does not wrap
to_next : (m : Mode) (c : Clock) (k : ℕ) → m ≡ Dl → c.current_slot ≡ k → suc k < slots → add_slots m c (pos 1) ≡ set_slot Dl c.reference_time (suc k)
unfolding add_slots
to_next m c k e f h =
    let w : slot_of (pos c.current_slot +ℤ pos 1) ≡ suc k = rw f (next_slot_lem k h) in
    rw (e, w)

module _ (r : Receiver) (x : ComplexSample) (n : ℕ) (t : Tracked) (v : valid r ≡ r) where
  abbrev s' : Signal
  s' = hear r.signal x

  abbrev Steps : Type 0
  Steps = Stepped r (process_sample r x (pos n)) (window_of r x (pos n)) n s' t (turn t n s')

  -- between two windows
  search_passes : Search r.mode r.clock n t → eqb n t.account.due ≡ false → Steps
  unfolding listen with_signal over
  search_passes s e =
      let ne : n ≡ t.account.due → ⊥ = eqb-false n t.account.due e in
      let p = passes r x n v (near n r.clock.slot_ready_time (omega (arith, s)) (omega (arith, s))) (closes_no n r.clock.slot_ready_time (λ h. ne (omega (arith, s)))) in
      assemble p.0 p.1 (turn_no t n s' e)
      (record {
        timed = searching (record { mode = s.mode; unlocked = s.unlocked; above_zero = s.above_zero; due = s.due; least = omega (arith, s, ne); most = omega (arith, s); begun = s.begun });
        signal = refl;
        windows = refl;
        waiting = λ v h. h;
      })

  steady_passes : Locked r.mode r.lock t → Steady r.clock n t → eqb n t.account.due ≡ false → Steps
  unfolding listen with_signal over
  steady_passes l s e =
      let ne : n ≡ t.account.due → ⊥ = eqb-false n t.account.due e in
      let p = passes r x n v (near n r.clock.slot_ready_time (omega (arith, s)) (omega (arith, s))) (closes_no n r.clock.slot_ready_time (λ h. ne (omega (arith, s)))) in
      assemble p.0 p.1 (turn_no t n s' e)
      (record {
        timed = steady l (record { current = s.current; above_zero = s.above_zero; due = s.due; reference = s.reference; least = omega (arith, s, ne); most = omega (arith, s); slow = s.slow; begun = s.begun });
        signal = refl;
        windows = refl;
        waiting = λ v h. h;
      })

  -- a search window that finds nothing
  search_stays : Search r.mode r.clock n t → eqb n t.account.due ≡ true → leb (find_sync (window_bits s')).dist 1 ≡ false → Steps
  unfolding listen with_signal stayed with_clock R.not_found_yet with_slot R.search_on over search_turn
  search_stays s e f =
      let eq : n ≡ t.account.due = eqb-true n t.account.due e in
      let z : ℤ = r.clock.slot_ready_time in
      let q = shuts r x n v (near n z (omega (arith, s)) (omega (arith, s))) (closes_yes n z (omega (arith, s))) in
      let c = close_stays (listen r x) (pos n) s.mode f in
      let k = kind_searched r.mode (close_window (listen r x) (pos n)) (stayed (listen r x)) s.mode c s.mode in
      let a : dn (z +ℤ pos 400) ≡ 0 = above_zero (z +ℤ pos 400) (omega (arith, sum z (pos 400), s)) in
      assemble (q.0 ∙ c) (one_window q.1 k) (turn_search t n s' false e s.unlocked f)
      (record {
        timed = searching (record { mode = s.mode; unlocked = refl; above_zero = a; due = omega (arith, sum z (pos 400), s, a); least = omega arith; most = omega arith; begun = omega (arith, s) });
        signal = refl;
        windows = refl;
        waiting = λ v h. emptied_searched r.waits r.slot v h;
      })

  -- a search window that locks
  search_locks : Search r.mode r.clock n t → eqb n t.account.due ≡ true → leb (find_sync (window_bits s')).dist 1 ≡ true → Steps
  unfolding listen with_signal found with_clock R.found with_mode with_lock with_slot set_slot R.slot_ready_from_begin over search_turn
  search_locks s e f =
      let eq : n ≡ t.account.due = eqb-true n t.account.due e in
      let z : ℤ = r.clock.slot_ready_time in
      let q = shuts r x n v (near n z (omega (arith, s)) (omega (arith, s))) (closes_yes n z (omega (arith, s))) in
      let c = close_locks (listen r x) (pos n) s.mode f in
      let r' : Receiver = found (listen r x) in
      let k = kind_lock r.mode (close_window (listen r x) (pos n)) r' s.mode c refl in
      let p : SyncPlace (find_sync (window_bits s')).pos = sync_place s' in
      let y = found_parts z (find_sync (window_bits s')).pos p.half p.even p.most in
      let u = ready_parts r'.clock.reference_time 0 1018 in
      assemble (q.0 ∙ c) (one_window q.1 k) (turn_search t n s' true e s.unlocked f)
      (record {
        timed = fresh (record { mode = refl; locked = refl; lock = refl })
            (record {
              current = refl;
              number = refl;
              ready = omega (arith, y, u, s, p);
              reference = omega (arith, y, s, p);
              least = omega (arith, p);
              most = omega (arith, p);
              begun = omega (arith, s);
            });
        signal = refl;
        windows = refl;
        waiting = λ v h. emptied_lock r.waits r.slot v h;
      })

  -- the first sample after a lock skips a slot
  fresh_skips : Locked r.mode r.lock t → Fresh r.clock n t → Steps
  unfolding listen with_signal with_clock over set_slot
  fresh_skips l s =
      let z : ℤ = r.clock.slot_ready_time in
      let c : Clock = set_slot Dl r.clock.reference_time 1 in
      let k : add_slots r.mode r.clock (pos 1) ≡ c = to_next r.mode r.clock 0 l.mode s.current (omega arith) in
      let y = slot_ready r.clock.reference_time 1 in
      let no_close : eq_z (pos n -ℤ pos 16) c.slot_ready_time ≡ false = closes_no n c.slot_ready_time (λ h. omega (arith, h, y, s)) in
      let p = skips r x n v (past n z (omega (arith, s))) (skips_one n z (omega (arith, s)) (omega (arith, s))) (rw k no_close) in
      let a : dn c.slot_ready_time ≡ 0 = above_zero c.slot_ready_time (omega (arith, y, s)) in
      assemble (p.0 ∙ ap (with_clock (listen r x)) k) p.1 (turn_no t n s' (ne_eqb n t.account.due (λ h. omega (arith, h, s))))
      (record {
        timed = steady l (record {
          current = sym s.number;
          above_zero = a;
          due = omega (arith, y, s, a);
          reference = omega (arith, s);
          least = omega (arith, s);
          most = omega (arith, s);
          slow = omega (arith, s);
          begun = s.begun;
        });
        signal = refl;
        windows = refl;
        waiting = λ v h. h;
      })

  -- a locked window, the lock kept
  slot_kept : Locked r.mode r.lock t → Steady r.clock n t → Whole r.slot → n < counters → eqb n t.account.due ≡ true
      → leb 100 (next_misses (type_of (window_bits s')) r.lock.misses) ≡ false → Steps
  unfolding listen with_signal R.next_slot R.track add_slots with_clock with_lock handed_over R.hand_over with_waits with_slot with_mode over slot_turn next_number set_slot R.slot_ready_from_begin
  slot_kept l s u few e f =
      let eq : n ≡ t.account.due = eqb-true n t.account.due e in
      let z : ℤ = r.clock.slot_ready_time in
      let k : ℕ = t.account.number in
      let type : ℕ = type_of (window_bits s') in
      let error : Float = error_after type r.lock.timing_error (slot_timing s') in
      let q = shuts r x n v (near n z (omega (arith, s)) (omega (arith, s))) (closes_yes n z (omega (arith, s))) in
      let c = close_keeps (listen r x) (pos n) l.mode f in
      let r' : Receiver = advanced (handed_over (listen r x) (pos n) Dl) in
      let g = gap_span error in
      let ge = ap (λ (y : Lock). slot_gap (error_after type y.timing_error (slot_timing s'))) l.lock in
      let me = ap (λ (y : Lock). next_misses type y.misses) l.lock in
      let w : slot_of (pos r.clock.current_slot +ℤ pos 1) ≡ suc k = rw s.current (next_slot_lem k (omega (arith, s))) in
      let nn : suc k % slots ≡ suc k = mod-eq_of_lt (omega (arith, s)) in
      let y = slot_ready (r.clock.reference_time +ℤ moved_of error) (suc k) in
      let b = shifted_parts error r.clock.reference_time in
      let ready : ℤ = (set_slot Dl (r.clock.reference_time +ℤ moved_of error) (suc k)).slot_ready_time in
      let a : dn ready ≡ 0 = above_zero ready (omega (arith, y, b, s, g)) in
      assemble (q.0 ∙ c) (one_window q.1 (kind_slot r.mode (close_window (listen r x) (pos n)) r' (slot_in t.account n (window_bits s')) l.mode c (handed_is (listen r x) t.account n (window_bits s') s.current u)))
      (turn_slot t n s' true e l.locked (lt-ltb (next_misses type t.account.misses) 100 (omega (arith, leb-false 100 (next_misses type r.lock.misses) f, me))))
      (record {
        timed = steady (record { mode = refl; locked = refl; lock = ap (λ (y : Lock). record { timing_error = settled_of (error_after type y.timing_error (slot_timing s')); misses = next_misses type y.misses }) l.lock })
            (rw w (record {
              current = sym nn;
              above_zero = a;
              due = omega (arith, y, b, s, a, ge);
              reference = omega (arith, b, s, ge, nn);
              least = omega (arith, g, ge);
              most = omega (arith, g, ge);
              slow = omega (arith, g, ge, nn, s);
              begun = omega (arith, s);
            }));
        signal = refl;
        windows = refl;
        waiting = λ v h. handed_waits (listen r x) t.account n (window_bits s') v s.current h;
      })

  -- the hundredth miss
  slot_loses : Locked r.mode r.lock t → Steady r.clock n t → Whole r.slot → eqb n t.account.due ≡ true
      → leb 100 (next_misses (type_of (window_bits s')) r.lock.misses) ≡ true → Steps
  unfolding listen with_signal with_clock with_lock handed_over R.hand_over with_waits with_slot with_mode R.search_on over slot_turn
  slot_loses l s u e f =
      let eq : n ≡ t.account.due = eqb-true n t.account.due e in
      let z : ℤ = r.clock.slot_ready_time in
      let type : ℕ = type_of (window_bits s') in
      let q = shuts r x n v (near n z (omega (arith, s)) (omega (arith, s))) (closes_yes n z (omega (arith, s))) in
      let c = close_loses (listen r x) (pos n) l.mode f in
      let r' : Receiver = with_clock (handed_over (listen r x) (pos n) DlUnsynchronized) (R.search_on r.clock) in
      let me = ap (λ (y : Lock). next_misses type y.misses) l.lock in
      let a : dn (z +ℤ pos 400) ≡ 0 = above_zero (z +ℤ pos 400) (omega (arith, sum z (pos 400), s)) in
      assemble (q.0 ∙ c) (one_window q.1 (kind_slot r.mode (close_window (listen r x) (pos n)) r' (slot_in t.account n (window_bits s')) l.mode c (handed_is (listen r x) t.account n (window_bits s') s.current u)))
      (turn_slot t n s' false e l.locked (le-ltb (next_misses type t.account.misses) 100 (omega (arith, leb-true 100 (next_misses type r.lock.misses) f, me))))
      (record {
        timed = searching (record { mode = refl; unlocked = refl; above_zero = a; due = omega (arith, sum z (pos 400), s, a); least = omega arith; most = omega arith; begun = omega (arith, s) });
        signal = refl;
        windows = refl;
        waiting = λ v h. handed_waits (listen r x) t.account n (window_bits s') v s.current h;
      })

  -- all together
  pub stepped : InStep r.mode r.clock r.lock n t → Whole r.slot → n < counters → Steps
  stepped (searching s) u few = go (eqb n t.account.due) refl (leb (find_sync (window_bits s')).dist 1) refl
    where
      go : (b : Bool) → eqb n t.account.due ≡ b → (d : Bool) → leb (find_sync (window_bits s')).dist 1 ≡ d → Steps
      go false e d f = search_passes s e
      go true e false f = search_stays s e f
      go true e true f = search_locks s e f
  stepped (fresh l s) u few = fresh_skips l s
  stepped (steady l s) u few = go (eqb n t.account.due) refl (leb 100 (next_misses (type_of (window_bits s')) r.lock.misses)) refl
    where
      go : (b : Bool) → eqb n t.account.due ≡ b → (d : Bool) → leb 100 (next_misses (type_of (window_bits s')) r.lock.misses) ≡ d → Steps
      go false e d f = steady_passes l s e
      go true e false f = slot_kept l s u few e f
      go true e true f = slot_loses l s u e f
