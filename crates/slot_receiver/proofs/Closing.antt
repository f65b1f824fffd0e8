-- The counters at which windows close, of every receiver in any mode: `closed_at_lem`. Assumes nothing.
use mathlib.Core.Path.{◌≡◌, refl, sym, ap, ◌∙◌}
use mathlib.Core.Bool.{Bool, true, false}
use mathlib.Core.Logic.{inl, inr}
use mathlib.Core.List.Memᴰ
use mathlib.Core.List.{List, [], ◌∷◌, ◌++◌, Memᴰ}
use Prim.Native.Nat.{ℕ, zero, suc, ◌+◌, ◌-◌, ◌≤◌, ◌<◌}
use native.Mathlib.Omega.{arith}
use lib.IntN.{ℤ, pos, negsuc, nat_abs, ◌-ℤ◌}
use borrow.Author.Tests.{le-ltb}
use Rattle.dsp_types.specs.declared.ComplexSample.{ComplexSample}
use Rattle.dsp_types.specs.Ints.{up}
use Rattle.dsp_types.proofs.IntLaws.{less, same}
use Rattle.dsp_types.specs.Refusals.{out_of_count, counters, last_counter}
use Rattle.dsp_types.specs.Samples.{silence}
use Rattle.rx_slot.specs.Slots.{HandedSlot, with_views, valid_closing}
use Rattle.slot_receiver.specs.declared.Mode.{Mode}
use Rattle.slot_receiver.specs.declared.Mode.TheVariants.{Idle, DlUnsynchronized, Dl, Ul}
use Rattle.slot_receiver.specs.Receiver as R
use Rattle.slot_receiver.specs.Receiver.{Receiver, with_mode, with_clock, with_lock, with_waits, with_slot, with_next, with_signal, valid, valid_count, ready, closes, close_if, close_window, arrive, process_sample, missing, feed_zeros, zeros_before, accept}
use Rattle.slot_receiver.specs.Windows.{Kind, searched, lock, slot, Window, search_kind, kind_of, window_if, window_at, window_of, zeros_windows, accept_windows}
use Rattle.slot_receiver.specs.Calls.{sample_refusal}
use Rattle.slot_receiver.specs.Closing.{closing_on, last_closing, ClosedAt}
use Rattle.slot_receiver.specs.Bounds.{Counter}
use Rattle.slot_receiver.proofs.Doors.{valid_counter}
use Rattle.slot_receiver.proofs.Accepted.{Accepted, accepted_at_lem, missing_most}

-- ---- from r to r', closing the windows ws, at counters from `least` on and below `most`
pub record Closes (r r' : Receiver) (ws : List Window) (least most : ℕ) : Type 0 where
  pub counter : (w : Window) → Memᴰ w ws → (least ≤ w.counter) × (w.counter < most)
  pub own : (w : Window) (h : HandedSlot) → Memᴰ w ws → w.kind ≡ slot h → h.closing_counter ≡ pos w.counter
  pub last : r'.slot.closing_counter ≡ last_closing ws r.slot.closing_counter

still : (r r' : Receiver) (least most : ℕ) → r'.slot ≡ r.slot → Closes r r' [] least most
unfolding last_closing
still r r' least most e =
    record { counter = λ w m. absurd (Memᴰ.not-nil m); own = λ w h m k. absurd (Memᴰ.not-nil m); last = ap (λ (h : HandedSlot). h.closing_counter) e }

pub last_over : (vs ws : List Window) (z : ℤ) → last_closing (vs ++ ws) z ≡ last_closing vs (last_closing ws z)
unfolding last_closing
last_over [] ws z = refl
last_over (v ∷ vs) ws z = ap (closing_on v.kind v.counter) (last_over vs ws z)

-- one after the other: the windows stand the last first
both : {r s t : Receiver} {vs ws : List Window} {a b c : ℕ} → a ≤ b → b ≤ c → Closes r s ws a b → Closes s t vs b c → Closes r t (vs ++ ws) a c
both {r} {vs = vs} {ws = ws} h k p q =
    record {
      counter = λ w m. elim (Memᴰ.append_cases vs m) [
        | inl n ↦ let o = q.counter w n in (omega (arith, o.0, h), o.1)
        | inr n ↦ let o = p.counter w n in (o.0, omega (arith, o.1, k))
      ];
      own = λ w h m k. elim (Memᴰ.append_cases vs m) [ inl n ↦ q.own w h n k | inr n ↦ p.own w h n k ];
      last = q.last ∙ rw (p.last, last_over vs ws r.slot.closing_counter);
    }

-- ---- a window

schedule_slot : (m : Mode) (r : Receiver) → (R.schedule m r).slot ≡ r.slot
unfolding R.schedule R.search_on R.next_slot R.track with_clock with_lock
schedule_slot Idle r = refl
schedule_slot DlUnsynchronized r = refl
schedule_slot Dl r = refl
schedule_slot Ul r = refl

-- a search window hands no slot over
pub search_none : (m : Mode) (h : HandedSlot) → search_kind m ≡ slot h → ⊥
unfolding search_kind
search_none Idle h e = let z : ◌≡◌ {A = ℕ} 0 1 = cc in omega arith
search_none DlUnsynchronized h e = let z : ◌≡◌ {A = ℕ} 0 1 = cc in omega arith
search_none Dl h e = let z : ◌≡◌ {A = ℕ} 0 1 = cc in omega arith
search_none Ul h e = let z : ◌≡◌ {A = ℕ} 0 1 = cc in omega arith

search_leaves : (m : Mode) (n : ℕ) (z : ℤ) → z ≡ closing_on (search_kind m) n z
unfolding closing_on search_kind
search_leaves Idle n z = refl
search_leaves DlUnsynchronized n z = refl
search_leaves Dl n z = refl
search_leaves Ul n z = refl

module _ (r : Receiver) (n : ℕ) where
  search_keeps : (b : Bool) (place : ℕ) → (R.search_window b place r).slot.closing_counter ≡ r.slot.closing_counter
  unfolding R.search_window R.found R.not_found_yet with_views R.emptied with_mode with_clock with_lock with_slot
  search_keeps true place = refl
  search_keeps false place = refl

  -- the receiver after the window's bits were read, whatever mode it is in then
  read : (m : Mode) (after : Receiver) → (R.process_past_samples m r (pos n)).slot.closing_counter ≡ closing_on (kind_of m after) n r.slot.closing_counter
  unfolding R.process_past_samples R.downlink_window R.downlink_slot R.uplink_slot R.hand_over with_mode with_lock with_waits with_slot kind_of closing_on
  read Idle after = refl
  read DlUnsynchronized after = search_keeps _ _ ∙ search_leaves after.mode n r.slot.closing_counter
  read Dl after = refl
  read Ul after = refl

  hands : (m : Mode) (after : Receiver) (h : HandedSlot) → after.slot ≡ (R.process_past_samples m r (pos n)).slot → kind_of m after ≡ slot h → h.closing_counter ≡ pos n
  unfolding R.process_past_samples R.downlink_window R.downlink_slot R.uplink_slot R.hand_over with_mode with_lock with_waits with_slot kind_of
  hands Idle after h e k = absurd (let z : ◌≡◌ {A = ℕ} 0 1 = cc in omega arith)
  hands DlUnsynchronized after h e k = absurd (search_none after.mode h k)
  hands Dl after h e k = let s : after.slot ≡ h = cc in ap (λ (g : HandedSlot). g.closing_counter) (sym s ∙ e)
  hands Ul after h e k = let s : after.slot ≡ h = cc in ap (λ (g : HandedSlot). g.closing_counter) (sym s ∙ e)

  closed : Closes r (close_window r (pos n)) (window_if true r (pos n)) n (suc n)
  unfolding close_window R.processed window_if last_closing
  closed =
      let p : Receiver = R.process_past_samples r.mode r (pos n) in
      let e : (close_window r (pos n)).slot ≡ p.slot = schedule_slot p.mode p in
      let its : (w : Window) → Memᴰ w (window_if true r (pos n)) → w ≡ record { counter = n; kind = kind_of r.mode (close_window r (pos n)) } = λ w m. Memᴰ.eq_of_singleton m in
      record {
        counter = λ w m. let c : w.counter ≡ n = ap (λ (u : Window). u.counter) (its w m) in (omega (arith, c), omega (arith, c));
        own = λ w h m k. hands r.mode (close_window r (pos n)) h e (ap (λ (u : Window). u.kind) (sym (its w m)) ∙ k) ∙ ap (λ (u : Window). pos u.counter) (sym (its w m));
        last = ap (λ (g : HandedSlot). g.closing_counter) e ∙ read r.mode (close_window r (pos n));
      }

-- ---- a sample

closed_if : (b : Bool) (r : Receiver) (n : ℕ) → Closes r (close_if b r (pos n)) (window_if b r (pos n)) n (suc n)
unfolding close_if window_if
closed_if true r n = closed r n
closed_if false r n = still r r n (suc n) refl

-- up to the close of a window slot and waiting stay
skip_keeps : (b : Bool) (t : ℤ) (r : Receiver) → ((R.skip_if b t r).slot ≡ r.slot) × ((R.skip_if b t r).waits ≡ r.waits)
unfolding R.skip_if with_clock
skip_keeps true t r = (refl, refl)
skip_keeps false t r = (refl, refl)

pub ready_keeps : (r : Receiver) (c : ℤ) → ((ready r c).slot ≡ r.slot) × ((ready r c).waits ≡ r.waits)
unfolding ready R.skipped valid with_clock with_lock
ready_keeps r c = skip_keeps _ _ (valid r)

from : {r s t : Receiver} {ws : List Window} {a b : ℕ} → s.slot ≡ r.slot → Closes s t ws a b → Closes r t ws a b
from {ws = ws} e p = record { counter = p.counter; own = p.own; last = p.last ∙ ap (λ (h : HandedSlot). last_closing ws h.closing_counter) e }

process_closes : (r : Receiver) (x : ComplexSample) (n : ℕ) → Closes r (process_sample r x (pos n)) (window_of r x (pos n)) n (suc n)
unfolding process_sample arrive window_of window_at R.listen with_signal
process_closes r x n =
    let l : Receiver = R.listen r x in
    from {r = r} {s = ready l (pos n)} (ready_keeps l (pos n)).0 (closed_if (closes (ready l (pos n)) (pos n)) (ready l (pos n)) n)

-- k zeros before the counter n
zeros_close : (k : ℕ) (r : Receiver) (n : ℕ) → k ≤ n → Closes r (feed_zeros k r (pos n)) (zeros_windows k r (pos n)) (n - k) n
unfolding feed_zeros zeros_windows
zeros_close zero r n h = still r r (n - 0) n refl
zeros_close (suc k) r n h =
    let e : pos n -ℤ pos (suc k) ≡ pos (n - suc k) = same (pos n -ℤ pos (suc k)) (pos (n - suc k)) (omega (arith, less (pos n) (pos (suc k)))) in
    let f : suc (n - suc k) ≡ n - k = omega (arith, h) in
    let z : Closes r (process_sample r silence (pos n -ℤ pos (suc k))) (window_of r silence (pos n -ℤ pos (suc k))) (n - suc k) (n - k) =
    rw (e, ← f) (process_closes r silence (n - suc k)) in
    both (omega arith) (omega arith) z (zeros_close k (process_sample r silence (pos n -ℤ pos (suc k))) n (omega arith))

-- ---- an accepted sample

-- the counter that is expected, as a number
expected : (r : Receiver) → valid_count r.next ≡ pos (nat_abs (valid_count r.next))
expected r = go (valid_count r.next) (valid_counter r.next)
  where
    go : (z : ℤ) → Counter z → z ≡ pos (nat_abs z)
    go (pos n) k = refl
    go (negsuc n) k = absurd (omega (arith, k.low))

counts : (r : Receiver) (x : ComplexSample) (c : ℤ) → sample_refusal (valid_count r.next) x c ≡ 0 → Accepted (nat_abs (valid_count r.next)) c
counts r x c e = accepted_at_lem (valid_count r.next) x c (nat_abs (valid_count r.next)) e (expected r)

-- ════ THE LAW
pub closed_by : (r : Receiver) (x : ComplexSample) (n : ℕ) → nat_abs (valid_count r.next) ≤ n → ClosedAt r x (pos n)
unfolding accept accept_windows with_next zeros_before
closed_by r x n least =
    let k : ℕ = zeros_before r (pos n) in
    let few : nat_abs (valid_count r.next) + k ≤ n = rw (expected r) (missing_most (nat_abs (valid_count r.next)) n least) in
    let z = zeros_close k r n (omega (arith, few)) in
    let s = process_closes (feed_zeros k r (pos n)) x n in
    let a = both (omega arith) (omega arith) z s in
    record {
      sample = λ w m. let c = s.counter w m in ap pos (let e : w.counter ≡ n = omega (arith, c) in e);
      zero = λ w m. let c = z.counter w m in (omega (arith, c.0, few), c.1);
      own = a.own;
      last = a.last;
    }

pub closed_at_lem : (r : Receiver) (x : ComplexSample) (c : ℤ) → sample_refusal (valid_count r.next) x c ≡ 0 → ClosedAt r x c
closed_at_lem r x c e = go (counts r x c e)
  where
    go : Accepted (nat_abs (valid_count r.next)) c → ClosedAt r x c
    go k = rw k.is (closed_by r x k.counter k.least)

-- the windows of an accepted sample close by its counter
pub closed_below : (r : Receiver) (x : ComplexSample) (n : ℕ) → ClosedAt r x (pos n) → (w : Window) → Memᴰ w (accept_windows r x (pos n)) → w.counter ≤ n
unfolding accept_windows
closed_below r x n a w m =
    elim (Memᴰ.append_cases (window_of (feed_zeros (zeros_before r (pos n)) r (pos n)) x (pos n)) m) [
      | inl s ↦ let e = ap up (a.sample w s) in omega (arith, e)
      | inr z ↦ omega (arith, (a.zero w z).1)
    ]

pub closed_count : (r : Receiver) (x : ComplexSample) (c : ℤ) → sample_refusal (valid_count r.next) x c ≡ 0 → (w : Window) → Memᴰ w (accept_windows r x c) → w.counter < counters
closed_count r x c e w m = go (counts r x c e)
  where
    go : Accepted (nat_abs (valid_count r.next)) c → w.counter < counters
    go k = omega (arith, closed_below r x k.counter (closed_by r x k.counter k.least) w (rw k.is at m), k.below)

-- a sample's counter is read as it is, and so is the last of several
pub counter_valid : (n : ℕ) → n < counters → valid_closing (pos n) ≡ pos n
unfolding valid_closing out_of_count
counter_valid n h = rw (le-ltb last_counter n (omega (arith, h)))

pub last_valid : (ws : List Window) (z : ℤ) → ((w : Window) → Memᴰ w ws → w.counter < counters) → valid_closing z ≡ z → valid_closing (last_closing ws z) ≡ last_closing ws z
unfolding last_closing closing_on
last_valid [] z few e = e
last_valid (w ∷ ws) z few e = go w.kind (few w (Memᴰ.head refl)) (last_valid ws z (λ v m. few v (Memᴰ.tail m)) e)
  where
    go : (k : Kind) → w.counter < counters → valid_closing (last_closing ws z) ≡ last_closing ws z
        → valid_closing (closing_on k w.counter (last_closing ws z)) ≡ closing_on k w.counter (last_closing ws z)
    go searched h f = f
    go lock h f = f
    go (slot g) h f = counter_valid w.counter h
