-- The closing counters of every list of calls: `closings`. Assumes nothing.
use mathlib.Core.Path.{◌≡◌, refl, sym, ap, ◌∙◌}
use mathlib.Core.Logic.{inl, inr}
use mathlib.Core.List.Memᴰ
use mathlib.Core.List.{List, [], ◌∷◌, ◌++◌, Memᴰ}
use Prim.Native.Nat.{ℕ, zero, suc, ◌+◌, ◌≤◌, ◌<◌}
use native.Mathlib.Omega.{arith}
use lib.IntN.{ℤ, pos, nat_abs}
use Rattle.dsp_types.specs.declared.ComplexSample.{ComplexSample}
use Rattle.dsp_types.specs.Ints.{up}
use Rattle.dsp_types.proofs.IntLaws.{lt_z_no}
use Rattle.dsp_types.specs.Refusals.{counters}
use Rattle.rx_slot.specs.Slots.{HandedSlot, no_slot, valid_closing, valid_slot}
use Rattle.slot_receiver.specs.declared.Mode.{Mode}
use Rattle.slot_receiver.specs.declared.Mode.TheVariants.{Idle, DlUnsynchronized, Dl, Ul}
use Rattle.slot_receiver.specs.Receiver.{Receiver, with_mode, with_clock, with_waits, with_next, new, valid_count, zeros_before, accept}
use Rattle.slot_receiver.specs.Windows.{slot, Window, zeros_windows, accept_windows}
use Rattle.slot_receiver.specs.Calls.{took, Outcome, unless, sample_refusal, sampled, sample_outcome, take_refusal, taken, take_outcome, follow_refusal, following, followed, follow_outcome}
use Rattle.slot_receiver.specs.Closing.{last_closing, ClosedAt}
use Rattle.slot_receiver.proofs.Accepted.{Accepted, accepted_at_lem}
use Rattle.slot_receiver.proofs.Closing.{closed_at_lem, closed_below, counter_valid, last_valid, last_over}
use Rattle.account.specs.CallList as CallList
use Rattle.account.specs.CallList.{Call, sample, follow, outcome, after, closed}
use Rattle.account.specs.Account.{if_accepted, next_counter}
use Rattle.account.specs.Closings.{accepted_at, by_zeros, EachCall, Closings}

-- after the calls cs this counter is expected, and every one before is below it
record Keeps (cs : List Call) : Type 0 where
  count : ℕ
  most : count ≤ counters
  expected : next_counter cs ≡ pos count
  next : (after cs).next ≡ pos count
  below : (m : ℕ) → Memᴰ (pos m) (accepted_at cs) → m < count
  zero : (w : Window) → Memᴰ w (by_zeros cs) → w.counter < count
  window : (w : Window) → Memᴰ w (closed cs) → w.counter < count
  each : EachCall cs
  missing : (w : Window) → Memᴰ w (by_zeros cs) → Memᴰ (pos w.counter) (accepted_at cs) → ⊥
  own : (w : Window) (h : HandedSlot) → Memᴰ w (closed cs) → w.kind ≡ slot h → h.closing_counter ≡ pos w.counter
  last : (after cs).slot.closing_counter ≡ last_closing (closed cs) (pos 0)

none : Keeps []
unfolding next_counter after new no_slot accepted_at by_zeros closed EachCall last_closing
none =
    record {
      count = 0;
      most = omega arith;
      expected = refl;
      next = refl;
      below = λ m i. absurd (Memᴰ.not-nil i);
      zero = λ w i. absurd (Memᴰ.not-nil i);
      window = λ w i. absurd (Memᴰ.not-nil i);
      each = tt;
      missing = λ w i j. absurd (Memᴰ.not-nil i);
      own = λ w h i k. absurd (Memᴰ.not-nil i);
      last = refl;
    }

-- ---- a call that is no accepted sample: it closes no window and leaves slot and expected counter

record Quiet (r : Receiver) (o : Outcome) : Type 0 where
  next : o.receiver.next ≡ r.next
  slot : o.receiver.slot.closing_counter ≡ r.slot.closing_counter
  windows : o.windows ≡ []

unless_quiet : (k : ℕ) (r : Receiver) (l : List (List ℕ)) (o : Outcome) → (k ≡ 0 → Quiet r o) → Quiet r (unless k r l o)
unfolding unless
unless_quiet zero r l o q = q refl
unless_quiet (suc k) r l o q = record { next = refl; slot = refl; windows = refl }

follow_quiet : (m : Mode) (r other : Receiver) → ((following m r other).next ≡ r.next) × ((following m r other).slot.closing_counter ≡ r.slot.closing_counter)
unfolding following with_mode with_clock
follow_quiet Idle r other = (refl, refl)
follow_quiet DlUnsynchronized r other = (refl, refl)
follow_quiet Dl r other = (refl, refl)
follow_quiet Ul r other = (refl, refl)

take_quiet : (r : Receiver) (s a b : List ℕ) → Quiet r (take_outcome r s a b)
unfolding take_outcome taken with_waits
take_quiet r s a b = unless_quiet (take_refusal s a b r.waits) r _ (taken r (valid_slot r.slot)) (λ e. record { next = refl; slot = refl; windows = refl })

order_quiet : (r other : Receiver) → Quiet r (follow_outcome r other)
unfolding follow_outcome followed
order_quiet r other =
    let f = follow_quiet other.mode r other in
    unless_quiet (follow_refusal r.mode) r [] (followed r other) (λ e. record { next = f.0; slot = f.1; windows = refl })

module _ (c : Call) (cs : List Call) (p : Keeps cs) (q : Quiet (after cs) (outcome (after cs) c)) where
  closed_same : closed (c ∷ cs) ≡ closed cs
  unfolding closed
  closed_same = rw q.windows

  carried : next_counter (c ∷ cs) ≡ next_counter cs → accepted_at (c ∷ cs) ≡ accepted_at cs → by_zeros (c ∷ cs) ≡ by_zeros cs → EachCall (c ∷ cs) → Keeps (c ∷ cs)
  unfolding after
  carried e f g s =
      record {
        count = p.count;
        most = p.most;
        expected = e ∙ p.expected;
        next = q.next ∙ p.next;
        below = λ m i. p.below m (rw f at i);
        zero = λ w i. p.zero w (rw g at i);
        window = λ w i. p.window w (rw closed_same at i);
        each = s;
        missing = λ w i j. p.missing w (rw g at i) (rw f at j);
        own = λ w h i k. p.own w h (rw closed_same at i) k;
        last = q.slot ∙ p.last ∙ ap (λ (l : List Window). last_closing l (pos 0)) (sym closed_same);
      }

-- ---- a sample

valid_next : (z : ℤ) (n : ℕ) → n ≤ counters → z ≡ pos n → valid_count z ≡ pos n
unfolding valid_count
valid_next z n h e = rw (e, lt_z_no (pos n) (pos 0) (omega arith), lt_z_no (pos counters) (pos n) (omega (arith, h)))

module _ (x : ComplexSample) (k : ℕ) (cs : List Call) (p : Keeps cs) (e : sample_refusal (next_counter cs) x (pos k) ≡ 0) (few : k < counters) (least : p.count ≤ k) where
  abbrev r : Receiver
  r = after cs

  counted : valid_count r.next ≡ pos p.count
  counted = valid_next r.next p.count p.most p.next

  outcome_is : outcome r (sample x (pos k)) ≡ sampled r x (pos k)
  unfolding outcome sample_outcome unless
  outcome_is = let v : sample_refusal (valid_count r.next) x (pos k) ≡ 0 = rw (counted, ← p.expected) e in rw v

  at : ClosedAt r x (pos k)
  at = closed_at_lem r x (pos k) (rw (counted, ← p.expected) e)

  accepted_is : accepted_at (sample x (pos k) ∷ cs) ≡ pos k ∷ accepted_at cs
  unfolding accepted_at if_accepted
  accepted_is = rw e

  zeros_are : by_zeros (sample x (pos k) ∷ cs) ≡ zeros_windows (zeros_before r (pos k)) r (pos k) ++ by_zeros cs
  unfolding by_zeros if_accepted
  zeros_are = rw e

  closed_are : closed (sample x (pos k) ∷ cs) ≡ accept_windows r x (pos k) ++ closed cs
  unfolding closed sampled
  closed_are = ap (λ (o : Outcome). o.windows ++ closed cs) outcome_is

  next_is : next_counter (sample x (pos k) ∷ cs) ≡ pos (suc k)
  unfolding next_counter if_accepted
  next_is = let s : k + 1 ≡ suc k = omega arith in rw e (ap pos s)

  after_is : after (sample x (pos k) ∷ cs) ≡ accept r x (pos k)
  unfolding after sampled
  after_is = ap (λ (o : Outcome). o.receiver) outcome_is

  next_counter_lem : (accept r x (pos k)).next ≡ pos (suc k)
  unfolding accept with_next
  next_counter_lem = let s : k + 1 ≡ suc k = omega arith in ap pos s

  -- a zero's window is at a counter from the expected one on, below the sample's
  fed : (w : Window) → Memᴰ w (zeros_windows (zeros_before r (pos k)) r (pos k)) → (p.count ≤ w.counter) × (w.counter < k)
  fed w i = let o = at.zero w i in (omega (arith, o.0, ap nat_abs counted), o.1)

  heard : Keeps (sample x (pos k) ∷ cs)
  unfolding EachCall
  heard =
      record {
        count = suc k;
        most = few;
        expected = next_is;
        next = ap (λ (r : Receiver). r.next) after_is ∙ next_counter_lem;
        below = λ m i. elim (Memᴰ.cases_cons (rw accepted_is at i)) [ inl h ↦ let f : m ≡ k = ap up h in omega (arith, f) | inr j ↦ omega (arith, p.below m j, least) ];
        zero = λ w i. elim (Memᴰ.append_cases (zeros_windows (zeros_before r (pos k)) r (pos k)) (rw zeros_are at i)) [
          | inl j ↦ omega (arith, (fed w j).1)
          | inr j ↦ omega (arith, p.zero w j, least)
        ];
        window = λ w i. elim (Memᴰ.append_cases (accept_windows r x (pos k)) (rw closed_are at i)) [
          | inl j ↦ omega (arith, closed_below r x k at w j)
          | inr j ↦ omega (arith, p.window w j, least)
        ];
        each = (p.each, λ z. at);
        missing = λ w i j. elim (Memᴰ.append_cases (zeros_windows (zeros_before r (pos k)) r (pos k)) (rw zeros_are at i)) [
          | inl z ↦ elim (Memᴰ.cases_cons (rw accepted_is at j)) [
            | inl h ↦ let f : w.counter ≡ k = ap up h in omega (arith, f, (fed w z).1)
            | inr h ↦ omega (arith, p.below w.counter h, (fed w z).0)
          ]
          | inr z ↦ elim (Memᴰ.cases_cons (rw accepted_is at j)) [
            | inl h ↦ let f : w.counter ≡ k = ap up h in omega (arith, f, p.zero w z, least)
            | inr h ↦ p.missing w z h
          ]
        ];
        own = λ w h i s. elim (Memᴰ.append_cases (accept_windows r x (pos k)) (rw closed_are at i)) [ inl j ↦ at.own w h j s | inr j ↦ p.own w h j s ];
        last = ap (λ (r : Receiver). r.slot.closing_counter) after_is ∙ at.last ∙ ap (last_closing (accept_windows r x (pos k))) p.last
            ∙ sym (last_over (accept_windows r x (pos k)) (closed cs) (pos 0)) ∙ ap (λ (l : List Window). last_closing l (pos 0)) (sym closed_are);
      }

-- ---- what a take gives

took_is : (k : ℕ) (r : Receiver) (l : List (List ℕ)) (h : HandedSlot) → (unless k r l (taken r (valid_slot r.slot))).reply ≡ took h → h.closing_counter ≡ valid_closing r.slot.closing_counter
unfolding unless taken valid_slot
took_is zero r l h e = let f : valid_slot r.slot ≡ h = cc in ap (λ (g : HandedSlot). g.closing_counter) (sym f)
took_is (suc k) r l h e = absurd (let z : ◌≡◌ {A = ℕ} 0 1 = cc in omega arith)

gives : (cs : List Call) → Keeps cs → (s a b : List ℕ) (h : HandedSlot) → (take_outcome (after cs) s a b).reply ≡ took h → h.closing_counter ≡ last_closing (closed cs) (pos 0)
unfolding take_outcome
gives cs p s a b h e =
    took_is (take_refusal s a b (after cs).waits) (after cs) _ h e
    ∙ ap valid_closing p.last
    ∙ last_valid (closed cs) (pos 0) (λ w i. omega (arith, p.window w i, p.most)) (counter_valid 0 (omega arith))

-- ---- all calls

keeps : (cs : List Call) → Keeps cs
unfolding next_counter accepted_at by_zeros EachCall if_accepted outcome sample_outcome
keeps [] = none
keeps (sample x c ∷ cs) = go (sample_refusal (next_counter cs) x c) refl (keeps cs)
  where
    accepted : sample_refusal (next_counter cs) x c ≡ 0 → (p : Keeps cs) → Accepted p.count c → Keeps (sample x c ∷ cs)
    accepted e p a = rw a.is (heard x a.counter cs p (rw a.is at e) a.below a.least)

    go : (n : ℕ) → sample_refusal (next_counter cs) x c ≡ n → Keeps cs → Keeps (sample x c ∷ cs)
    go zero e p = accepted e p (accepted_at_lem (next_counter cs) x c p.count e p.expected)
    go (suc n) e p =
        let v : sample_refusal (valid_count (after cs).next) x c ≡ suc n = rw (valid_next (after cs).next p.count p.most p.next, ← p.expected) e in
        carried (sample x c) cs p (unless_quiet (sample_refusal (valid_count (after cs).next) x c) (after cs) [] (sampled (after cs) x c) (λ z. absurd (omega (arith, v, z))))
        (rw e) (rw e) (rw e) (p.each, λ z. absurd (omega (arith, e, z)))
keeps (CallList.take s a b ∷ cs) = let p = keeps cs in carried (CallList.take s a b) cs p (take_quiet (after cs) s a b) refl refl refl (p.each, gives cs p s a b)
keeps (follow other ∷ cs) = let p = keeps cs in carried (follow other) cs p (order_quiet (after cs) other) refl refl refl p.each

-- ════ THE LAW
pub closings : (cs : List Call) → Closings cs
closings cs = let p = keeps cs in record { each = p.each; own = p.own; missing = p.missing }
