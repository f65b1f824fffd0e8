-- A whole list of calls: after each of them the receiver agrees with the account, since every call keeps the invariant.
use mathlib.Core.Path.{◌≡◌, refl, ap, sym, ◌∙◌, subst}
use mathlib.Core.Bool.{Bool, true, false, cond, not, ◌||◌}
use mathlib.Core.List.{List, [], ◌∷◌, ◌++◌, append-nil}
use Prim.Native.Nat.{ℕ, zero, suc, ◌+◌, ◌-◌, ◌≤◌, ◌<◌}
use native.Mathlib.Omega.{arith}
use lib.ListN.{length, length-append}
use lib.IntN.{ℤ, pos, ◌+ℤ◌, ◌-ℤ◌}
use Rattle.dsp_types.specs.declared.ComplexSample.{ComplexSample}
use Rattle.dsp_types.specs.Ints.{up}
use Rattle.dsp_types.specs.Refusals.{wrong_length, counters}
use Rattle.listener.specs.Signal.{Signal, hear}
use Rattle.slot_receiver.specs.Receiver as R
use Rattle.slot_receiver.specs.declared.Mode.{Mode}
use Rattle.slot_receiver.specs.declared.Mode.TheVariants.{DlUnsynchronized}
use Rattle.slot_receiver.specs.Receiver.{Clock, Lock, Receiver, with_waits, with_next, new, process_sample, missing, feed_zeros, accept}
use Rattle.rx_slot.specs.Slots.{HandedSlot, no_slot}
use Rattle.slot_receiver.specs.Windows.{Window, window_of, zeros_windows, accept_windows}
use Rattle.slot_receiver.specs.Calls.{Reply, refused, done, took, unless, sample_refusal, sampled, sample_outcome, take_refusal, taken, take_outcome, follow_refusal, follow_outcome}
use Rattle.account.specs.CallList as CallList
use Rattle.account.specs.CallList.{Call, sample, follow, outcome, after, answers, closed}
use Rattle.account.specs.Tracked.{Tracked, signal_heard, tracked, turn, account}
use Rattle.account.specs.Account
use Rattle.account.specs.Account.{Waiting, nothing, waits, changed, last_handed, newer, sized, seen_if, seen, answered, told_take, locked_mode, account_of, heard, if_accepted, next_counter, Counted, expected, expected_all}
use Rattle.account.proofs.Times.{none_missing}
use Rattle.account.proofs.Simulation.{InStep, searching, fresh, steady, Waits, Stepped, stepped, over}
use Rattle.slot_receiver.proofs.Accepted.{Accepted, accepted_at_lem}
use Rattle.account.proofs.Bounds.{InBounds, valid_count_lem, valid_same, slot_same, sample_within, taken_within, new_within}

-- ---- windows
pub newer_cons : (k : ℕ) (w : Window) (ws : List Window) → k ≤ length ws → newer k (w ∷ ws) ≡ w ∷ newer k ws
unfolding newer
newer_cons k w ws h = rw (less_suc (length ws))
  where
    less_suc : (m : ℕ) → k ≤ m → suc m - k ≡ suc (m - k)
    less_suc m h = omega arith

newer_none : (ws : List Window) → newer (length ws) ws ≡ []
unfolding newer
newer_none ws = let e : length ws - length ws ≡ 0 = omega arith in rw e

waits_over : (k : ℕ) (w ws : List Window) → k ≤ length ws → last_handed (newer k (w ++ ws)) ≡ over w (last_handed (newer k ws))
unfolding last_handed over
waits_over k [] ws h = refl
waits_over k (v ∷ w) ws h = rw (newer_cons k v (w ++ ws) (omega (arith, h, length-append w ws))) (ap (changed v.kind) (waits_over k w ws h))

-- ---- one call
pub record Leaves (r : Receiver) (c : Call) (r' : Receiver) (w : List Window) (a : Reply HandedSlot) : Type 0 where
  pub after : (outcome r c).receiver ≡ r'
  pub windows : (outcome r c).windows ≡ w
  pub answer : (outcome r c).reply ≡ a

sample_refuses : (r : Receiver) (x : ComplexSample) (c : ℤ) (k : ℕ) → InBounds r → sample_refusal r.next x c ≡ suc k → Leaves r (sample x c) r [] (refused (suc k))
unfolding outcome sample_outcome unless
sample_refuses r x c k w e = let v = valid_count_lem r w in record { after = rw (v, e); windows = rw (v, e); answer = rw (v, e) }

sample_accepts : (r : Receiver) (x : ComplexSample) (c : ℤ) (n : ℕ) → InBounds r → sample_refusal r.next x c ≡ 0 → r.next ≡ pos n → c ≡ pos n
    → Leaves r (sample x c) (with_next (process_sample r x (pos n)) (pos n +ℤ pos 1)) (window_of r x (pos n) ++ []) done
unfolding outcome sample_outcome unless sampled accept accept_windows R.zeros_before feed_zeros zeros_windows
sample_accepts r x c n w e p q =
    let m : missing (c -ℤ r.next) ≡ 0 = rw (p, q) (none_missing n) in
    let v = valid_count_lem r w in
    record { after = rw (v, e, m, q); windows = rw (v, e, m, q); answer = rw (v, e) }

follow_refused : (r other : Receiver) (b : Bool) → r.mode ≡ locked_mode b → Leaves r (follow other) r [] (refused 13)
unfolding outcome follow_outcome follow_refusal unless locked_mode
follow_refused r other true e = record { after = rw e; windows = rw e; answer = rw e }
follow_refused r other false e = record { after = rw e; windows = rw e; answer = rw e }

-- a take leaves the slot or empties it
unfoldable pub untaken : Bool → Waiting → Receiver → Receiver
untaken false v r = r
untaken true nothing r = r
untaken true (waits h) r = with_waits r false

take_refusal_lem : (s a b : List ℕ) (available : Bool) → take_refusal s a b available ≡ cond (sized s a b) (cond available 0 11) 3
unfolding take_refusal sized
take_refusal_lem s a b available = go (wrong_length 510 s || (wrong_length 254 a || wrong_length 254 b))
  where
    go : (w : Bool) → ◌≡◌ {A = ℕ} (cond w 3 (cond available 0 11)) (cond (not w) (cond available 0 11) 3)
    go true = refl
    go false = refl

take_outcome_lem : (r : Receiver) (s a b : List ℕ) (d : Bool) → sized s a b ≡ d → InBounds r
    → take_outcome r s a b ≡ unless (cond d (cond r.waits 0 11) 3) r (s ∷ a ∷ b ∷ []) (taken r r.slot)
unfolding take_outcome
take_outcome_lem r s a b d e w = rw (take_refusal_lem s a b r.waits, e, slot_same r w)

pub take_leaves : (r : Receiver) (s a b : List ℕ) (d : Bool) (v : Waiting) → sized s a b ≡ d → InBounds r → Waits r.waits r.slot v
    → Leaves r (CallList.take s a b) (untaken d v r) [] (told_take d v)
unfolding outcome unless taken untaken told_take
take_leaves r s a b false v e i w =
    let o = take_outcome_lem r s a b false e i in
    record { after = rw o; windows = rw o; answer = rw o }
take_leaves r s a b true nothing e i w =
    let o = take_outcome_lem r s a b true e i in
    let n = w.stands in
    record { after = rw (o, n); windows = rw (o, n); answer = rw (o, n) }
take_leaves r s a b true (waits h) e i w =
    let o = take_outcome_lem r s a b true e i in
    let n = w.stands.0 in
    record { after = rw (o, n); windows = rw (o, n); answer = rw (o, n) (ap took w.stands.1) }

-- ---- the invariant of a list of calls
pub record Agree (cs : List Call) : Type 0 where
  pub within : InBounds (after cs)
  pub next : (after cs).next ≡ next_counter cs
  pub counted : next_counter cs ≡ pos (length (heard cs))
  pub signal : (after cs).signal ≡ signal_heard (heard cs)
  pub timed : InStep (after cs).mode (after cs).clock (after cs).lock (length (heard cs)) (tracked (heard cs))
  pub waiting : Waits (after cs).waits (after cs).slot (Account.waiting cs)
  pub windows : closed cs ≡ (account_of cs).windows
  pub seen : Account.seen cs ≤ length (account_of cs).windows
  pub answered : answers cs ≡ expected_all cs

agree_new : Agree []
unfolding after new no_slot R.set_slot R.slot_ready_from_begin next_counter heard signal_heard tracked Account.waiting Account.seen account_of account last_handed newer closed answers expected_all
agree_new = record {
  within = new_within DlUnsynchronized;
  next = refl;
  counted = refl;
  signal = refl;
  timed = searching (record { mode = refl; unlocked = refl; above_zero = refl; due = refl; least = omega arith; most = omega arith; begun = omega arith });
  waiting = record { stands = refl; whole = record { subslot1 = refl; subslot2 = refl } };
  windows = refl;
  seen = omega arith;
  answered = refl;
}

-- the mode is the account's
pub mode_is : (m : Mode) (c : Clock) (l : Lock) (n : ℕ) (t : Tracked) → InStep m c l n t → m ≡ locked_mode t.account.locked
unfolding locked_mode
mode_is m c l n t (searching s) = s.mode ∙ rw s.unlocked
mode_is m c l n t (fresh k s) = k.mode ∙ rw k.locked
mode_is m c l n t (steady k s) = k.mode ∙ rw k.locked

-- the clauses of the recursive functions, as equations: `rw` looks into no recursive call that a clause has left
module _ (c : Call) (cs : List Call) {r' : Receiver} {w : List Window} {a : Reply HandedSlot} (o : Leaves (after cs) c r' w a) where
  after_is : after (c ∷ cs) ≡ r'
  unfolding after
  after_is = o.after

  closed_is : closed (c ∷ cs) ≡ w ++ closed cs
  unfolding closed
  closed_is = ap (λ (l : List Window). l ++ closed cs) o.windows

  answered_is : a ≡ expected c cs → answers cs ≡ expected_all cs → answers (c ∷ cs) ≡ expected_all (c ∷ cs)
  unfolding answers expected_all
  answered_is p q = λ i. (o.answer ∙ p) i ∷ q i

  -- a call that leaves the account as it is, and the receiver's timing
  carry : Agree cs → heard (c ∷ cs) ≡ heard cs → next_counter (c ∷ cs) ≡ next_counter cs → w ≡ []
      → InBounds r' → r'.next ≡ (after cs).next → r'.signal ≡ (after cs).signal
      → InStep r'.mode r'.clock r'.lock (length (heard cs)) (tracked (heard cs))
      → Waits r'.waits r'.slot (last_handed (newer (Account.seen (c ∷ cs)) (account_of cs).windows))
      → Account.seen (c ∷ cs) ≤ length (account_of cs).windows
      → a ≡ expected c cs
      → Agree (c ∷ cs)
  unfolding account_of Account.waiting
  carry g h m e b n l t v s y =
      record {
        within = rw after_is b;
        next = rw (after_is, m) (n ∙ g.next);
        counted = rw (m, h) g.counted;
        signal = rw (after_is, h) (l ∙ g.signal);
        timed = rw (after_is, h) t;
        waiting = rw (after_is, h) v;
        windows = closed_is ∙ rw (h, e) g.windows;
        seen = rw h s;
        answered = answered_is y g.answered;
      }

agree_follow : (other : Receiver) (cs : List Call) → Agree cs → Agree (follow other ∷ cs)
unfolding next_counter heard Account.waiting Account.seen expected
agree_follow other cs g =
    carry (follow other) cs
    (follow_refused (after cs) other (tracked (heard cs)).account.locked (mode_is (after cs).mode (after cs).clock (after cs).lock (length (heard cs)) (tracked (heard cs)) g.timed))
    g refl refl refl g.within refl refl g.timed g.waiting g.seen refl

agree_refused : (x : ComplexSample) (c : ℤ) (cs : List Call) (k : ℕ) → sample_refusal (next_counter cs) x c ≡ suc k → Agree cs → Agree (sample x c ∷ cs)
unfolding next_counter heard if_accepted Account.waiting Account.seen expected answered
agree_refused x c cs k e g =
    carry (sample x c) cs (sample_refuses (after cs) x c k g.within (rw g.next e)) g (rw e) (rw e) refl g.within refl refl g.timed g.waiting g.seen (rw e)

-- a take
module _ (s a b : List ℕ) (cs : List Call) (d : Bool) (v : Waiting) (e : sized s a b ≡ d) (f : Account.waiting cs ≡ v) where
  seen_is : Account.seen (CallList.take s a b ∷ cs) ≡ seen_if d v (length (account_of cs).windows) (Account.seen cs)
  unfolding Account.seen Account.waiting
  seen_is = rw (e, f)

  expected_take : told_take d v ≡ expected (CallList.take s a b) cs
  unfolding expected
  expected_take = rw (e, f)

agree_take : (s a b : List ℕ) (cs : List Call) → Agree cs → Agree (CallList.take s a b ∷ cs)
unfolding next_counter heard seen_if untaken with_waits Account.waiting last_handed
agree_take s a b cs g = go (sized s a b) refl (Account.waiting cs) refl
  where
    r : Receiver
    r = after cs

    ws : List Window
    ws = (account_of cs).windows

    go : (d : Bool) → sized s a b ≡ d → (v : Waiting) → Account.waiting cs ≡ v → Agree (CallList.take s a b ∷ cs)
    go false e v f =
        let n = seen_is s a b cs false v e f in
        carry (CallList.take s a b) cs (take_leaves r s a b false v e g.within (rw f at g.waiting)) g refl refl refl g.within refl refl g.timed (rw n g.waiting) (rw n g.seen) (expected_take s a b cs false v e f)
    go true e nothing f =
        let n = seen_is s a b cs true nothing e f in
        carry (CallList.take s a b) cs (take_leaves r s a b true nothing e g.within (rw f at g.waiting)) g refl refl refl g.within refl refl g.timed (rw n g.waiting) (rw n g.seen) (expected_take s a b cs true nothing e f)
    go true e (waits h) f =
        let n = seen_is s a b cs true (waits h) e f in
        carry (CallList.take s a b) cs (take_leaves r s a b true (waits h) e g.within (rw f at g.waiting)) g refl refl refl (taken_within r g.within) refl refl g.timed
        (rw (n, newer_none ws) (record { stands = refl; whole = g.waiting.whole })) (rw n (omega arith)) (expected_take s a b cs true (waits h) e f)

-- an accepted sample
pub heard_is : (x : ComplexSample) (c : ℤ) (cs : List Call) → sample_refusal (next_counter cs) x c ≡ 0 → heard (sample x c ∷ cs) ≡ x ∷ heard cs
unfolding heard if_accepted
heard_is x c cs e = rw e

next_is : (x : ComplexSample) (c : ℤ) (cs : List Call) (n : ℕ) → sample_refusal (next_counter cs) x c ≡ 0 → c ≡ pos n → next_counter (sample x c ∷ cs) ≡ pos (suc n)
unfolding next_counter if_accepted
next_is x c cs n e q = let h : n + 1 ≡ suc n = omega arith in rw (e, q) (ap pos h)

expected_done : (x : ComplexSample) (c : ℤ) (cs : List Call) → sample_refusal (next_counter cs) x c ≡ 0 → done ≡ expected (sample x c) cs
unfolding expected answered if_accepted
expected_done x c cs e = rw e

pub seen_sample : (x : ComplexSample) (c : ℤ) (cs : List Call) → Account.seen (sample x c ∷ cs) ≡ Account.seen cs
unfolding Account.seen
seen_sample x c cs = refl

after_within : (x : ComplexSample) (c : ℤ) (cs : List Call) → InBounds (after cs) → InBounds (after (sample x c ∷ cs))
unfolding after outcome
after_within x c cs w = sample_within (after cs) x c w

accepts : (x : ComplexSample) (c : ℤ) (cs : List Call) (r' : Receiver) (w : List Window) → Agree cs
    → Leaves (after cs) (sample x c) (with_next r' (pos (length (heard cs)) +ℤ pos 1)) (w ++ []) done
    → sample_refusal (next_counter cs) x c ≡ 0 → c ≡ pos (length (heard cs))
    → Stepped (after cs) r' w (length (heard cs)) (signal_heard (x ∷ heard cs)) (tracked (heard cs)) (tracked (x ∷ heard cs))
    → Agree (sample x c ∷ cs)
unfolding account_of account Account.waiting with_next
accepts x c cs r' w g o z q st =
    let A = after_is (sample x c) cs o in
    let H = heard_is x c cs z in
    let N = next_is x c cs (length (heard cs)) z q in
    let S = seen_sample x c cs in
    let n : ℕ = length (heard cs) in
    let one : n + 1 ≡ suc n = omega arith in
    let ws : List Window = (tracked (heard cs)).account.windows in
    let W : last_handed (newer (Account.seen cs) (tracked (x ∷ heard cs)).account.windows) ≡ over w (last_handed (newer (Account.seen cs) ws)) = rw (← st.windows) (waits_over (Account.seen cs) w ws g.seen) in
    record {
      within = within_after;
      next = rw (A, N) (ap pos one);
      counted = rw (N, H);
      signal = rw (A, H) st.signal;
      timed = rw (A, H) st.timed;
      waiting = rw (A, H, S, W) (st.waiting (last_handed (newer (Account.seen cs) ws)) g.waiting);
      windows = closed_is (sample x c) cs o ∙ rw (H, append-nil w) (ap (λ (l : List Window). w ++ l) g.windows ∙ st.windows);
      seen = rw (S, H) (omega (arith, g.seen, ap length st.windows, length-append w ws));
      answered = answered_is (sample x c) cs o (expected_done x c cs z) g.answered;
    }
  where
    within_after : InBounds (after (sample x c ∷ cs))
    within_after = after_within x c cs g.within

agree_accepted : (x : ComplexSample) (c : ℤ) (cs : List Call) → sample_refusal (next_counter cs) x c ≡ 0 → c ≡ pos (length (heard cs)) → Agree cs → Agree (sample x c ∷ cs)
unfolding tracked signal_heard
agree_accepted x c cs e q g =
    let r : Receiver = after cs in
    let n : ℕ = length (heard cs) in
    let a : Accepted n c = accepted_at_lem (next_counter cs) x c n e g.counted in
    let few : n < counters = omega (arith, a.below, ap up (sym a.is ∙ q)) in
    accepts x c cs (process_sample r x (pos n)) (window_of r x (pos n)) g (sample_accepts r x c n g.within (rw g.next e) (g.next ∙ g.counted) q) e q
    (subst (λ (s : Signal). Stepped r (process_sample r x (pos n)) (window_of r x (pos n)) n s (tracked (heard cs)) (turn (tracked (heard cs)) n s))
    (ap (λ (s : Signal). hear s x) g.signal) (stepped r x n (tracked (heard cs)) (valid_same r g.within) g.timed g.waiting.whole few))

-- ---- THE SIMULATION: after every list of calls the receiver agrees with the account
pub agree : (cs : List Call) → Counted cs → Agree cs
unfolding Counted
agree [] u = agree_new
agree (sample x c ∷ cs) u = go (sample_refusal (next_counter cs) x c) refl (agree cs u.0)
  where
    go : (k : ℕ) → sample_refusal (next_counter cs) x c ≡ k → Agree cs → Agree (sample x c ∷ cs)
    go zero e g = agree_accepted x c cs e (u.1 e) g
    go (suc k) e g = agree_refused x c cs k e g
agree (CallList.take s a b ∷ cs) u = agree_take s a b cs (agree cs u)
agree (follow other ∷ cs) u = agree_follow other cs (agree cs u)
