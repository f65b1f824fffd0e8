-- DEMAND 3: what every list of calls keeps. The proofs are put together here; the claim is `Demand3` of specs/Account.antt.
use mathlib.Core.Path.{◌≡◌, refl, ap, sym, ◌∙◌}
use mathlib.Core.Bool.{Bool, true, false}
use mathlib.Core.List.{List, [], ◌∷◌}
use Prim.Native.Nat.{ℕ, zero, suc, ◌+◌, ◌*◌, ◌≤◌, ◌<◌}
use native.Mathlib.Omega.{arith}
use lib.ListN.{length}
use lib.IntN.{ℤ}
use lib.Dec.{ltb, leb, eqb}
use lib.Ieee.{Float}
use borrow.Author.Tests.{ltb-true, ltb-false, leb-true, leb-false, eqb-true, eqb-false, eq-eqb}
use Rattle.dsp_types.specs.declared.ComplexSample.{ComplexSample}
use Rattle.burst_finder.specs.Search.{find_sync}
use Rattle.listener.specs.Signal.{Signal, slot_timing, window_bits}
use Rattle.rx_slot.specs.Slots.{HandedSlot, valid_slot}
use Rattle.slot_receiver.specs.Receiver.{Receiver, valid_count}
use Rattle.slot_receiver.specs.Windows.{slot, Window}
use Rattle.slot_receiver.specs.Calls.{Reply, refused, done, took, Outcome, unless, sample_refusal, sampled, sample_outcome, take_refusal, taken, take_outcome, follow_refusal, followed, follow_outcome}
use Rattle.account.specs.CallList as CallList
use Rattle.account.specs.CallList.{Call, sample, follow, lent, outcome, after, answers, lent_after}
use Rattle.account.specs.Rules.{Account, Turn, between, stays, locks, hands, loses, type_of, slot_with, slot_in, next_misses}
use Rattle.account.specs.Tracked.{Tracked, signal_heard, slot_gap, error_after, search_turn, slot_turn, turn, tracked, account}
use Rattle.account.specs.Account as Claim
use Rattle.account.specs.Account.{Told, waits, changed, last_handed, told_take, heard, next_counter, Counted, account_of, expected, expected_all, filled_by, expected_lent, Gives, Reported, Demand3, Throughout}
use Rattle.account.proofs.Laws.{finds_holds, holds_finds, SyncPlace, sync_place, window_type}
use Rattle.account.proofs.Simulation.{gap_span, turn_no, turn_search, turn_slot}
use Rattle.account.proofs.Agreement.{Agree, agree, mode_is, take_leaves, heard_is, newer_cons, seen_sample}
use Rattle.account.proofs.Counts.{Lawful, fixed, lawful_start, lawful_turn}

-- ---- the account follows the rules
most_misses : (t m : ℕ) → m < 100 → next_misses t m ≤ 100
unfolding next_misses
most_misses zero m h = omega arith
most_misses (suc t) m h = omega arith

turned : (t : Tracked) (n : ℕ) (s : Signal) → Lawful t.account → Turn t.account n (window_bits s) (turn t n s).account
unfolding search_turn slot_turn
turned t n s lawful =
    go (eqb n t.account.due) refl t.account.locked refl (leb (find_sync (window_bits s)).dist 1) refl (ltb (next_misses (type_of (window_bits s)) t.account.misses) 100) refl
  where
    go : (b : Bool) → eqb n t.account.due ≡ b → (k : Bool) → t.account.locked ≡ k → (f : Bool) → leb (find_sync (window_bits s)).dist 1 ≡ f
        → (m : Bool) → ltb (next_misses (type_of (window_bits s)) t.account.misses) 100 ≡ m → Turn t.account n (window_bits s) (turn t n s).account
    go false e k g f h m i = rw (turn_no t n s e) (between (eqb-false n t.account.due e))
    go true e false g false h m i =
        rw (turn_search t n s false e g h) (stays (eqb-true n t.account.due e) g (λ holds. omega (arith, leb-false (find_sync (window_bits s)).dist 1 h, holds_finds s holds)))
    go true e false g true h m i =
        let l = leb-true (find_sync (window_bits s)).dist 1 h in
        let p : SyncPlace (find_sync (window_bits s)).pos = sync_place s in
        rw (turn_search t n s true e g h) (locks (4 + 2 * (find_sync (window_bits s)).pos) (eqb-true n t.account.due e) g (finds_holds s l) (omega (arith, p)) (omega (arith, p)))
    go true e true g f h true i =
        let y : Float = error_after (type_of (window_bits s)) t.error (slot_timing s) in
        rw (turn_slot t n s true e g i)
        (hands (slot_gap y) (eqb-true n t.account.due e) g (ltb-true (next_misses (type_of (window_bits s)) t.account.misses) 100 i) (gap_span y).0 (gap_span y).1)
    go true e true g f h false i =
        rw (turn_slot t n s false e g i)
        (loses (eqb-true n t.account.due e) g (omega (arith, ltb-false (next_misses (type_of (window_bits s)) t.account.misses) 100 i, most_misses (type_of (window_bits s)) t.account.misses (fixed t.account lawful g).few)))

rules : (xs : List ComplexSample) → Told xs × Lawful (tracked xs).account
unfolding Told account tracked
rules [] = (refl, lawful_start)
rules (x ∷ older) =
    let h = rules older in
    let t = turned (tracked older) (length older) (signal_heard (x ∷ older)) h.1 in
    ((h.0, t), lawful_turn t h.1)

-- ---- a refused call changes nothing: neither the receiver nor the slices that it lends
abbrev Unchanged : Receiver → List (List ℕ) → Outcome → Type 0
Unchanged r l o = (o.receiver ≡ r) × (o.lent ≡ l)

unless_kept : (k : ℕ) (r : Receiver) (l : List (List ℕ)) (o : Outcome) (n : ℕ) → (o.reply ≡ refused n → ⊥) → (unless k r l o).reply ≡ refused n → Unchanged r l (unless k r l o)
unfolding unless
unless_kept zero r l o n h e = absurd (h e)
unless_kept (suc k) r l o n h e = (refl, refl)

done_no : (n : ℕ) → ◌≡◌ {A = Reply HandedSlot} done (refused n) → ⊥
done_no n e = let z : ◌≡◌ {A = ℕ} 0 1 = cc in omega arith

took_no : (h : HandedSlot) (n : ℕ) → took h ≡ refused n → ⊥
took_no h n e = let z : ◌≡◌ {A = ℕ} 0 1 = cc in omega arith

kept : (r : Receiver) (c : Call) (n : ℕ) → (outcome r c).reply ≡ refused n → Unchanged r (lent c) (outcome r c)
unfolding outcome lent sample_outcome sampled take_outcome taken follow_outcome followed
kept r (sample x c) n e = unless_kept (sample_refusal (valid_count r.next) x c) r [] (sampled r x c) n (done_no n) e
kept r (CallList.take s a b) n e = unless_kept (take_refusal s a b r.waits) r (s ∷ a ∷ b ∷ []) (taken r (valid_slot r.slot)) n (took_no (valid_slot r.slot) n) e
kept r (follow other) n e = unless_kept (follow_refusal r.mode) r [] (followed r other) n (done_no n) e

-- ---- the lent slices are filled as the answers tell
unless_fills : (k : ℕ) (r : Receiver) (l : List (List ℕ)) (o : Outcome) → o.lent ≡ filled_by o.reply l → (unless k r l o).lent ≡ filled_by (unless k r l o).reply l
unfolding unless filled_by
unless_fills zero r l o e = e
unless_fills (suc k) r l o e = refl

call_fills : (r : Receiver) (c : Call) → (outcome r c).lent ≡ filled_by (outcome r c).reply (lent c)
unfolding outcome lent sample_outcome sampled take_outcome taken follow_outcome followed filled_by
call_fills r (sample x c) = unless_fills (sample_refusal (valid_count r.next) x c) r [] (sampled r x c) refl
call_fills r (CallList.take s a b) = unless_fills (take_refusal s a b r.waits) r (s ∷ a ∷ b ∷ []) (taken r (valid_slot r.slot)) refl
call_fills r (follow other) = unless_fills (follow_refusal r.mode) r [] (followed r other) refl

heads : {A : Type 0} {a b : A} {xs ys : List A} → ◌≡◌ {A = List A} (a ∷ xs) (b ∷ ys) → (a ≡ b) × (xs ≡ ys)
heads e = (cc, cc)

fills : (cs : List Call) → answers cs ≡ expected_all cs → lent_after cs ≡ expected_lent cs
unfolding answers expected_all lent_after expected_lent
fills [] e = refl
fills (c ∷ cs) e =
    let h = heads e in
    let one : (outcome (after cs) c).lent ≡ filled_by (expected c cs) (lent c) = call_fills (after cs) c ∙ ap (λ (a : Reply HandedSlot). filled_by a (lent c)) h.0 in
    λ i. one i ∷ fills cs h.1 i

-- ---- a locked window with a burst's bits
gives : (a : Account) (n : ℕ) (bits : List ℕ) (type : ℕ) (answer : Reply HandedSlot) → answer ≡ told_take true (waits (slot_in a n bits)) → type_of bits ≡ type → Gives a.number n type answer
unfolding Gives told_take slot_in slot_with type_of
gives a n bits type answer e f = rw e (refl, refl, f)

locked_window : (t : Tracked) (n : ℕ) (s : Signal) → eqb n t.account.due ≡ true → t.account.locked ≡ true
    → (turn t n s).account.windows ≡ record { counter = n; kind = slot (slot_in t.account n (window_bits s)) } ∷ t.account.windows
unfolding slot_turn
locked_window t n s e g = go (ltb (next_misses (type_of (window_bits s)) t.account.misses) 100) refl
  where
    go : (b : Bool) → ltb (next_misses (type_of (window_bits s)) t.account.misses) 100 ≡ b
        → (turn t n s).account.windows ≡ record { counter = n; kind = slot (slot_in t.account n (window_bits s)) } ∷ t.account.windows
    go true i = rw (turn_slot t n s true e g i)
    go false i = rw (turn_slot t n s false e g i)

windows_is : (x : ComplexSample) (older : List ComplexSample) → (tracked older).account.locked ≡ true → (tracked older).account.due ≡ length older
    → (tracked (x ∷ older)).account.windows
    ≡ record { counter = length older; kind = slot (slot_in (tracked older).account (length older) (window_bits (signal_heard (x ∷ older)))) } ∷ (tracked older).account.windows
unfolding tracked
windows_is x older u d = locked_window (tracked older) (length older) (signal_heard (x ∷ older)) (eq-eqb (length older) (tracked older).account.due (sym d)) u

waiting_is : (x : ComplexSample) (c : ℤ) (cs : List Call) → Agree cs → sample_refusal (next_counter cs) x c ≡ 0 → (tracked (heard cs)).account.locked ≡ true
    → (tracked (heard cs)).account.due ≡ length (heard cs)
    → Claim.waiting (sample x c ∷ cs) ≡ waits (slot_in (tracked (heard cs)).account (length (heard cs)) (window_bits (signal_heard (x ∷ heard cs))))
unfolding Claim.waiting account_of account last_handed changed
waiting_is x c cs g z u d =
    let w : Window = record { counter = length (heard cs); kind = slot (slot_in (tracked (heard cs)).account (length (heard cs)) (window_bits (signal_heard (x ∷ heard cs)))) } in
    rw (heard_is x c cs z, seen_sample x c cs, windows_is x (heard cs) u d, newer_cons (Claim.seen cs) w (tracked (heard cs)).account.windows g.seen)

reported_sample : (x : ComplexSample) (c : ℤ) (cs : List Call) → Agree cs → Agree (sample x c ∷ cs) → Reported (sample x c ∷ cs)
unfolding Reported account_of account
reported_sample x c cs g h z u d type burst s a b f =
    let bits : List ℕ = window_bits (signal_heard (x ∷ heard cs)) in
    let k : Account = (tracked (heard cs)).account in
    gives k (length (heard cs)) bits type (outcome (after (sample x c ∷ cs)) (CallList.take s a b)).reply
    (take_leaves (after (sample x c ∷ cs)) s a b true (waits (slot_in k (length (heard cs)) bits)) f h.within (rw (waiting_is x c cs g z u d) at h.waiting)).answer
    (window_type (signal_heard (x ∷ heard cs)) burst)

reported : (cs : List Call) → Counted cs → Reported cs
unfolding Reported Counted
reported [] u = tt
reported (sample x c ∷ cs) u = reported_sample x c cs (agree cs u.0) (agree (sample x c ∷ cs) u)
reported (CallList.take s a b ∷ cs) u = tt
reported (follow other ∷ cs) u = tt

-- ════ the theorem
pub demand3 : (cs : List Call) → Counted cs → Demand3 cs
unfolding account_of account
demand3 cs u =
    let g : Agree cs = agree cs u in
    let r = rules (heard cs) in
    record {
      rules = r.0;
      windows = g.windows;
      mode = mode_is (after cs).mode (after cs).clock (after cs).lock (length (heard cs)) (tracked (heard cs)) g.timed;
      answered = g.answered;
      fills = fills cs g.answered;
      unchanged = kept (after cs);
      returns = r.1.bounds.held;
      soon = r.1.bounds.soon;
      four = r.1.bounds.four;
      two = r.1.bounds.two;
      reported = reported cs u;
    }

-- ... and at every moment on the way
earlier : (c : Call) (cs : List Call) → Counted (c ∷ cs) → Counted cs
unfolding Counted
earlier (sample x c) cs u = u.0
earlier (CallList.take s a b) cs u = u
earlier (follow other) cs u = u

pub throughout : (cs : List Call) → Counted cs → Throughout cs
unfolding Throughout
throughout [] u = demand3 [] u
throughout (c ∷ cs) u = (demand3 (c ∷ cs) u, throughout cs (earlier c cs u))
