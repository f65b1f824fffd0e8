-- What follows from the account's rules alone: the hundred misses, the 102,100 samples, four windows and two slots. Each turn keeps
-- how many windows and slots lie close before the next closing.
use mathlib.Core.Path.{◌≡◌, refl, ap, sym, ◌∙◌}
use mathlib.Core.Bool.{Bool, true, false, true≢false, cond}
use mathlib.Core.List.{List, [], ◌∷◌}
use mathlib.Core.Logic.{◌⊎◌, inl, inr}
use Prim.Native.Nat.{ℕ, zero, suc, ◌+◌, ◌*◌, ◌≤◌, ◌<◌}
use native.Mathlib.Omega.{arith}
use native.Mathlib.Decide.{dec_le}
use lib.Dec.{ltb, leb}
use borrow.Author.Tests.{ltb-true, leb-true, le-leb, lt-leb, lt-ltb, le-ltb}
use Rattle.rx_slot.specs.Slots.{HandedSlot}
use Rattle.slot_receiver.specs.Windows.{Kind, searched, lock, slot, Window}
use Rattle.account.specs.Rules.{Account, start, type_of, slot_with, slot_in, next_misses, Turn, between, stays, locks, hands, loses}
use Rattle.account.specs.Account as Claim
use Rattle.account.specs.Account.{run_on, typed_or, trained_on, held_on, Soon, if_slot, inside, closed_in, handed_in}

-- ---- the windows that closed at most 1,020 samples before t
unfoldable pub near : ℕ → ℕ → ℕ
near t n = cond (leb t (n + 1020)) 1 0

unfoldable pub recent : ℕ → List Window → ℕ
recent t [] = 0
recent t (w ∷ ws) = near t w.counter + recent t ws

unfoldable pub recent_slots : ℕ → List Window → ℕ
recent_slots t [] = 0
recent_slots t (w ∷ ws) = if_slot w.kind (near t w.counter) + recent_slots t ws

near_one : (t n : ℕ) → near t n ≤ 1
unfolding near
near_one t n = go (leb t (n + 1020))
  where
    go : (b : Bool) → cond b 1 0 ≤ 1
    go true = omega arith
    go false = omega arith

near_yes : (t n : ℕ) → t ≤ n + 1020 → near t n ≡ 1
unfolding near
near_yes t n h = rw (le-leb t (n + 1020) h)

near_no : (t n : ℕ) → n + 1020 < t → near t n ≡ 0
unfolding near
near_no t n h = rw (lt-leb t (n + 1020) h)

near_down : (s t n : ℕ) → t ≤ s → near s n ≤ near t n
near_down s t n h =
    elim (dec_le t (n + 1020)) [
      | yes k ↦ omega (arith, near_yes t n k, near_one s n)
      | no k ↦ omega (arith, near_no s n (omega (arith, k, h)))
    ]

slot_le : (k : Kind) (m n : ℕ) → m ≤ n → if_slot k m ≤ if_slot k n
unfolding if_slot
slot_le searched m n h = omega arith
slot_le lock m n h = omega arith
slot_le (slot s) m n h = h

slot_most : (k : Kind) (m : ℕ) → if_slot k m ≤ m
unfolding if_slot
slot_most searched m = omega arith
slot_most lock m = omega arith
slot_most (slot s) m = omega arith

recent_down : (s t : ℕ) (ws : List Window) → t ≤ s → recent s ws ≤ recent t ws
unfolding recent
recent_down s t [] h = omega arith
recent_down s t (w ∷ ws) h = omega (arith, near_down s t w.counter h, recent_down s t ws h)

slots_down : (s t : ℕ) (ws : List Window) → t ≤ s → recent_slots s ws ≤ recent_slots t ws
unfolding recent_slots
slots_down s t [] h = omega arith
slots_down s t (w ∷ ws) h = omega (arith, slot_le w.kind (near s w.counter) (near t w.counter) (near_down s t w.counter h), slots_down s t ws h)

slots_most : (t : ℕ) (ws : List Window) → recent_slots t ws ≤ recent t ws
unfolding recent recent_slots
slots_most t [] = omega arith
slots_most t (w ∷ ws) = omega (arith, slot_most w.kind (near t w.counter), slots_most t ws)

-- ---- from the recent windows to the 1,021 counters from k on
inside_one : (k n : ℕ) → inside k n ≤ 1
unfolding inside
inside_one k n = go (leb k n) (ltb n (k + 1021))
  where
    go : (a b : Bool) → cond a (cond b 1 0) 0 ≤ 1
    go true true = omega arith
    go true false = omega arith
    go false b = omega arith

inside_zero : (k n : ℕ) → (k ≤ n → n < k + 1021 → ⊥) → inside k n ≡ 0
unfolding inside
inside_zero k n h = go (leb k n) refl (ltb n (k + 1021)) refl
  where
    go : (a : Bool) → leb k n ≡ a → (b : Bool) → ltb n (k + 1021) ≡ b → ◌≡◌ {A = ℕ} (cond a (cond b 1 0) 0) 0
    go true p true q = absurd (h (leb-true k n p) (ltb-true n (k + 1021) q))
    go true p false q = refl
    go false p b q = refl

inside_near : (k d n : ℕ) → k ≤ d → d < k + 1021 → inside k n ≤ near d n
inside_near k d n g h =
    elim (dec_le d (n + 1020)) [
      | yes l ↦ omega (arith, near_yes d n l, inside_one k n)
      | no l ↦ omega (arith, inside_zero k n (λ p q. omega (arith, l, p, h)))
    ]

closed_recent : (k d : ℕ) (ws : List Window) → k ≤ d → d < k + 1021 → closed_in k ws ≤ recent d ws
unfolding closed_in recent
closed_recent k d [] g h = omega arith
closed_recent k d (w ∷ ws) g h = omega (arith, inside_near k d w.counter g h, closed_recent k d ws g h)

handed_recent : (k d : ℕ) (ws : List Window) → k ≤ d → d < k + 1021 → handed_in k ws ≤ recent_slots d ws
unfolding handed_in recent_slots
handed_recent k d [] g h = omega arith
handed_recent k d (w ∷ ws) g h = omega (arith, slot_le w.kind (inside k w.counter) (near d w.counter) (inside_near k d w.counter g h), handed_recent k d ws g h)

-- one window more, at d
more_four : (k d : ℕ) (j : Kind) (ws : List Window) → closed_in k ws ≤ 4 → recent d ws ≤ 3 → closed_in k (record { counter = d; kind = j } ∷ ws) ≤ 4
unfolding closed_in
more_four k d j ws f r =
    elim (dec_le k d) [
      | yes p ↦
          elim (dec_le (suc d) (k + 1021)) [
            | yes q ↦ omega (arith, inside_one k d, closed_recent k d ws p q, r)
            | no q ↦ omega (arith, inside_zero k d (λ a b. q b), f)
          ]
      | no p ↦ omega (arith, inside_zero k d (λ a b. p a), f)
    ]

more_two : (k d : ℕ) (j : Kind) (ws : List Window) → handed_in k ws ≤ 2 → recent_slots d ws ≤ 1 → handed_in k (record { counter = d; kind = j } ∷ ws) ≤ 2
unfolding handed_in
more_two k d j ws f r =
    let m = slot_most j (inside k d) in
    elim (dec_le k d) [
      | yes p ↦
          elim (dec_le (suc d) (k + 1021)) [
            | yes q ↦ omega (arith, m, inside_one k d, handed_recent k d ws p q, r)
            | no q ↦ omega (arith, m, inside_zero k d (λ a b. q b), f)
          ]
      | no p ↦ omega (arith, m, inside_zero k d (λ a b. p a), f)
    ]

-- ---- the invariant of the account
pub record Bounds (a : Account) : Type 0 where
  pub held : a.locked ≡ Claim.held a.windows
  pub soon : Soon a.windows
  pub four : (k : ℕ) → closed_in k a.windows ≤ 4
  pub two : (k : ℕ) → handed_in k a.windows ≤ 2
  pub past : recent (a.due + 1017) a.windows ≡ 0
  pub three : recent a.due a.windows ≤ 3
  pub slots : recent_slots a.due a.windows ≤ 1

pub record Seeking (a : Account) : Type 0 where
  pub unlocked : a.locked ≡ false
  pub two_back : recent a.due a.windows ≤ 2
  pub one_back : recent (a.due + 400) a.windows ≤ 1
  pub none_back : recent (a.due + 621) a.windows ≡ 0

pub record Fixed (a : Account) : Type 0 where
  pub locked : a.locked ≡ true
  pub few : a.misses < 100
  pub run : a.misses ≡ Claim.run a.windows
  pub trained : a.due ≤ Claim.trained a.windows + 1021 * (a.misses + 1)
  pub later : 1 ≤ a.misses → recent (a.due + 2) a.windows ≡ 0

pub record Lawful (a : Account) : Type 0 where
  pub bounds : Bounds a
  pub state : Seeking a ⊎ Fixed a

seeking : (a : Account) → Lawful a → a.locked ≡ false → Seeking a
seeking a l e = elim l.state [ inl s ↦ s | inr f ↦ absurd (true≢false (sym f.locked ∙ e)) ]

pub fixed : (a : Account) → Lawful a → a.locked ≡ true → Fixed a
fixed a l e = elim l.state [ inl s ↦ absurd (true≢false (sym e ∙ s.unlocked)) | inr f ↦ f ]

pub lawful_start : Lawful start
unfolding Claim.held Soon closed_in handed_in recent recent_slots
lawful_start = record {
  bounds = record { held = refl; soon = tt; four = λ k. omega arith; two = λ k. omega arith; past = refl; three = omega arith; slots = omega arith };
  state = inl (record { unlocked = refl; two_back = omega arith; one_back = omega arith; none_back = refl });
}

-- a search window, and a lock
lawful_stays : (a : Account) (n : ℕ) → Lawful a → n ≡ a.due → a.locked ≡ false
    → Lawful (record { due = n + 400; locked = false; number = a.number; misses = a.misses; windows = record { counter = n; kind = searched } ∷ a.windows })
unfolding Claim.held held_on Claim.run run_on Soon recent recent_slots if_slot
lawful_stays a n l eq e =
    let s : Seeking a = seeking a l e in
    let b : Bounds a = l.bounds in
    let ws : List Window = a.windows in
    record {
      bounds = record {
        held = refl;
        soon = λ h. absurd (omega (arith, h));
        four = λ k. more_four k n searched ws (b.four k) (omega (arith, b.three, recent_down n a.due ws (omega arith)));
        two = λ k. more_two k n searched ws (b.two k) (omega (arith, b.slots, slots_down n a.due ws (omega arith)));
        past = omega (arith, near_no (n + 400 + 1017) n (omega arith), recent_down (n + 400 + 1017) (a.due + 1017) ws (omega arith), b.past);
        three = omega (arith, near_one (n + 400) n, recent_down (n + 400) (a.due + 400) ws (omega arith), s.one_back);
        slots = omega (arith, slots_down (n + 400) a.due ws (omega arith), b.slots);
      };
      state = inl (record {
        unlocked = refl;
        two_back = omega (arith, near_one (n + 400) n, recent_down (n + 400) (a.due + 400) ws (omega arith), s.one_back);
        one_back = omega (arith, near_one (n + 400 + 400) n, recent_down (n + 400 + 400) (a.due + 621) ws (omega arith), s.none_back);
        none_back = omega (arith, near_no (n + 400 + 621) n (omega arith), recent_down (n + 400 + 621) (a.due + 621) ws (omega arith), s.none_back);
      });
    }

lawful_locks : (a : Account) (n gap : ℕ) → Lawful a → n ≡ a.due → a.locked ≡ false → 4 ≤ gap → gap ≤ 516
    → Lawful (record { due = n + gap; locked = true; number = 1; misses = 0; windows = record { counter = n; kind = lock } ∷ a.windows })
unfolding Claim.held held_on Claim.run run_on Claim.trained trained_on Soon recent recent_slots if_slot
lawful_locks a n gap l eq e low high =
    let s : Seeking a = seeking a l e in
    let b : Bounds a = l.bounds in
    let ws : List Window = a.windows in
    record {
      bounds = record {
        held = refl;
        soon = λ h. absurd (omega (arith, h));
        four = λ k. more_four k n lock ws (b.four k) (omega (arith, b.three, recent_down n a.due ws (omega arith)));
        two = λ k. more_two k n lock ws (b.two k) (omega (arith, b.slots, slots_down n a.due ws (omega arith)));
        past = omega (arith, near_no (n + gap + 1017) n (omega arith), recent_down (n + gap + 1017) (a.due + 1017) ws (omega arith), b.past);
        three = omega (arith, near_one (n + gap) n, recent_down (n + gap) a.due ws (omega arith), s.two_back);
        slots = omega (arith, slots_down (n + gap) a.due ws (omega arith), b.slots);
      };
      state = inr (record { locked = refl; few = omega arith; run = refl; trained = omega arith; later = λ h. absurd (omega (arith, h)) });
    }

-- the run and the last training sequence with one slot more, of the type t
run_slot : (v : HandedSlot) (m n : ℕ) (ws : List Window) → m ≡ Claim.run ws → next_misses v.full.type m ≡ Claim.run (record { counter = n; kind = slot v } ∷ ws)
unfolding Claim.run run_on
run_slot v m n ws e = ap (next_misses v.full.type) e

trained_by : (t m n gap k : ℕ) → n ≤ k + 1021 * (m + 1) → gap ≤ 1021 → n + gap ≤ typed_or t n k + 1021 * (next_misses t m + 1)
unfolding typed_or next_misses
trained_by zero m n gap k h g = omega arith
trained_by (suc t) m n gap k h g = omega arith

trained_slot : (v : HandedSlot) (m n gap : ℕ) (ws : List Window) → n ≤ Claim.trained ws + 1021 * (m + 1) → gap ≤ 1021
    → n + gap ≤ Claim.trained (record { counter = n; kind = slot v } ∷ ws) + 1021 * (next_misses v.full.type m + 1)
unfolding Claim.trained trained_on
trained_slot v m n gap ws h g = trained_by v.full.type m n gap (Claim.trained ws) h g

hundredth : (t m : ℕ) → next_misses t m ≡ 100 → m ≡ 99
unfolding next_misses
hundredth zero m e = omega arith
hundredth (suc t) m e = absurd (omega arith)

-- a handed slot v
lawful_hands : (a : Account) (n gap m : ℕ) (v : HandedSlot) → Lawful a → n ≡ a.due → a.locked ≡ true → next_misses v.full.type a.misses < 100 → 1019 ≤ gap → gap ≤ 1021
    → Lawful (record { due = n + gap; locked = true; number = m; misses = next_misses v.full.type a.misses; windows = record { counter = n; kind = slot v } ∷ a.windows })
unfolding Claim.held held_on Soon recent recent_slots if_slot
lawful_hands a n gap m v l eq e few low high =
    let s : Fixed a = fixed a l e in
    let b : Bounds a = l.bounds in
    let ws : List Window = a.windows in
    let r : next_misses v.full.type a.misses ≡ Claim.run (record { counter = n; kind = slot v } ∷ ws) = run_slot v a.misses n ws s.run in
    let z = recent_down (n + gap) (a.due + 1017) ws (omega arith) in
    record {
      bounds = record {
        held = sym (lt-ltb (Claim.run (record { counter = n; kind = slot v } ∷ ws)) 100 (omega (arith, r, few)));
        soon = λ h. absurd (omega (arith, h, r, few));
        four = λ k. more_four k n (slot v) ws (b.four k) (omega (arith, b.three, recent_down n a.due ws (omega arith)));
        two = λ k. more_two k n (slot v) ws (b.two k) (omega (arith, b.slots, slots_down n a.due ws (omega arith)));
        past = omega (arith, near_no (n + gap + 1017) n (omega arith), recent_down (n + gap + 1017) (a.due + 1017) ws (omega arith), b.past);
        three = omega (arith, near_one (n + gap) n, z, b.past);
        slots = omega (arith, near_one (n + gap) n, slots_most (n + gap) ws, z, b.past);
      };
      state = inr (record {
        locked = refl;
        few = few;
        run = r;
        trained = trained_slot v a.misses n gap ws (omega (arith, s.trained, eq)) high;
        later = λ h. omega (arith, near_no (n + gap + 2) n (omega arith), recent_down (n + gap + 2) (a.due + 1017) ws (omega arith), b.past);
      });
    }

lawful_loses : (a : Account) (n m : ℕ) (v : HandedSlot) → Lawful a → n ≡ a.due → a.locked ≡ true → next_misses v.full.type a.misses ≡ 100
    → Lawful (record { due = n + 400; locked = false; number = m; misses = next_misses v.full.type a.misses; windows = record { counter = n; kind = slot v } ∷ a.windows })
unfolding Claim.held held_on Soon recent recent_slots if_slot
lawful_loses a n m v l eq e hundred =
    let s : Fixed a = fixed a l e in
    let b : Bounds a = l.bounds in
    let ws : List Window = a.windows in
    let r : next_misses v.full.type a.misses ≡ Claim.run (record { counter = n; kind = slot v } ∷ ws) = run_slot v a.misses n ws s.run in
    let m99 : a.misses ≡ 99 = hundredth v.full.type a.misses hundred in
    let y = s.later (omega arith) in
    let z = recent_down (n + 400) (a.due + 2) ws (omega arith) in
    record {
      bounds = record {
        held = sym (le-ltb (Claim.run (record { counter = n; kind = slot v } ∷ ws)) 100 (omega (arith, r, hundred)));
        soon = λ h. omega (arith, s.trained, m99, eq);
        four = λ k. more_four k n (slot v) ws (b.four k) (omega (arith, b.three, recent_down n a.due ws (omega arith)));
        two = λ k. more_two k n (slot v) ws (b.two k) (omega (arith, b.slots, slots_down n a.due ws (omega arith)));
        past = omega (arith, near_no (n + 400 + 1017) n (omega arith), recent_down (n + 400 + 1017) (a.due + 1017) ws (omega arith), b.past);
        three = omega (arith, near_one (n + 400) n, z, y);
        slots = omega (arith, near_one (n + 400) n, slots_most (n + 400) ws, z, y);
      };
      state = inl (record {
        unlocked = refl;
        two_back = omega (arith, near_one (n + 400) n, z, y);
        one_back = omega (arith, near_one (n + 400 + 400) n, recent_down (n + 400 + 400) (a.due + 2) ws (omega arith), y);
        none_back = omega (arith, near_no (n + 400 + 621) n (omega arith), recent_down (n + 400 + 621) (a.due + 2) ws (omega arith), y);
      });
    }

pub lawful_turn : {a : Account} {n : ℕ} {bits : List ℕ} {a' : Account} → Turn a n bits a' → Lawful a → Lawful a'
unfolding type_of slot_in slot_with
lawful_turn (between h) l = l
lawful_turn {a} {n = n} (stays e u h) l = lawful_stays a n l e u
lawful_turn {a} {n = n} (locks gap e u h low high) l = lawful_locks a n gap l e u (omega (arith, low)) (omega (arith, high))
lawful_turn {a} {n = n} {bits = bits} (hands gap e u f low high) l = lawful_hands a n gap _ (slot_in a n bits) l e u f (omega (arith, low)) (omega (arith, high))
lawful_turn {a} {n = n} {bits = bits} (loses e u f) l = lawful_loses a n _ (slot_in a n bits) l e u f
