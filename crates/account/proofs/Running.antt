-- The calls that `run_calls` makes, one by one: laws that its code goes by. Assumes nothing.
use mathlib.Core.Path.{◌≡◌, refl, sym, ap, ◌∙◌}
use Prim.Native.Nat.{ℕ, zero, suc, ◌+◌, ◌*◌, ◌/◌, ◌≤◌, ◌<◌, min}
use native.Mathlib.Nat.{min-le_right, min_comm}
use Rattle.std.proofs.lemmas.List.{take_more, take_min, get_or-take, reverse-append, length-reverse, map-append, length-map, length-take}
use native.Mathlib.Omega.{arith}
use mathlib.Core.List.{List, [], ◌∷◌, ◌++◌}
use lib.ListN.{length, get_or, take, drop, replicate, length-replicate, replicate-append-replicate}
use lib.IntN.{ℤ}
use Rattle.dsp_types.specs.declared.ComplexSample.{ComplexSample}
use Rattle.rx_slot.specs.declared.RxSlot.{RxSlot}
use Rattle.slot_receiver.specs.declared.Mode.TheVariants.{DlUnsynchronized}
use Rattle.rx_slot.specs.Slots.{HandedSlot}
use Rattle.slot_receiver.specs.Receiver.{Receiver, new, valid_count}
use Rattle.slot_receiver.specs.Calls.{Reply, Outcome, unless, sample_refusal, sampled, sample_outcome, take_outcome, follow_refusal, followed, follow_outcome, in_numbers}
use Rattle.rx_slot.specs.Views.{padded}
use Rattle.rx_slot.proofs.Laws.{padded_front}
use Rattle.account.specs.CallList as CallList
use Rattle.account.specs.CallList.{Call, sample, follow, outcome, after, answers, lent_after}
use Rattle.account.specs.declared.call.Call as Declared
use Rattle.account.specs.Runs.{row_length, lent_bytes, call_of, room_in, calls_in, row_of, rows, bytes_of, bytes_of_all, Makes, Written, Ran}
use Rattle.account.proofs.Demand.{demand3, throughout}
use Rattle.account.proofs.Closings.{closings}
use Rattle.account.proofs.Rows.{padded_none, padded_over, length_row, length_rows, length_bytes, length_all, behind}

-- ---- one call

-- a lent slice: the first k of 1,024 bytes
module _ (n k : ℕ) (bytes : List ℕ) (b : bytes ≡ padded 1024 (lent_bytes n)) (e : k ≡ min n 1024) where
  sized : length (lent_bytes n) ≡ k
  unfolding lent_bytes
  sized = length-replicate {A = ℕ} (min n 1024) 7 ∙ sym e

  few : length (lent_bytes n) ≤ 1024
  few = rw (sized, e) (min-le_right n 1024)

  pub lent : take k bytes ≡ lent_bytes n
  lent = rw (b, ← sized) (padded_front 1024 (lent_bytes n) few)

  -- .. and what it is after the call, with what is behind it
  pub left : (after : List ℕ) → length after ≡ length (take k bytes) → after ++ drop k bytes ≡ padded 1024 after
  left after h = rw (b, ← sized) (padded_over 1024 (lent_bytes n) after few (h ∙ ap length lent))

pub together : {all x y z x' y' z' : List ℕ} → all ≡ x ++ (y ++ z) → x ≡ x' → y ≡ y' → z ≡ z' → all ≡ x' ++ (y' ++ z')
together e p q t = e ∙ rw (p, q, t)

pub takes : (r : Receiver) {v : Receiver} {told lent : List ℕ} {answer : Reply RxSlot} {s a b s₀ a₀ b₀ s' a' b' : List ℕ} → s ≡ s₀ → a ≡ a₀ → b ≡ b₀
    → answer ≡ in_numbers (take_outcome r s a b).reply → v ≡ (take_outcome r s a b).receiver → s' ∷ a' ∷ b' ∷ [] ≡ (take_outcome r s a b).lent
    → told ≡ row_of answer → lent ≡ padded 1024 s' ++ (padded 1024 a' ++ padded 1024 b') → Makes r (CallList.take s₀ a₀ b₀) v told lent
unfolding outcome bytes_of
takes r p q t e f g h l =
    record { receiver = f ∙ rw (p, q, t); tells = h ∙ ap row_of e ∙ rw (p, q, t); lends = l ∙ ap bytes_of g ∙ rw (p, q, t) }

-- a call that lends nothing
none_lent : replicate 3072 0 ≡ bytes_of []
unfolding bytes_of
none_lent = rw (padded_none 1024) (sym (ap (λ (l : List ℕ). replicate 1024 0 ++ l) (replicate-append-replicate {A = ℕ} 1024 1024 0) ∙ replicate-append-replicate {A = ℕ} 1024 2048 0))

unless_none : (k : ℕ) (r : Receiver) (o : Outcome) → o.lent ≡ [] → (unless k r [] o).lent ≡ []
unfolding unless
unless_none zero r o e = e
unless_none (suc k) r o e = refl

pub samples : (r : Receiver) (x : ComplexSample) (c : ℤ) {v : Receiver} {told lent : List ℕ} {answer : Reply HandedSlot}
    → answer ≡ (sample_outcome r x c).reply → v ≡ (sample_outcome r x c).receiver → told ≡ row_of (in_numbers answer) → lent ≡ replicate 3072 0 → Makes r (sample x c) v told lent
unfolding outcome sample_outcome sampled
samples r x c e f h l =
    record {
      receiver = f;
      tells = h ∙ ap (λ (a : Reply HandedSlot). row_of (in_numbers a)) e;
      lends = l ∙ none_lent ∙ ap bytes_of (sym (unless_none (sample_refusal (valid_count r.next) x c) r (sampled r x c) refl));
    }

pub follows : (r other : Receiver) {v : Receiver} {told lent : List ℕ} {answer : Reply HandedSlot}
    → answer ≡ (follow_outcome r other).reply → v ≡ (follow_outcome r other).receiver → told ≡ row_of (in_numbers answer) → lent ≡ replicate 3072 0 → Makes r (follow other) v told lent
unfolding outcome follow_outcome followed
follows r other e f h l =
    record {
      receiver = f;
      tells = h ∙ ap (λ (a : Reply HandedSlot). row_of (in_numbers a)) e;
      lends = l ∙ none_lent ∙ ap bytes_of (sym (unless_none (follow_refusal r.mode) r (followed r other) refl));
    }

pub made_row : {r r' : Receiver} {c : Call} {told lent : List ℕ} → Makes r c r' told lent → length told ≡ row_length
made_row {r} {c = c} m = ap length m.tells ∙ length_row (in_numbers (outcome r c).reply)

pub made_bytes : {r r' : Receiver} {c : Call} {told lent : List ℕ} → Makes r c r' told lent → length lent ≡ 3072
made_bytes {r} {c = c} m = ap length m.lends ∙ length_bytes (outcome r c).lent

-- ---- a list of calls

length_answers : (cs : List Call) → length (answers cs) ≡ length cs
unfolding answers
length_answers [] = refl
length_answers (c ∷ cs) = ap suc (length_answers cs)

length_lent : (cs : List Call) → length (lent_after cs) ≡ length cs
unfolding lent_after
length_lent [] = refl
length_lent (c ∷ cs) = ap suc (length_lent cs)

-- one call more is written behind the others
module _ (c : Call) (cs : List Call) {r r' : Receiver} {row bytes told₀ told lent₀ lent : List ℕ} (w : Written cs r told₀ told lent₀ lent) (m : Makes r c r' row bytes) where
  more_told : {told' : List ℕ} → told' ≡ take (row_length * length cs) told ++ row ++ drop (row_length * length cs + length row) told
      → told' ≡ rows (answers (c ∷ cs)) ++ drop (row_length * length (c ∷ cs)) told₀
  unfolding answers rows
  more_told {told'} p =
      let size : length row ≡ row_length = made_row m in
      let front : length (rows (answers cs)) ≡ row_length * length cs = length_rows (answers cs) ∙ ap (λ (k : ℕ). row_length * k) (length_answers cs) in
      let is : row ≡ row_of (in_numbers (outcome (after cs) c).reply) = m.tells ∙ ap (λ (u : Receiver). row_of (in_numbers (outcome u c).reply)) w.receiver in
      behind told₀ told told' (rows (answers cs)) row (row_length * length cs) row_length (row_length * suc (length cs)) w.tells front size (omega arith) p
      ∙ ap (λ (l : List ℕ). (rows (answers cs) ++ l) ++ drop (row_length * suc (length cs)) told₀) is

  more_lent : {lent' : List ℕ} → lent' ≡ take (3072 * length cs) lent ++ bytes ++ drop (3072 * length cs + length bytes) lent
      → lent' ≡ bytes_of_all (lent_after (c ∷ cs)) ++ drop (3072 * length (c ∷ cs)) lent₀
  unfolding lent_after bytes_of_all
  more_lent {lent'} p =
      let size : length bytes ≡ 3072 = made_bytes m in
      let front : length (bytes_of_all (lent_after cs)) ≡ 3072 * length cs = length_all (lent_after cs) ∙ ap (λ (k : ℕ). 3072 * k) (length_lent cs) in
      let is : bytes ≡ bytes_of (outcome (after cs) c).lent = m.lends ∙ ap (λ (u : Receiver). bytes_of (outcome u c).lent) w.receiver in
      behind lent₀ lent lent' (bytes_of_all (lent_after cs)) bytes (3072 * length cs) 3072 (3072 * suc (length cs)) w.lends front size (omega arith) p
      ∙ ap (λ (l : List ℕ). (bytes_of_all (lent_after cs) ++ l) ++ drop (3072 * suc (length cs)) lent₀) is

  more : {told' lent' : List ℕ} → told' ≡ take (row_length * length cs) told ++ row ++ drop (row_length * length cs + length row) told
      → lent' ≡ take (3072 * length cs) lent ++ bytes ++ drop (3072 * length cs + length bytes) lent → Written (c ∷ cs) r' told₀ told' lent₀ lent'
  unfolding after
  more p q = record { receiver = m.receiver ∙ ap (λ (u : Receiver). (outcome u c).receiver) w.receiver; tells = more_told p; lends = more_lent q }

none : (told lent : List ℕ) → Written [] (new DlUnsynchronized) told told lent lent
unfolding after answers rows lent_after bytes_of_all
none told bytes = record { receiver = refl; tells = refl; lends = refl }

-- what was written is what the account tells
ran : (cs : List Call) {r : Receiver} {told told' lent lent' : List ℕ} → Written cs r told told' lent lent' → Ran cs r told told' lent lent'
ran cs {told = told} {lent = lent} w =
    record {
      written = w;
      closings = closings cs;
      expected = λ u. w.tells ∙ ap (λ (l : List (Reply HandedSlot)). rows l ++ drop (row_length * length cs) told) (demand3 cs u).answered;
      filled = λ u. w.lends ∙ ap (λ (l : List (List (List ℕ))). bytes_of_all l ++ drop (3072 * length cs) lent) (demand3 cs u).fills;
      keeps = throughout cs;
    }

-- a slice holds n calls, and there is room for them
pub record Enough (calls told lent n : ℕ) : Type 0 where
  pub of_calls : n ≤ calls
  pub of_told : row_length * n ≤ told
  pub of_lent : 3072 * n ≤ lent

pub enough : (calls told lent n room : ℕ) → n ≡ min calls room → room ≡ room_in told lent → Enough calls told lent n
unfolding room_in
enough calls told lent n room p q =
    let m : room ≡ min (told / row_length) (lent / 3072) = q in
    record { of_calls = omega arith; of_told = omega arith; of_lent = omega arith }

module _ (other : Receiver) (calls : List Declared.Call) where
  length_calls : (n : ℕ) → n ≤ length calls → length (calls_in other calls n) ≡ n
  unfolding calls_in
  length_calls n h = simp (length-reverse, length-map, length-take) (omega arith)

  next_call : (i : ℕ) (d : Declared.Call) → i < length calls → calls_in other calls (i + 1) ≡ call_of other (get_or calls i d) ∷ calls_in other calls i
  unfolding calls_in
  next_call i d h = rw (take_more calls i d h, map-append, reverse-append)

  pub none_made : {r : Receiver} (told lent : List ℕ) → r ≡ new DlUnsynchronized → Written (calls_in other calls 0) r told told lent lent
  unfolding calls_in
  none_made told lent e = rw e (none told lent)

  -- the call that a loop over the first n reads
  pub one_more : {r r' : Receiver} {row bytes told₀ told told' lent₀ lent lent' : List ℕ} (i n : ℕ) (d : Declared.Call) → i < n → n ≤ length calls
      → Written (calls_in other calls i) r told₀ told lent₀ lent → Makes r (call_of other (get_or (take n calls) i d)) r' row bytes
      → told' ≡ take (row_length * i) told ++ row ++ drop (row_length * i + length row) told
      → lent' ≡ take (3072 * i) lent ++ bytes ++ drop (3072 * i + length bytes) lent
      → Written (calls_in other calls (i + 1)) r' told₀ told' lent₀ lent'
  one_more i n d h g w m p q =
      let k = length_calls i (omega arith) in
      let c : Call = call_of other (get_or calls i d) in
      let m' = rw (get_or-take n calls i d h) at m in
      rw (next_call i d (omega arith)) (more c (calls_in other calls i) w m' (rw k p) (rw k q))

  pub all_made : {r : Receiver} {told told' lent lent' : List ℕ} (i n room : ℕ) → Written (calls_in other calls i) r told told' lent lent' → i ≡ n
      → n ≡ min (length calls) room → Ran (calls_in other calls room) r told told' lent lent'
  unfolding calls_in
  all_made i n room w e f = ran _ (rw (e, f, min_comm (length calls) room, take_min room calls) at w)
