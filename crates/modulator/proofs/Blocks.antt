-- A block is the calls one by one: samples that are not refused come out as the filter's block, and the first refusal ends it. Assumes nothing.
use mathlib.Core.Path.{◌≡◌, refl, sym, ap, subst, ◌∙◌}
use mathlib.Core.Bool.{Bool, true, false, cond}
use mathlib.Core.Logic.{⊎_elim}
use Prim.Native.Nat.{ℕ, zero, suc, ◌+◌, ◌-◌, ◌*◌, ◌<◌, ◌≤◌, min}
use native.Mathlib.Nat.{le_refl}
use native.Mathlib.Omega.{arith}
use mathlib.Core.List.{List, [], ◌∷◌, ◌++◌, append-nil}
use Rattle.std.specs.Prelude.{Option, Result, Ok, Err}
use lib.Dec.{eqb}
use lib.IntN.{ℤ, pos, ◌+ℤ◌}
use lib.ListN.{length, take, drop, length-append, length-map, length-drop, drop_of_length-le}
use lib.Seq.{take_all, take_at}
use lib.Signed.{mag}
use lib.Ieee.{Float}
use borrow.Author.Tests.{lt-ltb, le-ltb, eqb-true, eqb-false}
use Rattle.dsp_types.specs.declared.ComplexSample.{ComplexSample}
use Rattle.dsp_types.proofs.IntLaws.{sum, same}
use Rattle.dsp_types.specs.Refusals.{last_counter, out_of_count, counters}
use Rattle.dsp_types.proofs.RingLaws.{le_or_lt}
use Rattle.dsp_types.specs.Samples.{silence, ago}
use Rattle.fir.specs.Fir.{filter_of, line_after, outs_of, samples_of, block_of, start_with, re_of, im_of}
use Rattle.fir.proofs.Laws.{line_append, outs_append, length_outs, start_part, samples_parts}
use Rattle.fir.proofs.Rows.{rest}
use Rattle.mapper.specs.declared.Due.{Due}
use Rattle.mapper.specs.Dqpsk.{phase_after, input_of}
use Rattle.mapper.specs.Due.{input_refusal, start_of, place_in, due_at, due_if, due_of, due_refusal}
use Rattle.modulator.specs.Sender.{shaped_of, told_of, next_line, SenderReply, Sender, filter_input, tells, sender_after}
use Rattle.modulator.specs.Blocks.{SentBlock, joined_if, joined, sent_block, block_call, due_after, parts_of, Wrote, place_due, inputs_of, phases_of, fed_block, left_of}
use Rattle.mapper.proofs.Places.{early, late, within, slot_accepted, accepted_count}

-- it is not a refusal
abbrev pub Sends : Result Due ℕ → Type 0
Sends (Err n) = ⊥
Sends (Ok due) = Unit {0}

-- ---- calls one by one

-- the block of a call that is not refused and of those behind it
then : (s : Sender) (d : Result Due ℕ) (rest : SentBlock) → Sends d
    → joined (tells s d) (sender_after s d) rest ≡ record { outs = filter_of (ago silence (filter_input s d ∷ s.line)) ∷ rest.outs; refusal = rest.refusal; sender = rest.sender }
unfolding joined joined_if tells told_of shaped_of
then s (Err n) rest h = absurd h
then s (Ok due) rest h = refl

moved : (s : Sender) (d : Result Due ℕ) → Sends d → sender_after s d ≡ record { line = take 32 (filter_input s d ∷ s.line); phase = phase_after s.phase d }
unfolding sender_after next_line
moved s (Err n) h = absurd h
moved s (Ok due) h = refl

-- a refused call ends it
stopped : (due : ℕ → Result Due ℕ) (k i r : ℕ) (s : Sender) → due i ≡ Err (suc r) → sent_block due (suc k) i s ≡ record { outs = []; refusal = suc r; sender = s }
unfolding sent_block joined joined_if tells told_of sender_after next_line phase_after
stopped due k i r s e = rw e

module _ (due : ℕ → Result Due ℕ) where
  -- n calls that are not refused, and k more
  all_sent : (n k i at : ℕ) (s : Sender) → at ≡ i + n → ((j : ℕ) → i ≤ j → j < i + n → Sends (due j))
      → let xs = inputs_of due n i s.phase in
      let rest = sent_block due k at (record { line = line_after s.line xs; phase = phases_of due n i s.phase }) in
      sent_block due (n + k) i s ≡ record { outs = outs_of s.line xs ++ rest.outs; refusal = rest.refusal; sender = rest.sender }
  unfolding inputs_of phases_of line_after outs_of sent_block filter_input
  all_sent zero k i at s e h =
      let m : 0 + k ≡ k = omega arith in
      let f : at ≡ i = omega arith in
      rw (m, f)
  all_sent (suc n) k i at s e h =
      let m : suc n + k ≡ suc (n + k) = omega arith in
      let d = due i in
      let x = input_of (phase_after s.phase d) d in
      let t : Sender = record { line = take 32 (x ∷ s.line); phase = phase_after s.phase d } in
      let g = h i (le_refl i) (omega arith) in
      ap (λ (c : ℕ). sent_block due c i s) m
      ∙ then s d (sent_block due (n + k) (suc i) (sender_after s d)) g
      ∙ ap (λ (b : SentBlock). record { outs = filter_of (ago silence (x ∷ s.line)) ∷ b.outs; refusal = b.refusal; sender = b.sender })
      (ap (sent_block due (n + k) (suc i)) (moved s d g) ∙ all_sent n k (suc i) at t (omega arith) (λ j l u. h j (omega arith) (omega arith)))

  -- ... where those k are none, or the first of them is refused
  block_sent : (room n k r : ℕ) (s : Sender) → room ≡ n + k → ((j : ℕ) → j < n → Sends (due j))
      → ((t : Sender) → sent_block due k n t ≡ record { outs = []; refusal = r; sender = t })
      → sent_block due room 0 s ≡ fed_block due n r s
  unfolding fed_block
  block_sent room n k r s e h f =
      ap (λ (c : ℕ). sent_block due c 0 s) e
      ∙ all_sent n k 0 n s (omega arith) (λ j l u. h j (omega arith))
      ∙ rw (f (record { line = line_after s.line (inputs_of due n 0 s.phase); phase = phases_of due n 0 s.phase }), append-nil (outs_of s.line (inputs_of due n 0 s.phase)))

-- ---- two accounts of what is due

module _ (due other : ℕ → Result Due ℕ) where
  same_inputs : (n i p : ℕ) → ((j : ℕ) → i ≤ j → j < i + n → due j ≡ other j) → inputs_of due n i p ≡ inputs_of other n i p
  unfolding inputs_of
  same_inputs zero i p h = refl
  same_inputs (suc n) i p h =
      rw (h i (le_refl i) (omega arith), same_inputs n (suc i) (phase_after p (other i)) (λ j l u. h j (omega arith) (omega arith)))

  same_phases : (n i p : ℕ) → ((j : ℕ) → i ≤ j → j < i + n → due j ≡ other j) → phases_of due n i p ≡ phases_of other n i p
  unfolding phases_of
  same_phases zero i p h = refl
  same_phases (suc n) i p h =
      rw (h i (le_refl i) (omega arith)) (same_phases n (suc i) (phase_after p (other i)) (λ j l u. h j (omega arith) (omega arith)))

  same_block : (n r : ℕ) (s : Sender) → ((j : ℕ) → j < n → due j ≡ other j) → fed_block due n r s ≡ fed_block other n r s
  unfolding fed_block
  same_block n r s h =
      rw (same_inputs n 0 s.phase (λ j l u. h j (omega arith)), same_phases n 0 s.phase (λ j l u. h j (omega arith)))

-- ---- which samples are refused

module _ (m start : ℕ) (bits : Option (List ℕ)) where
  sends_at : m + 16 < start + 1020 → Sends (due_at bits (place_in (pos m) start))
  unfolding place_in
  sends_at h =
      ⊎_elim
      (λ (l : start ≤ m + 16). subst Sends (sym (within (m + 16) start bits l (omega arith))) tt)
      (λ (l : m + 16 < start). subst Sends (early (m + 16) start bits l) tt)
      (le_or_lt (start) (m + 16))

module _ (m slot : ℕ) (bits : Option (List ℕ)) (h : input_refusal (pos m) slot bits ≡ 0) where
  -- within the counter's range
  pub going : (i : ℕ) → m + i ≤ last_counter → due_after (pos m) slot bits i ≡ place_due m (start_of slot) bits i
  unfolding due_after place_due due_of due_if input_refusal out_of_count
  going i l = rw (le-ltb last_counter (m + i) (omega arith), slot_accepted (pos m) slot bits h)

  pub sends : (i : ℕ) → i < left_of m (start_of slot) → Sends (due_after (pos m) slot bits i)
  unfolding left_of place_due
  sends i l = subst Sends (sym (going i (omega arith))) (sends_at (m + i) (start_of slot) bits (omega arith))

  -- the sample behind them
  over : m + left_of m (start_of slot) ≡ counters → due_after (pos m) slot bits (left_of m (start_of slot)) ≡ Err 2
  unfolding due_after due_of due_if input_refusal out_of_count
  over e = rw (lt-ltb last_counter (m + left_of m (start_of slot)) (omega arith))

  past : m + left_of m (start_of slot) ≤ last_counter → due_after (pos m) slot bits (left_of m (start_of slot)) ≡ Err 12
  unfolding place_due place_in left_of
  past l = going (left_of m (start_of slot)) l ∙ sym (late (m + left_of m (start_of slot) + 16) (start_of slot) bits (omega arith) (omega arith))

  pub ends : (r : ℕ) → m + left_of m (start_of slot) ≤ counters → r ≡ cond (eqb (m + left_of m (start_of slot)) counters) 2 12 → due_after (pos m) slot bits (left_of m (start_of slot)) ≡ Err r
  ends r h e = go (eqb (m + left_of m (start_of slot)) counters) refl ∙ ap Err (sym e)
    where
      go : (t : Bool) → eqb (m + left_of m (start_of slot)) counters ≡ t → due_after (pos m) slot bits (left_of m (start_of slot)) ≡ Err (cond t 2 12)
      go true e = over (eqb-true (m + left_of m (start_of slot)) counters e)
      go false e =
          let n = eqb-false (m + left_of m (start_of slot)) counters e in
          past (⊎_elim (λ (l : counters ≤ m + left_of m (start_of slot)). absurd (n (omega arith))) (λ (l : m + left_of m (start_of slot) < counters). omega arith) (le_or_lt counters (m + left_of m (start_of slot))))

  within_count : (i : ℕ) → i < left_of m (start_of slot) → m + i ≤ last_counter
  unfolding left_of
  within_count i l = omega arith

  behind : (t : Bool) {r : ℕ} → r ≡ cond t 2 12 → 0 < r
  behind true e = omega (arith, e)
  behind false e = omega (arith, e)

  stops : (k r : ℕ) (t : Sender) → due_after (pos m) slot bits (left_of m (start_of slot)) ≡ Err r → 0 < r
      → sent_block (due_after (pos m) slot bits) (suc k) (left_of m (start_of slot)) t ≡ record { outs = []; refusal = r; sender = t }
  stops k zero t e h = absurd (omega arith)
  stops k (suc r) t e h = stopped (due_after (pos m) slot bits) k (left_of m (start_of slot)) r t e

  -- a block that fills its room, and one that ends before
  pub filled : (room : ℕ) (s : Sender) → room ≤ left_of m (start_of slot) → sent_block (due_after (pos m) slot bits) room 0 s ≡ fed_block (place_due m (start_of slot) bits) room 0 s
  unfolding sent_block
  filled room s l =
      block_sent (due_after (pos m) slot bits) room room 0 0 s (omega arith) (λ j u. sends j (omega arith)) (λ t. refl)
      ∙ same_block (due_after (pos m) slot bits) (place_due m (start_of slot) bits) room 0 s (λ j u. going j (within_count j (omega arith)))

  pub ended : (room r : ℕ) (s : Sender) → left_of m (start_of slot) < room → m + left_of m (start_of slot) ≤ counters → r ≡ cond (eqb (m + left_of m (start_of slot)) counters) 2 12
      → sent_block (due_after (pos m) slot bits) room 0 s ≡ fed_block (place_due m (start_of slot) bits) (left_of m (start_of slot)) r s
  ended room r s l u e =
      let k = room - suc (left_of m (start_of slot)) in
      block_sent (due_after (pos m) slot bits) room (left_of m (start_of slot)) (suc k) r s (omega arith) (λ j v. sends j v)
      (λ t. stops k r t (ends r u e) (behind (eqb (m + left_of m (start_of slot)) counters) e))
      ∙ same_block (due_after (pos m) slot bits) (place_due m (start_of slot) bits) (left_of m (start_of slot)) r s (λ j v. going j (within_count j v))

-- ---- the filter's block

pub inputs_length : (due : ℕ → Result Due ℕ) (n i p : ℕ) → length (inputs_of due n i p) ≡ n
unfolding inputs_of
inputs_length due zero i p = refl
inputs_length due (suc n) i p = ap suc (inputs_length due n (suc i) (phase_after p (due i)))

pub block_inputs : (re im out_re out_im : List Float) (xs : List ComplexSample) → re ≡ re_of xs → im ≡ im_of xs → length xs ≤ 256 → length xs ≤ length out_re → length xs ≤ length out_im
    → block_of re im out_re out_im ≡ xs
unfolding block_of
block_inputs re im out_re out_im xs e f h k l = rw (e, f, samples_parts xs) (take_all (min 1024 (min (length out_re) (length out_im))) xs (omega arith))

-- ---- what `piece` leaves

parts_length : (xs : List ComplexSample) → length (parts_of xs) ≡ 2 * length xs
unfolding parts_of
parts_length [] = refl
parts_length (x ∷ xs) = ap (λ (n : ℕ). suc (suc n)) (parts_length xs) ∙ omega arith

parts_append : (xs ys : List ComplexSample) → parts_of (xs ++ ys) ≡ parts_of xs ++ parts_of ys
unfolding parts_of
parts_append [] ys = refl
parts_append (x ∷ xs) ys = ap (λ (l : List Float). x.re ∷ x.im ∷ l) (parts_append xs ys)

-- the outputs of a block, read back out of its buffers
outs_read : (xs : List ComplexSample) (n : ℕ) (re im : List Float) → length xs ≡ n → samples_of (take n (start_with (re_of xs) re)) (take n (start_with (im_of xs) im)) ≡ xs
unfolding start_with
outs_read xs n re im e =
    rw (take_at (re_of xs) (drop (length (re_of xs)) re) n (length-map xs _ ∙ e), take_at (im_of xs) (drop (length (im_of xs)) im) n (length-map xs _ ∙ e)) (samples_parts xs)

-- the same samples, with the refusal behind them
pub wrote_before : (due : ℕ → Result Due ℕ) (n r : ℕ) (s t : Sender) (out out' : List Float) → Wrote (fed_block due n 0 s) n 0 t out out' → Wrote (fed_block due n r s) n r t out out'
unfolding fed_block
wrote_before due n r s t out out' w = record { counted = w.counted; refused = refl; sent = w.sent; written = w.written }

pub piece_wrote : (due : ℕ → Result Due ℕ) (n : ℕ) (s : Sender) (re im out_re out_im out_re' out_im' out out' : List Float) (line : List ComplexSample) (phase : ℕ) → n ≤ 256 → n ≤ length out_re → n ≤ length out_im
    → re ≡ re_of (inputs_of due n 0 s.phase) → im ≡ im_of (inputs_of due n 0 s.phase) → phase ≡ phases_of due n 0 s.phase
    → line ≡ line_after s.line (block_of re im out_re out_im)
    → out_re' ≡ start_with (re_of (outs_of s.line (block_of re im out_re out_im))) out_re
    → out_im' ≡ start_with (im_of (outs_of s.line (block_of re im out_re out_im))) out_im
    → out' ≡ start_with (parts_of (samples_of (take n out_re') (take n out_im'))) out
    → Wrote (fed_block due n 0 s) n 0 (record { line = line; phase = phase }) out out'
unfolding fed_block
piece_wrote due n s re im out_re out_im out_re' out_im' out out' line phase h k l a b p f g i w =
    let xs = inputs_of due n 0 s.phase in
    let m : length xs ≡ n = inputs_length due n 0 s.phase in
    let e : block_of re im out_re out_im ≡ xs = block_inputs re im out_re out_im xs a b (omega arith) (omega arith) (omega arith) in
    let heard : line ≡ line_after s.line xs = f ∙ ap (line_after s.line) e in
    let outs = outs_of s.line xs in
    let c : length outs ≡ n = length_outs s.line xs ∙ m in
    let row : out_re' ≡ start_with (re_of outs) out_re = g ∙ ap (λ (l : List ComplexSample). start_with (re_of (outs_of s.line l)) out_re) e in
    let row_im : out_im' ≡ start_with (im_of outs) out_im = i ∙ ap (λ (l : List ComplexSample). start_with (im_of (outs_of s.line l)) out_im) e in
    record {
      counted = sym c;
      refused = refl;
      sent = λ i. record { line = heard i; phase = p i };
      written = w ∙ ap (λ (l : List ComplexSample). start_with (parts_of l) out) ((λ j. samples_of (take n (row j)) (take n (row_im j))) ∙ outs_read outs n out_re out_im c);
    }

-- ---- pieces, one behind the other

module _ (due other : ℕ → Result Due ℕ) (k : ℕ) (h : (j : ℕ) → other j ≡ due (k + j)) where
  later_inputs : (n i p : ℕ) → inputs_of other n i p ≡ inputs_of due n (k + i) p
  unfolding inputs_of
  later_inputs zero i p = refl
  later_inputs (suc n) i p =
      let m : k + suc i ≡ suc (k + i) = omega arith in
      rw (h i, ← m) (ap (λ (l : List ComplexSample). input_of (phase_after p (due (k + i))) (due (k + i)) ∷ l) (later_inputs n (suc i) (phase_after p (due (k + i)))))

  later_phases : (n i p : ℕ) → phases_of other n i p ≡ phases_of due n (k + i) p
  unfolding phases_of
  later_phases zero i p = refl
  later_phases (suc n) i p =
      let m : k + suc i ≡ suc (k + i) = omega arith in
      rw (h i, ← m) (later_phases n (suc i) (phase_after p (due (k + i))))

module _ (due : ℕ → Result Due ℕ) where
  inputs_append : (k n i p : ℕ) → inputs_of due (k + n) i p ≡ inputs_of due k i p ++ inputs_of due n (k + i) (phases_of due k i p)
  unfolding inputs_of phases_of
  inputs_append zero n i p =
      let e : 0 + n ≡ n = omega arith in
      let m : 0 + i ≡ i = omega arith in
      rw (e, m)
  inputs_append (suc k) n i p =
      let e : suc k + n ≡ suc (k + n) = omega arith in
      let m : suc k + i ≡ k + suc i = omega arith in
      rw (e, m) (ap (λ (l : List ComplexSample). input_of (phase_after p (due i)) (due i) ∷ l) (inputs_append k n (suc i) (phase_after p (due i))))

  phases_append : (k n i p : ℕ) → phases_of due (k + n) i p ≡ phases_of due n (k + i) (phases_of due k i p)
  unfolding phases_of
  phases_append zero n i p =
      let e : 0 + n ≡ n = omega arith in
      let m : 0 + i ≡ i = omega arith in
      rw (e, m)
  phases_append (suc k) n i p =
      let e : suc k + n ≡ suc (k + n) = omega arith in
      let m : suc k + i ≡ k + suc i = omega arith in
      rw (e, m) (phases_append k n (suc i) (phase_after p (due i)))

module _ (due other : ℕ → Result Due ℕ) (k n : ℕ) (h : (j : ℕ) → other j ≡ due (k + j)) (s : Sender) where
  abbrev then_inputs : List ComplexSample
  then_inputs = inputs_of other n 0 (phases_of due k 0 s.phase)

  inputs_joined : inputs_of due (k + n) 0 s.phase ≡ inputs_of due k 0 s.phase ++ then_inputs
  inputs_joined = inputs_append due k n 0 s.phase ∙ ap (λ (l : List ComplexSample). inputs_of due k 0 s.phase ++ l) (sym (later_inputs due other k h n 0 (phases_of due k 0 s.phase)))

  outs_joined : (r : ℕ) → (fed_block due (k + n) r s).outs ≡ (fed_block due k r s).outs ++ (fed_block other n 0 (fed_block due k r s).sender).outs
  unfolding fed_block
  outs_joined r = ap (outs_of s.line) inputs_joined ∙ outs_append s.line (inputs_of due k 0 s.phase) then_inputs

  sender_joined : (r : ℕ) → (fed_block due (k + n) r s).sender ≡ (fed_block other n 0 (fed_block due k r s).sender).sender
  unfolding fed_block
  sender_joined r =
      let line = ap (line_after s.line) inputs_joined ∙ line_append s.line (inputs_of due k 0 s.phase) then_inputs in
      let phase = phases_append due k n 0 s.phase ∙ sym (later_phases due other k h n 0 (phases_of due k 0 s.phase)) in
      λ i. record { line = line i; phase = phase i }

  fed_refusal : (r : ℕ) → r ≡ (fed_block due (k + n) r s).refusal
  unfolding fed_block
  fed_refusal r = refl

  wrote_more : (r : ℕ) (t u : Sender) (out₀ out part : List Float) → Wrote (fed_block due k r s) k r t out₀ out
      → Wrote (fed_block other n 0 t) n 0 u (take (length out - 2 * k) (drop (2 * k) out)) part
      → Wrote (fed_block due (k + n) r s) (k + n) r u out₀ (take (2 * k) out ++ (part ++ drop (length out - 2 * k) (drop (2 * k) out)))
  wrote_more r t u out₀ out part a b = go (subst (λ (v : Sender). Wrote (fed_block other n 0 v) n 0 u (take (length out - 2 * k) (drop (2 * k) out)) part) a.sent b)
    where
      one : SentBlock
      one = fed_block due k r s

      two : SentBlock
      two = fed_block other n 0 one.sender

      go : Wrote two n 0 u (take (length out - 2 * k) (drop (2 * k) out)) part
          → Wrote (fed_block due (k + n) r s) (k + n) r u out₀ (take (2 * k) out ++ (part ++ drop (length out - 2 * k) (drop (2 * k) out)))
      go c =
          let none : drop (length out - 2 * k) (drop (2 * k) out) ≡ [] = drop_of_length-le (drop (2 * k) out) {i = length out - 2 * k} (omega (arith, length-drop (2 * k) out)) in
          record {
            counted = rw (outs_joined r, length-append one.outs two.outs, ← a.counted, ← c.counted);
            refused = fed_refusal r;
            sent = c.sent ∙ sym (sender_joined r);
            written = rw (none, append-nil part, c.written, rest out (2 * k), a.written, outs_joined r, parts_append one.outs two.outs)
                (start_part (parts_of one.outs) (parts_of two.outs) out₀ (2 * k) (parts_length one.outs ∙ ap (λ (m : ℕ). 2 * m) (sym a.counted)));
          }

-- ---- what is due later, and no samples

due_later : (first start : ℕ) (bits : Option (List ℕ)) (k j : ℕ) → place_due (first + k) start bits j ≡ place_due first start bits (k + j)
unfolding place_due
due_later first start bits k j =
    let m : first + k + j ≡ first + (k + j) = omega arith in
    rw m

-- a piece behind those that were sent
pub wrote_later : (first start : ℕ) (bits : Option (List ℕ)) (s : Sender) {k n m : ℕ} {t u : Sender} {out₀ out part : List Float} → m ≡ k + n
    → Wrote (fed_block (place_due first start bits) k 0 s) k 0 t out₀ out
    → Wrote (fed_block (place_due (first + k) start bits) n 0 t) n 0 u (take (length out - 2 * k) (drop (2 * k) out)) part
    → Wrote (fed_block (place_due first start bits) m 0 s) m 0 u out₀ (take (2 * k) out ++ (part ++ drop (length out - 2 * k) (drop (2 * k) out)))
wrote_later first start bits s {k} {n} {m} {t} {u} {out₀} {out} {part} e a b =
    rw e (wrote_more (place_due first start bits) (place_due (first + k) start bits) k n (due_later first start bits k) s 0 t u out₀ out part a b)

pub wrote_none : (due : ℕ → Result Due ℕ) (r : ℕ) (s : Sender) (out : List Float) → Wrote (fed_block due 0 r s) 0 r s out out
unfolding fed_block inputs_of outs_of line_after phases_of parts_of start_with
wrote_none due r s out = record { counted = refl; refused = refl; sent = refl; written = refl }

-- ---- the first sample

first_due : (first : ℤ) (slot : ℕ) (bits : Option (List ℕ)) → due_after first slot bits 0 ≡ due_of first slot bits
unfolding due_after
first_due first slot bits =
    let f : first +ℤ pos 0 ≡ first = same (first +ℤ pos 0) first (omega (arith, sum first (pos 0))) in
    rw f

-- it is refused, whatever room there is
pub none_sent : (first : ℤ) (slot : ℕ) (bits : Option (List ℕ)) (r room : ℕ) (s : Sender) (out : List Float) → (r ≡ 0 → ⊥) → Err r ≡ due_of first slot bits
    → Wrote (block_call (due_after first slot bits) room s) 0 r s out out
unfolding block_call parts_of start_with due_refusal
none_sent first slot bits zero room s out h e = absurd (h refl)
none_sent first slot bits (suc r) zero s out h e = rw (first_due first slot bits, ← e) (record { counted = refl; refused = refl; sent = refl; written = refl })
none_sent first slot bits (suc r) (suc room) s out h e =
    rw (stopped (due_after first slot bits) room 0 r s (first_due first slot bits ∙ sym e)) (record { counted = refl; refused = refl; sent = refl; written = refl })

-- what is known of a first sample that is sent, at the counter m
pub record Opened (first : ℤ) (m slot : ℕ) (bits : Option (List ℕ)) : Type 0 where
  pub is : first ≡ pos m
  pub small : m ≤ last_counter
  pub accepted : input_refusal (pos m) slot bits ≡ 0
  pub unrefused : due_refusal (due_of (pos m) slot bits) ≡ 0

input_accepted : (n : ℕ) (d : Result Due ℕ) → due_refusal (due_if n d) ≡ 0 → n ≡ 0
unfolding due_if due_refusal
input_accepted zero d e = refl
input_accepted (suc n) d e = e

pub opened : (first : ℤ) (m slot : ℕ) (bits : Option (List ℕ)) (d : Due) → m ≡ mag first → Ok d ≡ due_of first slot bits → Opened first m slot bits
unfolding due_of due_refusal
opened first m slot bits d e f =
    let unrefused : due_refusal (due_of first slot bits) ≡ 0 = rw (← f) in
    let none : input_refusal first slot bits ≡ 0 = input_accepted _ _ unrefused in
    let count = accepted_count first slot bits none in
    let is : first ≡ pos m = count.0 ∙ ap pos (sym e) in
    record {
      is = is;
      small = rw e count.1;
      accepted = ap (λ (z : ℤ). input_refusal z slot bits) (sym is) ∙ none;
      unrefused = ap (λ (z : ℤ). due_refusal (due_of z slot bits)) (sym is) ∙ unrefused;
    }

pub small_sent : (first : ℤ) (m slot : ℕ) (bits : Option (List ℕ)) (d : Due) → Ok d ≡ due_of first slot bits → m ≡ mag first → m ≤ last_counter
small_sent first m slot bits d f e = (opened first m slot bits d e f).small

room_called : (due : ℕ → Result Due ℕ) (room : ℕ) (s : Sender) → due_refusal (due 0) ≡ 0 → block_call due room s ≡ sent_block due room 0 s
unfolding block_call sent_block
room_called due zero s h = rw h
room_called due (suc room) s h = refl

count_within : (m start : ℕ) → m ≤ last_counter → m + left_of m start ≤ counters
unfolding left_of
count_within m start h = omega arith

pub left_sent : (first : ℤ) (m slot : ℕ) (bits : Option (List ℕ)) (d : Due) (start k : ℕ) → Ok d ≡ due_of first slot bits → m ≡ mag first → start ≡ start_of slot → k ≡ left_of m start → m + k ≤ counters
left_sent first m slot bits d start k f e g h = omega (arith, count_within m start (small_sent first m slot bits d f e))

module _ (first : ℤ) (m slot : ℕ) (bits : Option (List ℕ)) (o : Opened first m slot bits) (start k : ℕ) (e : start ≡ start_of slot) (f : k ≡ left_of m start) where
  called : (room : ℕ) (s : Sender) → block_call (due_after first slot bits) room s ≡ sent_block (due_after (pos m) slot bits) room 0 s
  called room s =
      ap (λ (z : ℤ). block_call (due_after z slot bits) room s) o.is
      ∙ room_called (due_after (pos m) slot bits) room s (ap due_refusal (first_due (pos m) slot bits) ∙ o.unrefused)

  -- a block that fills its room, and one that ends before
  pub filled_wrote : (room n : ℕ) (s t : Sender) (out out' : List Float) → room ≤ k → n ≡ room → Wrote (fed_block (place_due m start bits) n 0 s) n 0 t out out'
      → Wrote (block_call (due_after first slot bits) room s) n 0 t out out'
  filled_wrote room n s t out out' h g w =
      rw (called room s, filled m slot bits o.accepted room s (omega (arith, ap (left_of m) e)), ← e, ← g) w

  pub ended_wrote : (room n r : ℕ) (s t : Sender) (out out' : List Float) → k < room → n ≡ k → r ≡ cond (eqb (m + n) counters) 2 12
      → Wrote (fed_block (place_due m start bits) n 0 s) n 0 t out out' → Wrote (block_call (due_after first slot bits) room s) n r t out out'
  ended_wrote room n r s t out out' h i g w =
      let l : n ≡ left_of m (start_of slot) = i ∙ f ∙ ap (left_of m) e in
      rw (called room s, ended m slot bits o.accepted room r s (omega (arith, f, ap (left_of m) e)) (count_within m (start_of slot) o.small) (rw l at g), ← l, ← e)
      (wrote_before (place_due m start bits) n r s t out out' w)

-- ---- a block is no longer than its room

no_longer : (m : ℕ) (t : SenderReply) (s : Sender) (rest : SentBlock) (n : ℕ) → length t.samples ≤ 1 → length rest.outs ≤ n → length (joined_if m t s rest).outs ≤ suc n
unfolding joined_if
no_longer zero t s rest n h k = omega (arith, length-append t.samples rest.outs)
no_longer (suc m) t s rest n h k = omega arith

one_sample : (s : Sender) (d : Result Due ℕ) → length (tells s d).samples ≤ 1
unfolding tells told_of shaped_of
one_sample s (Err n) = omega arith
one_sample s (Ok due) = omega arith

sent_within : (due : ℕ → Result Due ℕ) (n i : ℕ) (s : Sender) → length (sent_block due n i s).outs ≤ n
unfolding sent_block joined
sent_within due zero i s = omega arith
sent_within due (suc n) i s = no_longer (tells s (due i)).number (tells s (due i)) (sender_after s (due i)) _ n (one_sample s (due i)) (sent_within due n (suc i) (sender_after s (due i)))

-- of what a block call promises
pub wrote_within : (due : ℕ → Result Due ℕ) (n count r : ℕ) (s t : Sender) (out out' : List Float) {Kept : Type 0} → Wrote (block_call due n s) count r t out out' × Kept → count ≤ n
unfolding block_call
wrote_within due zero count r s t out out' w = omega (arith, w.0.counted)
wrote_within due (suc n) count r s t out out' w = omega (arith, w.0.counted, sent_within due (suc n) 0 s)
