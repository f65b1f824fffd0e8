-- A sample with which, or with a zero before it, an uplink window closes, and the take after it: the slot's three views are those of its windows' bits, and so a built burst among them is reported.
use mathlib.Core.Path.{◌≡◌, refl, sym, ap, subst, ◌∙◌}
use mathlib.Core.Bool.{Bool, true, false, cond}
use mathlib.Core.Logic.{◌⊎◌, inl, inr}
use mathlib.Core.List.{List, [], ◌∷◌, ◌++◌, Memᴰ, map, map-append}
use Prim.Native.Nat.{ℕ, zero, suc, ◌*◌, ◌≤◌}
use native.Mathlib.Omega.{arith}
use Rattle.std.specs.Prelude.{Result, Ok, Err, OnErr}
use lib.IntN.{ℤ, pos, nat_abs, ◌-ℤ◌}
use lib.ListN.{length, get_or}
use Rattle.dsp_types.specs.declared.ComplexSample.{ComplexSample}
use Rattle.dsp_types.specs.Refusals.{accepted, wrong_length}
use Rattle.dsp_types.specs.Samples.{silence}
use Rattle.dsp_types.proofs.Laws.{slot_below}
use Rattle.burst_finder.specs.declared.SlotType.TheVariants as SlotType
use Rattle.burst_finder.specs.Slots.{check_slot}
use Rattle.listener.specs.Signal.{Signal, bits_of, window_bits}
use Rattle.rx_slot.specs.declared.RxSlot.{RxSlot}
use Rattle.rx_slot.specs.Views.{BurstView, view_on, checked}
use Rattle.rx_slot.specs.Slots.{HandedSlot, valid_closing, valid_slot, shown, filled}
use Rattle.slot_receiver.specs.declared.Mode.TheVariants.{Ul}
use Rattle.slot_receiver.specs.Receiver.{Receiver, with_waits, with_slot, with_clock, with_next, with_signal, valid_count, listen, ready, closes, feed_zeros, zeros_before, accept, hand_over, uplink_slot, process_past_samples, next_slot, schedule, processed, close_window, close_if, arrive, process_sample}
use Rattle.slot_receiver.specs.Windows as Windows
use Rattle.slot_receiver.specs.Windows.{Window, kind_of, window_if, window_at, window_of, zeros_windows, accept_windows}
use Rattle.slot_receiver.specs.Calls.{Reply, took, Outcome, unless, sample_refusal, sampled, sample_outcome, take_refusal, taken, take_outcome, in_numbers}
use Rattle.slot_receiver.specs.Closing.{ClosedAt}
use Rattle.slot_receiver.proofs.Taken.{window_valid, valid_slot_lem}
use Rattle.slot_receiver.proofs.Closing.{ready_keeps, closed_at_lem, closed_count, counter_valid}
use Rattle.slotter.specs.Uplink.{normal_uplink, uplink_number}
use Rattle.uplink.specs.Placed.{normal_window, control_window, NormalReported, ControlReported}
use Rattle.uplink.specs.Received.{taken_after, ClosingWindow, closed_at, closed_by_zeros, closed_in, ClosesUplink, Took, ControlTaken, BurstsTaken, CounterTaken}
use Rattle.uplink.proofs.Judging.{normal_reported, normal_part, control_said_lem, control_part}

-- ---- the sample

-- the slot of an uplink window
abbrev slot_on : ClosingWindow → HandedSlot
slot_on w = uplink_slot w.receiver.clock.current_slot w.counter w.receiver.signal

-- a receiver after the close of a window
abbrev after_it : ClosingWindow → Receiver
after_it w = close_window w.receiver w.counter

module _ (w : ClosingWindow) (uplink : w.receiver.mode ≡ Ul) where
  handed : processed w.receiver w.counter ≡ hand_over w.receiver (slot_on w)
  unfolding processed process_past_samples
  handed = rw uplink

  closed : after_it w ≡ next_slot (hand_over w.receiver (slot_on w))
  unfolding close_window schedule hand_over with_waits with_slot
  closed = rw (handed, uplink)

  closed_slot : ((after_it w).slot ≡ slot_on w) × ((after_it w).waits ≡ true)
  unfolding next_slot with_clock hand_over with_waits with_slot
  closed_slot = (ap (λ (r : Receiver). r.slot) closed, ap (λ (r : Receiver). r.waits) closed)

-- a list that starts with w
record Led (list : List ClosingWindow) (w : ClosingWindow) : Type 0 where
  pub rest : List ClosingWindow
  pub is : list ≡ w ∷ rest

first : ClosingWindow → List ClosingWindow → ClosingWindow
first v [] = v
first v (w ∷ rest) = w

none : {l : List ClosingWindow} {w : ClosingWindow} {rest : List ClosingWindow} → l ≡ [] → l ≡ w ∷ rest → ⊥
none e f = omega (arith, ap length e, ap length f)

both_empty : (l m : List ClosingWindow) → l ++ m ≡ [] → (l ≡ []) × (m ≡ [])
both_empty [] m e = (refl, e)
both_empty (w ∷ l) m e = absurd (none e refl)

either_leads : (l m : List ClosingWindow) (w : ClosingWindow) → Led (l ++ m) w → Led l w ⊎ ((l ≡ []) × Led m w)
unfolding first
either_leads [] m w e = inr (refl, e)
either_leads (v ∷ l) m w e = inl (record { rest = l; is = ap (λ (f : ClosingWindow). f ∷ l) (ap (first v) e.is) })

-- the slot that a receiver keeps, and whether it waits
record Keeps (r : Receiver) (h : HandedSlot) (waits : Bool) : Type 0 where
  pub slot : r.slot ≡ h
  pub wait : r.waits ≡ waits

then : {r s : Receiver} {h : HandedSlot} {waits : Bool} → Keeps s r.slot r.waits → Keeps r h waits → Keeps s h waits
then a b = record { slot = a.slot ∙ b.slot; wait = a.wait ∙ b.wait }

-- with one sample a window closes, or nothing of the slot changes
module _ (r : Receiver) (c : ℤ) where
  abbrev now : ClosingWindow
  now = record { receiver = ready r c; counter = c }

  quiet : closed_at r c ≡ [] → Keeps (arrive r c) r.slot r.waits
  unfolding closed_at arrive close_if
  quiet = go (closes (ready r c) c)
    where
      go : (b : Bool) → cond b (now ∷ []) [] ≡ [] → Keeps (close_if b (ready r c) c) r.slot r.waits
      go true e = absurd (none e refl)
      go false e = let k = ready_keeps r c in record { slot = k.0; wait = k.1 }

  closing : (w : ClosingWindow) → Led (closed_at r c) w → arrive r c ≡ after_it w
  unfolding closed_at arrive close_if first
  closing w = go (closes (ready r c) c)
    where
      go : (b : Bool) → Led (cond b (now ∷ []) []) w → close_if b (ready r c) c ≡ after_it w
      go true e = ap (λ (l : List ClosingWindow). after_it (first now l)) e.is
      go false e = absurd (none refl e.is)

  -- of an uplink receiver
  closes_with : (w : ClosingWindow) → w.receiver.mode ≡ Ul → Led (closed_at r c) w → Keeps (arrive r c) (slot_on w) true
  closes_with w uplink e =
      let s = closed_slot w uplink in
      record { slot = ap (λ (r : Receiver). r.slot) (closing w e) ∙ s.0; wait = ap (λ (r : Receiver). r.waits) (closing w e) ∙ s.1 }

-- zeros, any number of them
zeros_keep : (k : ℕ) (r : Receiver) (c : ℤ) → closed_by_zeros k r c ≡ [] → Keeps (feed_zeros k r c) r.slot r.waits
unfolding closed_by_zeros feed_zeros process_sample listen with_signal
zeros_keep zero r c e = record { slot = refl; wait = refl }
zeros_keep (suc k) r c e =
    let at : ℤ = c -ℤ pos (suc k) in
    let next : Receiver = process_sample r silence at in
    let n = both_empty (closed_by_zeros k next c) (closed_at (listen r silence) at) e in
    then (zeros_keep k next c n.0) (quiet (listen r silence) at n.1)

zeros_close : (k : ℕ) (r : Receiver) (c : ℤ) (w : ClosingWindow) → w.receiver.mode ≡ Ul → Led (closed_by_zeros k r c) w → Keeps (feed_zeros k r c) (slot_on w) true
unfolding closed_by_zeros feed_zeros process_sample
zeros_close zero r c w uplink e = absurd (none refl e.is)
zeros_close (suc k) r c w uplink e =
    let at : ℤ = c -ℤ pos (suc k) in
    let next : Receiver = process_sample r silence at in
    elim (either_leads (closed_by_zeros k next c) (closed_at (listen r silence) at) w e) [
      | inl l ↦ zeros_close k next c w uplink l
      | inr l ↦ then (zeros_keep k next c l.0) (closes_with (listen r silence) at w uplink l.1)
    ]

-- an accepted sample
module _ (r : Receiver) (x : ComplexSample) (c : ℤ) (w : ClosingWindow) (e : ClosesUplink r x c w) where
  abbrev fed : Receiver
  fed = feed_zeros (zeros_before r c) r c

  heard_keeps : Keeps (process_sample fed x c) (slot_on w) true
  unfolding closed_in process_sample listen with_signal
  heard_keeps =
      elim (either_leads (closed_at (listen fed x) c) (closed_by_zeros (zeros_before r c) r c) w (record { rest = e.earlier; is = e.last })) [
        | inl l ↦ closes_with (listen fed x) c w e.uplink l
        | inr l ↦ then (quiet (listen fed x) c l.0) (zeros_close (zeros_before r c) r c w e.uplink l.1)
      ]

  waiting : Keeps (sample_outcome r x c).receiver (slot_on w) true
  unfolding sample_outcome unless sampled accept with_next
  waiting = rw e.accepts (record { slot = heard_keeps.slot; wait = heard_keeps.wait })

-- the windows are those that the call's outcome tells
abbrev pub told : List ClosingWindow → List Window
told closed = map (λ (w : ClosingWindow). record { counter = nat_abs w.counter; kind = kind_of w.receiver.mode (after_it w) }) closed

same_at : (r : Receiver) (c : ℤ) → told (closed_at r c) ≡ window_at r c
unfolding closed_at window_at window_if
same_at r c = go (closes (ready r c) c)
  where
    go : (b : Bool) → told (cond b (now r c ∷ []) []) ≡ window_if b (ready r c) c
    go true = refl
    go false = refl

joined : (l m : List ClosingWindow) (v w : List Window) → told l ≡ v → told m ≡ w → told (l ++ m) ≡ v ++ w
joined l m v w e f = map-append _ l m ∙ rw (e, f)

same_zeros : (k : ℕ) (r : Receiver) (c : ℤ) → told (closed_by_zeros k r c) ≡ zeros_windows k r c
unfolding closed_by_zeros zeros_windows window_of
same_zeros zero r c = refl
same_zeros (suc k) r c =
    let at : ℤ = c -ℤ pos (suc k) in
    let next : Receiver = process_sample r silence at in
    joined (closed_by_zeros k next c) (closed_at (listen r silence) at) (zeros_windows k next c) (window_at (listen r silence) at) (same_zeros k next c) (same_at (listen r silence) at)

pub same_windows : (r : Receiver) (x : ComplexSample) (c : ℤ) → told (closed_in r x c) ≡ accept_windows r x c
unfolding closed_in accept_windows window_of
same_windows r x c =
    let n : ℕ = zeros_before r c in
    let last : Receiver = listen (feed_zeros n r c) x in
    joined (closed_at last c) (closed_by_zeros n r c) (window_at last c) (zeros_windows n r c) (same_at last c) (same_zeros n r c)

-- ---- the take

uplink_valid : (current : ℕ) (c : ℤ) (s : Signal) → valid_closing c ≡ c → valid_slot (uplink_slot current c s) ≡ uplink_slot current c s
unfolding uplink_slot
uplink_valid current c s e =
    valid_slot_lem (uplink_slot current c s) (slot_below _) e
    (record { full = window_valid SlotType.UlFull s 1024 256; subslot1 = window_valid SlotType.UlSub s 1024 128; subslot2 = window_valid SlotType.UlSub s 514 128 })

-- a slot that waits, taken into slices of the right lengths
take_waiting : (r : Receiver) (slot subslot1 subslot2 : List ℕ) → r.waits ≡ true → length slot ≡ 510 → length subslot1 ≡ 254 → length subslot2 ≡ 254
    → take_outcome r slot subslot1 subslot2 ≡ taken r (valid_slot r.slot)
unfolding take_outcome unless take_refusal wrong_length
take_waiting r slot subslot1 subslot2 w a b c = rw (w, a, b, c)

-- what was taken: the slot in numbers, and its views in the lent slices
pub record TookSlot (h : HandedSlot) (reply : Reply RxSlot) (lent : List (List ℕ)) : Type 0 where
  pub answer : reply ≡ took (shown h)
  pub bytes : lent ≡ filled h

-- the counter of an uplink window
module _ (r : Receiver) (x : ComplexSample) (c : ℤ) (w : ClosingWindow) (e : ClosesUplink r x c w) where
  abbrev window : Window
  window = record { counter = nat_abs w.counter; kind = kind_of w.receiver.mode (after_it w) }

  among : Memᴰ window (accept_windows r x c)
  among =
      let f : accept_windows r x c ≡ window ∷ told e.earlier = sym (same_windows r x c) ∙ ap told e.last in
      rw f (Memᴰ.head refl)

  hands_it : kind_of w.receiver.mode (after_it w) ≡ Windows.slot (after_it w).slot
  unfolding kind_of
  hands_it = rw e.uplink

  counts : valid_closing w.counter ≡ w.counter
  unfolding uplink_slot
  counts =
      let own : (after_it w).slot.closing_counter ≡ pos (nat_abs w.counter) = (closed_at_lem r x c e.accepts).own window (after_it w).slot among hands_it in
      let f : w.counter ≡ pos (nat_abs w.counter) = sym (ap (λ (h : HandedSlot). h.closing_counter) (closed_slot w e.uplink).0) ∙ own in
      let v = counter_valid (nat_abs w.counter) (closed_count r x c e.accepts window among) in
      ap valid_closing f ∙ v ∙ sym f

module _ (r : Receiver) (x : ComplexSample) (c : ℤ) (slot subslot1 subslot2 : List ℕ) (w : ClosingWindow) (e : ClosesUplink r x c w)
    (a : length slot ≡ 510) (b : length subslot1 ≡ 254) (d : length subslot2 ≡ 254) where
  took_slot : TookSlot (slot_on w) (in_numbers (taken_after r x c slot subslot1 subslot2).reply) (taken_after r x c slot subslot1 subslot2).lent
  unfolding taken_after taken in_numbers
  took_slot =
      let k = waiting r x c w e in
      let t = take_waiting (sample_outcome r x c).receiver slot subslot1 subslot2 k.wait a b d in
      let v : valid_slot (sample_outcome r x c).receiver.slot ≡ slot_on w = ap valid_slot k.slot ∙ uplink_valid _ _ _ (counts r x c w e) in
      record {
        answer = ap (λ (o : Outcome). in_numbers o.reply) t ∙ ap (λ (h : HandedSlot). took (shown h)) v;
        bytes = ap (λ (o : Outcome). o.lent) t ∙ ap filled v;
      }

same_taken : {s t : RxSlot} → took s ≡ took t → s ≡ t
same_taken e = cc

-- ---- the bursts

module _ (s : Signal) (current : ℕ) (c : ℤ) (reply : Reply RxSlot) (lent : List (List ℕ)) (t : TookSlot (uplink_slot current c s) reply lent) where
  took_counter : (slot : RxSlot) → reply ≡ took slot → slot.closing_counter.0 ≡ c
  unfolding uplink_slot shown
  took_counter slot e = let f : slot ≡ shown (uplink_slot current c s) = same_taken (sym e ∙ t.answer) in ap (λ (s : RxSlot). s.closing_counter.0) f

  took_full : Took (λ s. s.full) 0 510 reply lent (checked SlotType.UlFull (window_bits s))
  unfolding uplink_slot shown filled
  took_full = record { slot = shown (uplink_slot current c s); answer = t.answer; shown = refl; bytes = ap (λ (l : List (List ℕ)). get_or l 0 []) t.bytes }

  took_first : Took (λ s. s.subslot1) 1 254 reply lent (checked SlotType.UlSub (bits_of s 1024 128))
  unfolding uplink_slot shown filled
  took_first = record { slot = shown (uplink_slot current c s); answer = t.answer; shown = refl; bytes = ap (λ (l : List (List ℕ)). get_or l 1 []) t.bytes }

  took_second : Took (λ s. s.subslot2) 2 254 reply lent (checked SlotType.UlSub (bits_of s 514 128))
  unfolding uplink_slot shown filled
  took_second = record { slot = shown (uplink_slot current c s); answer = t.answer; shown = refl; bytes = ap (λ (l : List (List ℕ)). get_or l 2 []) t.bytes }

-- a window with a built burst in it, of whose view something is said
normal_taken : (said : BurstView → Type 0) (bits : List ℕ) → said (checked SlotType.UlFull bits)
    → (train : ℕ) (blk1 blk2 : List ℕ) (k : ℕ) → uplink_number (normal_uplink train blk1 blk2) ≡ accepted → k ≤ 24 → bits ≡ normal_window train blk1 blk2 (2 * k)
    → NormalReported (λ f. said (view_on bits f)) train bits k
unfolding checked
normal_taken said bits s train blk1 blk2 k built h e =
    subst (λ (w : List ℕ). NormalReported (λ f. said (view_on w f)) train w k) (sym e)
    (normal_reported train blk1 blk2 (2 * k) built (λ f. said (view_on (normal_window train blk1 blk2 (2 * k)) f)) (subst (λ (w : List ℕ). said (view_on w (check_slot SlotType.UlFull w))) e s) k refl h)

control_taken : (said : BurstView → Type 0) (bits : List ℕ) → said (checked SlotType.UlSub bits) → ControlTaken bits said
unfolding checked
control_taken said bits s blk1 blk2 k built h e =
    subst (λ (w : List ℕ). ControlReported (λ f. said (view_on w f)) w k) (sym e)
    (control_said_lem blk1 blk2 (2 * k) built (λ f. said (view_on (control_window blk1 blk2 (2 * k)) f)) (subst (λ (w : List ℕ). said (view_on w (check_slot SlotType.UlSub w))) e s) k refl h)

pub bursts_taken : (r : Receiver) (x : ComplexSample) (c : ℤ) (slot subslot1 subslot2 : List ℕ) {reply : Reply RxSlot} {lent : List (List ℕ)}
    → reply ≡ in_numbers (taken_after r x c slot subslot1 subslot2).reply → lent ≡ (taken_after r x c slot subslot1 subslot2).lent
    → (w : ClosingWindow) → ClosesUplink r x c w → length slot ≡ 510 → length subslot1 ≡ 254 → length subslot2 ≡ 254 → BurstsTaken w reply lent
bursts_taken r x c slot subslot1 subslot2 {reply} {lent} p q w e a b d =
    let s : Signal = w.receiver.signal in
    let n : ℕ = w.receiver.clock.current_slot in
    let o = took_slot r x c slot subslot1 subslot2 w e a b d in
    let t : TookSlot (uplink_slot n w.counter s) reply lent = record { answer = p ∙ o.answer; bytes = q ∙ o.bytes } in
    record {
      counter = took_counter s n w.counter reply lent t;
      full = normal_taken (Took (λ s. s.full) 0 510 reply lent) (window_bits s) (took_full s n w.counter reply lent t);
      first_half = control_taken (Took (λ s. s.subslot1) 1 254 reply lent) (bits_of s 1024 128) (took_first s n w.counter reply lent t);
      second_half = control_taken (Took (λ s. s.subslot2) 2 254 reply lent) (bits_of s 514 128) (took_second s n w.counter reply lent t);
      full_bits = λ train blk1 blk2 k built i. normal_part train blk1 blk2 (2 * k) built (omega arith);
      half_bits = λ blk1 blk2 k built i. control_part blk1 blk2 (2 * k) built (omega arith);
    }

-- ---- a receiver in any mode

taken_counter : (k : ℕ) (r : Receiver) (l : List (List ℕ)) (s : RxSlot) → took s ≡ in_numbers (unless k r l (taken r (valid_slot r.slot))).reply
    → s.closing_counter.0 ≡ valid_closing r.slot.closing_counter
unfolding unless taken in_numbers shown valid_slot
taken_counter zero r l s e = let f : s ≡ shown (valid_slot r.slot) = same_taken e in ap (λ (s : RxSlot). s.closing_counter.0) f
taken_counter (suc k) r l s e = absurd (let z : ◌≡◌ {A = ℕ} 0 1 = cc in omega arith)

pub counter_taken : (r : Receiver) (x : ComplexSample) (c : ℤ) (slot subslot1 subslot2 : List ℕ) {reply : Reply RxSlot}
    → reply ≡ in_numbers (taken_after r x c slot subslot1 subslot2).reply → (s : RxSlot) → sample_refusal (valid_count r.next) x c ≡ accepted → reply ≡ took s
    → CounterTaken r x c s
unfolding taken_after take_outcome sample_outcome unless sampled
counter_taken r x c slot subslot1 subslot2 p s e q =
    let k : ClosedAt r x c = closed_at_lem r x c e in
    record {
      windows = k;
      taken = taken_counter (take_refusal slot subslot1 subslot2 (accept r x c).waits) (accept r x c) (slot ∷ subslot1 ∷ subslot2 ∷ []) s (sym q ∙ p ∙ rw e) ∙ ap valid_closing k.last;
    }

-- ---- two refused calls

pub both_refused : {A B E D : Type 0} (a b c : D) (x : Result A E) (y : Result B E) → OnErr x (b ≡ a) → OnErr y (c ≡ b) → OnErr x (OnErr y (c ≡ a))
both_refused a b c (Ok x) y e f = tt
both_refused a b c (Err m) (Ok y) e f = tt
both_refused a b c (Err m) (Err n) e f = f ∙ e
