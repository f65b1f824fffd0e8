-- What windows make of the slot number and of the slot handed over last, sample by sample, for every receiver whose current slot's number
-- is in range: the numbers stay in range, and the views stay such as a window leaves them. The theorem is `numbered`.
use mathlib.Core.Path.{◌≡◌, refl, ap, sym, ◌∙◌}
use mathlib.Core.Bool.{Bool, true, false, true≢false, ◌||◌}
use mathlib.Core.Logic.{◌⊎◌, inl, inr}
use mathlib.Core.List.Memᴰ
use mathlib.Core.List.{List, [], ◌∷◌, ◌++◌, Memᴰ, append-nil, append_assoc}
use Prim.Native.Nat.{ℕ, zero, suc, ◌<◌}
use native.Mathlib.Nat.{mod-lt}
use native.Mathlib.Omega.{arith}
use lib.IntN.{ℤ, pos, negsuc, nat_abs, ◌+ℤ◌, ◌-ℤ◌}
use Rattle.dsp_types.proofs.Laws.{slot_below}
use Rattle.dsp_types.specs.declared.ComplexSample.{ComplexSample}
use Rattle.dsp_types.specs.Samples.{silence}
use Rattle.dsp_types.specs.Times.{slots}
use Rattle.burst_finder.specs.declared.SlotType.TheVariants as SlotType
use Rattle.slot_receiver.specs.Receiver as R
use Rattle.slot_receiver.specs.declared.Mode.{Mode}
use Rattle.slot_receiver.specs.declared.Mode.TheVariants.{Idle, DlUnsynchronized, Dl, Ul}
use Rattle.rx_slot.specs.Slots.{HandedSlot, with_views, valid_slot}
use Rattle.slot_receiver.specs.Receiver.{Receiver, with_mode, with_clock, with_lock, with_waits, with_slot, with_next, with_signal, close_window, valid_count, valid_clock, valid, process_sample, feed_zeros, accept}
use Rattle.slot_receiver.specs.Windows.{slot, Window, search_kind, kind_of, window_if, window_at, window_of, zeros_windows, accept_windows, is_slot, hands_over}
use Rattle.slot_receiver.specs.Calls.{took, Outcome, unless, sample_refusal, sampled, sample_outcome, take_refusal, taken, take_outcome}
use Rattle.receiver.specs.Feed.{at_slot, Block, fed_one, fed_by, feed_of}
use Rattle.account.specs.Numbers.{Numbered}
use Rattle.slot_receiver.proofs.Taken.{Views, none_valid, window_valid, valid_number}
use Rattle.slot_receiver.proofs.Closing.{search_none}

-- ---- from r to r', closing the windows ws
pub record Step (r r' : Receiver) (ws : List Window) : Type 0 where
  pub current : r'.clock.current_slot < slots
  pub windows : (w : Window) (h : HandedSlot) → Memᴰ w ws → w.kind ≡ slot h → h.time < slots
  pub handed : hands_over ws ≡ true → r'.slot.time < slots
  pub time : r.slot.time < slots → r'.slot.time < slots
  pub views : Views r.slot → Views r'.slot

pub still : (r r' : Receiver) → r'.clock.current_slot < slots → r'.slot ≡ r.slot → Step r r' []
unfolding hands_over
still r r' h e =
    record {
      current = h;
      windows = λ w g m k. absurd (Memᴰ.not-nil m);
      handed = λ z. absurd (true≢false (sym z));
      time = λ t. rw e t;
      views = λ v. rw e v;
    }

hands_either : (vs ws : List Window) → hands_over (vs ++ ws) ≡ true → (hands_over vs ≡ true) ⊎ (hands_over ws ≡ true)
unfolding hands_over
hands_either [] ws e = inr e
hands_either (v ∷ vs) ws e = go (is_slot v.kind) e (hands_either vs ws)
  where
    go : (b : Bool) → (b || hands_over (vs ++ ws)) ≡ true → (hands_over (vs ++ ws) ≡ true → (hands_over vs ≡ true) ⊎ (hands_over ws ≡ true))
        → ((b || hands_over vs) ≡ true) ⊎ (hands_over ws ≡ true)
    go true f others = inl refl
    go false f others = others f

-- one after the other: the windows stand the last first
pub both : {r s t : Receiver} {vs ws : List Window} → Step r s ws → Step s t vs → Step r t (vs ++ ws)
both {vs = vs} {ws = ws} p q =
    record {
      current = q.current;
      windows = λ w h m k. elim (Memᴰ.append_cases vs m) [ inl n ↦ q.windows w h n k | inr n ↦ p.windows w h n k ];
      handed = λ e. elim (hands_either vs ws e) [ inl f ↦ q.handed f | inr f ↦ q.time (p.handed f) ];
      time = λ e. q.time (p.time e);
      views = λ e. q.views (p.views e);
    }

-- ---- a window's bits are read: in the mode m
record Read (m : Mode) (r r' : Receiver) : Type 0 where
  current : r'.clock.current_slot < slots
  handed : (after : Receiver) (h : HandedSlot) → after.slot ≡ r'.slot → kind_of m after ≡ slot h → h.time < slots
  time : r.slot.time < slots → r'.slot.time < slots
  views : Views r.slot → Views r'.slot

-- a window that hands a slot over is of the receiver's slot
search_hands : (m : Mode) (A : Type 0) → (is_slot (search_kind m) || false) ≡ true → A
unfolding search_kind is_slot
search_hands Idle A e = absurd (true≢false (sym e))
search_hands DlUnsynchronized A e = absurd (true≢false (sym e))
search_hands Dl A e = absurd (true≢false (sym e))
search_hands Ul A e = absurd (true≢false (sym e))

hands_its : (m : Mode) (r : Receiver) → (is_slot (kind_of m r) || false) ≡ true → kind_of m r ≡ slot r.slot
unfolding kind_of is_slot
hands_its Idle r e = absurd (true≢false (sym e))
hands_its DlUnsynchronized r e = search_hands r.mode (search_kind r.mode ≡ slot r.slot) e
hands_its Dl r e = refl
hands_its Ul r e = refl

same_slot : {g h : HandedSlot} → slot g ≡ slot h → g ≡ h
same_slot e = cc

search_read : (b : Bool) (place : ℕ) (r : Receiver) → r.clock.current_slot < slots → Read DlUnsynchronized r (R.search_window b place r)
unfolding kind_of R.search_window R.found R.not_found_yet with_views R.emptied R.set_slot with_mode with_clock with_lock with_slot
search_read true place r few =
    record {
      current = slot_below (negsuc 0);
      handed = λ a h e k. absurd (search_none a.mode h k);
      time = λ h. omega arith;
      views = λ v. record { full = none_valid; subslot1 = v.subslot1; subslot2 = v.subslot2 };
    }
search_read false place r few =
    record {
      current = few;
      handed = λ a h e k. absurd (search_none a.mode h k);
      time = λ h. h;
      views = λ v. record { full = none_valid; subslot1 = v.subslot1; subslot2 = v.subslot2 };
    }

number_of : (g h : HandedSlot) → g ≡ h → g.time < slots → h.time < slots
number_of g h e k = rw (← e) k

read : (m : Mode) (r : Receiver) (c : ℤ) → r.clock.current_slot < slots → Read m r (R.process_past_samples m r c)
unfolding kind_of R.process_past_samples R.downlink_window R.downlink_slot R.uplink_slot R.hand_over with_mode with_lock with_waits with_slot
read Idle r c few =
    record { current = few; handed = λ a h e k. absurd (let z : ◌≡◌ {A = ℕ} 0 1 = cc in omega arith); time = λ h. h; views = λ v. v }
read DlUnsynchronized r c few = search_read _ _ r few
read Dl r c few =
    record {
      current = few;
      handed = λ a h e k. number_of (R.process_past_samples Dl r c).slot h (sym e ∙ same_slot k) few;
      time = λ h. few;
      views = λ v. record { full = window_valid SlotType.Dl r.signal 1024 256; subslot1 = v.subslot1; subslot2 = v.subslot2 };
    }
read Ul r c few =
    record {
      current = few;
      handed = λ a h e k. number_of (R.process_past_samples Ul r c).slot h (sym e ∙ same_slot k) (slot_below _);
      time = λ h. slot_below _;
      views = λ v. record {
        full = window_valid SlotType.UlFull r.signal 1024 256;
        subslot1 = window_valid SlotType.UlSub r.signal 1024 128;
        subslot2 = window_valid SlotType.UlSub r.signal 514 128;
      };
    }

-- the next window: the slot stays
record Next (r r' : Receiver) : Type 0 where
  current : r'.clock.current_slot < slots
  slot : r'.slot ≡ r.slot

next : (m : Mode) (r : Receiver) → r.clock.current_slot < slots → Next r (R.schedule m r)
unfolding R.schedule R.search_on R.next_slot R.track R.add_slots R.set_slot with_clock with_lock
next Idle r few = record { current = few; slot = refl }
next DlUnsynchronized r few = record { current = few; slot = refl }
next Dl r few = record { current = slot_below _; slot = refl }
next Ul r few = record { current = slot_below _; slot = refl }

-- ---- a window closes
module _ (r : Receiver) (few : r.clock.current_slot < slots) (c : ℤ) where
  abbrev w : Window
  w = record { counter = nat_abs c; kind = kind_of r.mode (close_window r c) }

  closes : Step r (close_window r c) (w ∷ [])
  unfolding close_window R.processed hands_over
  closes =
      let s : Receiver = R.process_past_samples r.mode r c in
      let p : Read r.mode r s = read r.mode r c few in
      let n : Next s (close_window r c) = next s.mode s p.current in
      record {
        current = n.current;
        windows = λ v h m e. p.handed (close_window r c) h n.slot (ap (λ (u : Window). u.kind) (sym (Memᴰ.eq_of_singleton m)) ∙ e);
        handed = λ e. p.handed (close_window r c) (close_window r c).slot n.slot (hands_its r.mode (close_window r c) e);
        time = λ t. rw n.slot (p.time t);
        views = λ v. rw n.slot (p.views v);
      }

-- ---- a sample
closes_if : (b : Bool) (r : Receiver) (c : ℤ) → r.clock.current_slot < slots → Step r (R.close_if b r c) (window_if b r c)
unfolding R.close_if window_if
closes_if true r c few = closes r few c
closes_if false r c few = still r r few refl

-- ... up to the close of a window: the stored number of the current slot is read as one in range
readies : (r : Receiver) (c : ℤ) → Next r (R.ready r c)
unfolding R.ready R.skipped R.skip_if valid valid_clock with_clock with_lock R.add_slots R.set_slot
readies r c = go (R.far (R.tdiff (valid r) c)) (R.tdiff (valid r) c)
  where
    go : (b : Bool) (t : ℤ) → Next r (R.skip_if b t (valid r))
    go true t = record { current = slot_below _; slot = refl }
    go false t = record { current = mod-lt r.clock.current_slot (omega arith); slot = refl }

-- windows closed after the slot stayed
from : {r s t : Receiver} {ws : List Window} → s.slot ≡ r.slot → Step s t ws → Step r t ws
from e p = record { current = p.current; windows = p.windows; handed = p.handed; time = λ h. p.time (rw e h); views = λ v. p.views (rw e v) }

pub process_step : (r : Receiver) (x : ComplexSample) (c : ℤ) → Step r (process_sample r x c) (window_of r x c)
unfolding process_sample R.arrive window_of window_at R.listen with_signal
process_step r x c =
    let l : Receiver = R.listen r x in
    let n : Next l (R.ready l c) = readies l c in
    from {r = r} {s = R.ready l c} n.slot (closes_if (R.closes (R.ready l c) c) (R.ready l c) c n.current)

-- a sample behind zeros
zeros_step : (k : ℕ) (r : Receiver) (x : ComplexSample) (c : ℤ) → Step r (process_sample (feed_zeros k r c) x c) (window_of (feed_zeros k r c) x c ++ zeros_windows k r c)
unfolding feed_zeros zeros_windows
zeros_step zero r x c = rw (append-nil (window_of r x c)) (process_step r x c)
zeros_step (suc k) r x c =
    let z : Receiver = process_sample r silence (c -ℤ pos (suc k)) in
    let v : List Window = window_of r silence (c -ℤ pos (suc k)) in
    rw (← append_assoc (window_of (feed_zeros k z c) x c) (zeros_windows k z c) v) (both (process_step r silence (c -ℤ pos (suc k))) (zeros_step k z x c))

pub accept_step : (r : Receiver) (x : ComplexSample) (c : ℤ) → Step r (accept r x c) (accept_windows r x c)
unfolding accept accept_windows with_next
accept_step r x c =
    let q = zeros_step (R.zeros_before r c) r x c in
    record { current = q.current; windows = q.windows; handed = q.handed; time = q.time; views = q.views }

-- ════ the theorem: a sample reads the stored number of the current slot as one in range, a take that of the slot

take_numbered : (n : ℕ) (r : Receiver) (lent : List (List ℕ)) (h : HandedSlot) → (unless n r lent (taken r (valid_slot r.slot))).reply ≡ took h → h.time < slots
unfolding unless taken
take_numbered zero r lent h e = let f : valid_slot r.slot ≡ h = cc in number_of (valid_slot r.slot) h f (valid_number r.slot)
take_numbered (suc n) r lent h e = absurd (let z : ◌≡◌ {A = ℕ} 0 1 = cc in omega arith)

sample_numbered : (n : ℕ) (r : Receiver) (x : ComplexSample) (c : ℤ) (w : Window) (h : HandedSlot)
    → Memᴰ w (unless n r [] (sampled r x c)).windows → w.kind ≡ slot h → h.time < slots
unfolding unless sampled
sample_numbered zero r x c w h m e = (accept_step r x c).windows w h m e
sample_numbered (suc n) r x c w h m e = absurd (Memᴰ.not-nil m)

-- a block: one sample by its refusal, and what the others come to
fed_numbered : (n : ℕ) (r : Receiver) (x : ComplexSample) (c : ℤ) (others : Block) → (others.stop ≡ at_slot → others.receiver.slot.time < slots)
    → (o : Outcome) → unless n r [] (sampled r x c) ≡ o → (fed_by o.reply r (fed_one (hands_over o.windows) o.receiver others)).stop ≡ at_slot
    → (fed_by o.reply r (fed_one (hands_over o.windows) o.receiver others)).receiver.slot.time < slots
unfolding unless sampled fed_by fed_one
fed_numbered zero r x c others h o p = rw (← p) (go (hands_over (accept_windows r x c)) refl)
  where
    go : (b : Bool) → hands_over (accept_windows r x c) ≡ b → (fed_one b (accept r x c) others).stop ≡ at_slot
        → (fed_one b (accept r x c) others).receiver.slot.time < slots
    go true f e = (accept_step r x c).handed f
    go false f e = h e
fed_numbered (suc n) r x c others h o p = rw (← p) (λ e. absurd (let z : ◌≡◌ {A = ℕ} 0 1 = cc in omega arith))

feed_numbered : (xs : List ComplexSample) (r : Receiver) (c : ℤ) → (feed_of r xs c).stop ≡ at_slot → (feed_of r xs c).receiver.slot.time < slots
unfolding feed_of sample_outcome
feed_numbered [] r c e = absurd (let z : ◌≡◌ {A = ℕ} 0 1 = cc in omega arith)
feed_numbered (x ∷ xs) r c e =
    let o : Outcome = sample_outcome r x c in
    fed_numbered (sample_refusal (valid_count r.next) x c) r x c (feed_of o.receiver xs (c +ℤ pos 1)) (feed_numbered xs o.receiver (c +ℤ pos 1)) o refl e

pub numbered : (r : Receiver) → Numbered r
unfolding take_outcome sample_outcome
numbered r =
    record {
      take = λ slot subslot1 subslot2 h e. take_numbered (take_refusal slot subslot1 subslot2 r.waits) r (slot ∷ subslot1 ∷ subslot2 ∷ []) h e;
      sample = λ x c w h m e. sample_numbered (sample_refusal (valid_count r.next) x c) r x c w h m e;
      feed = λ xs c e. feed_numbered xs r c e;
    }
