-- A step prints the first of what a block prints, and what is left of the block prints the rest. Assumes nothing.
use Prim.Native.Nat.{ℕ, zero, suc, ◌+◌, ◌-◌, ◌/◌, ◌<◌, ◌≤◌, ◌^◌, min}
use mathlib.Core.Path.{◌≡◌, refl, sym, ap, ◌∙◌}
use mathlib.Core.Bool.{Bool, true, false, cond, ◌||◌}
use mathlib.Core.List.{List, [], ◌∷◌}
use mathlib.Core.Logic.{⊎_elim}
use native.Mathlib.Nat.{min-eq_left, le-min}
use native.Mathlib.Numerals.{add-one}
use borrow.Author.Tests.{lt-ltb}
use native.Mathlib.Omega.{arith}
use lib.IntN.{ℤ, pos, negsuc, ◌+ℤ◌, +ℤ_idr}
use lib.ListN.{length}
use lib.Signed.{lt_z}
use lib.Ieee.{Float}
use Rattle.std.specs.Prelude.{Option, None, Some, is_some}
use Rattle.dsp_types.specs.declared.refusals.Refusal.{Refusal}
use Rattle.dsp_types.specs.Answers.{end_number}
use Rattle.dsp_types.proofs.Numbers.{not_accepted}
use Rattle.dsp_types.specs.declared.ComplexSample.{ComplexSample}
use Rattle.dsp_types.specs.Samples.{silence}
use Rattle.dsp_types.specs.Refusals.{accepted, last_counter, bad_counter, past_counter, beyond, out_of_count}
use Rattle.dsp_types.specs.Times.{fitted}
use Rattle.dsp_types.proofs.IntLaws.{sum, same}
use Rattle.dsp_types.proofs.RingLaws.{le_or_lt}
use Rattle.slot_receiver.specs.Receiver.{Receiver, accept, valid_count}
use Rattle.slot_receiver.specs.Windows.{hands_over, accept_windows}
use Rattle.slot_receiver.specs.Calls.{refused, Outcome, unless, sample_refusal, sampled, sample_outcome}
use Rattle.receiver.specs.Feed.{interleaved, Stopped, at_end, at_slot, at_refusal, Block, fed_one, fed_by, feed_of}
use Rattle.slot_text.specs.declared.Style.{Style}
use Rattle.slot_lines.specs.Blocks.{take_next, taken_if, taken_line, mended, Printed, printed_one, hear_one, before, printed, Step, stretch_by, stretch_of, mended_by, step_of, from_step}

-- ---- whether a sample was refused

pub not_refused : (r : Option Refusal) → is_some r ≡ false → end_number r ≡ 0
not_refused None e = refl
not_refused (Some refusal) e = cc

pub is_refused : (r : Option Refusal) → is_some r ≡ true → end_number r ≡ 0 → ⊥
is_refused None e = cc
is_refused (Some refusal) e = not_accepted refusal

-- ---- a zero in the place of a refused sample

-- a zero is refused for its counter alone
abbrev later : ℤ → ℤ → ℕ
later next c = cond (out_of_count c) bad_counter (cond (lt_z c next) past_counter accepted)

zero_refused : (next c : ℤ) → sample_refusal next silence c ≡ later next c
unfolding sample_refusal beyond lib.Ieee.le lib.Ieee.of_bits
zero_refused next c = refl

module _ (r : Receiver) (x : ComplexSample) (c : ℤ) where
  abbrev refusal : ℕ
  refusal = sample_refusal (valid_count r.next) x c

  -- an accepted sample is heard as it is
  kept : refusal ≡ 0 → sample_outcome r (mended x) c ≡ sampled r x c
  unfolding mended sample_refusal sample_outcome unless
  kept e = go (beyond x.re || beyond x.im) e
    where
      go : (b : Bool) → cond b 1 (later (valid_count r.next) c) ≡ 0 → sample_outcome r (cond b silence x) c ≡ sampled r x c
      go true f = absurd (omega arith)
      go false f = rw e

  refuses : (n : ℕ) → refusal ≡ suc n → sample_outcome r x c ≡ record { reply = refused (suc n); receiver = r; windows = []; lent = [] }
  unfolding sample_outcome unless
  refuses n e = rw e

-- a refused one comes to what a zero comes to
lost : (r : Receiver) (x : ComplexSample) (c : ℤ) (n : ℕ) → refusal r x c ≡ suc n → sample_outcome r (mended x) c ≡ sample_outcome r silence c
unfolding mended sample_refusal
lost r x c n e = go (beyond x.re || beyond x.im) e
  where
    go : (b : Bool) → cond b 1 (later (valid_count r.next) c) ≡ suc n → sample_outcome r (cond b silence x) c ≡ sample_outcome r silence c
    go true f = refl
    go false f = refuses r x c n e ∙ sym (refuses r silence c n (zero_refused (valid_count r.next) c ∙ f))

-- ---- the first sample of a step

pub counts : (c : ℤ) (n : ℕ) → (c +ℤ pos 1) +ℤ pos n ≡ c +ℤ pos (suc n)
counts c n = same ((c +ℤ pos 1) +ℤ pos n) (c +ℤ pos (suc n)) (omega (arith, sum (c +ℤ pos 1) (pos n), sum c (pos 1), sum c (pos (suc n))))

-- so many of n samples are done with: not more than there are, and one at least
abbrev Goes : ℕ → ℕ → Type 0
Goes taken n = (taken ≤ n) × (0 < n → 0 < taken)

-- a sample more before a step
abbrev pub one_more : Step → Step
one_more s = record { taken = suc s.taken; refusal = s.refusal; heard = s.heard }

module _ (style : Style) where
  -- nothing is printed
  abbrev pub silent : Receiver → Printed
  silent r = record { lines = []; slot = false; receiver = r }

  abbrev step_fed : Block → ℤ → Step
  step_fed b c = let s = stretch_by style b.taken b.stop b.receiver in mended_by style s.refusal s c

  -- the first of several samples: the step goes on behind it, or ends with it
  pub data First (r : Receiver) (x : ComplexSample) (xs : List ComplexSample) (c : ℤ) : Type 0 where
    on : (after : Receiver) → hear_one style r x c ≡ silent after → step_of style r (x ∷ xs) c ≡ one_more (step_of style after xs (c +ℤ pos 1)) → First r x xs c
    ends : (n : ℕ) → step_of style r (x ∷ xs) c ≡ record { taken = 1; refusal = n; heard = hear_one style r x c } → First r x xs c

  step_later : (n : ℕ) (stop : Stopped) (r : Receiver) (c : ℤ)
      → step_fed (record { taken = suc n; stop = stop; receiver = r }) c ≡ one_more (step_fed (record { taken = n; stop = stop; receiver = r }) (c +ℤ pos 1))
  unfolding stretch_by mended_by
  step_later n at_end r c = refl
  step_later n at_slot r c = refl
  step_later n (at_refusal zero) r c = refl
  step_later n (at_refusal (suc m)) r c = rw (counts c n)

  -- a row of one sample that came to this outcome
  abbrev row_of_one : Receiver → Outcome → Block
  row_of_one r o = fed_by o.reply r (fed_one (hands_over o.windows) o.receiver (record { taken = 0; stop = at_end; receiver = o.receiver }))

  by_slot : (after : Receiver) (b : Bool) → let f = fed_one b after (record { taken = 0; stop = at_end; receiver = after }) in let t = taken_if b after in
      (stretch_by style f.taken f.stop f.receiver).heard ≡ record { lines = taken_line style t.reply; slot = b; receiver = t.receiver }
  unfolding fed_one stretch_by taken_if taken_line
  by_slot after true = refl
  by_slot after false = refl

  by_refusal : (r : Receiver) (c : ℤ) (k : ℕ) → let o = unless k r [] (sampled r silence c) in let f = row_of_one r o in
      (stretch_by style f.taken f.stop f.receiver).heard ≡ printed_one style o
  unfolding unless sampled fed_by printed_one stretch_by taken_if taken_line hands_over
  by_refusal r c zero = by_slot (accept r silence c) (hands_over (accept_windows r silence c))
  by_refusal r c (suc n) = refl

  -- a zero that is fed alone
  zero_heard : (r : Receiver) (c : ℤ) → (stretch_of style r (silence ∷ []) c).heard ≡ printed_one style (sample_outcome r silence c)
  unfolding stretch_of feed_of sample_outcome
  zero_heard r c = by_refusal r c (sample_refusal (valid_count r.next) silence c)

  module _ (r : Receiver) (x : ComplexSample) (xs : List ComplexSample) (c : ℤ) where
    fed_kept : refusal r x c ≡ 0 → feed_of r (x ∷ xs) c ≡ fed_one (hands_over (accept_windows r x c)) (accept r x c) (feed_of (accept r x c) xs (c +ℤ pos 1))
    unfolding feed_of sample_outcome sampled unless fed_by
    fed_kept e = rw e

    fed_lost : (n : ℕ) → refusal r x c ≡ suc n → feed_of r (x ∷ xs) c ≡ record { taken = 0; stop = at_refusal (suc n); receiver = r }
    unfolding feed_of sample_outcome sampled unless fed_by
    fed_lost n e = rw e

    first_kept : refusal r x c ≡ 0 → First r x xs c
    unfolding step_of stretch_of stretch_by mended_by fed_one hear_one printed_one sampled taken_if taken_line
    first_kept e = go (hands_over (accept_windows r x c)) refl
      where
        go : (b : Bool) → hands_over (accept_windows r x c) ≡ b → First r x xs c
        go true h = ends 0 (rw (fed_kept e, kept r x c e, h))
        go false h = on (accept r x c) (rw (kept r x c e, h)) (rw (fed_kept e, h) (let o = feed_of (accept r x c) xs (c +ℤ pos 1) in step_later o.taken o.stop o.receiver c))

    first_lost : (n : ℕ) → refusal r x c ≡ suc n → First r x xs c
    unfolding step_of stretch_of stretch_by mended_by hear_one
    first_lost n e = ends (suc n) (rw (fed_lost n e, +ℤ_idr c, zero_heard r c, lost r x c n e))

    pub first : First r x xs c
    first = go (refusal r x c) refl
      where
        go : (k : ℕ) → refusal r x c ≡ k → First r x xs c
        go zero e = first_kept e
        go (suc n) e = first_lost n e

  -- ---- a step and what is behind it

  pub step_whole : (r : Receiver) (xs : List ComplexSample) (c : ℤ) → printed style r xs c ≡ from_step style (step_of style r xs c) xs c
  unfolding printed before from_step step_of stretch_of stretch_by mended_by feed_of
  step_whole r [] c = refl
  step_whole r (x ∷ xs) c = go (first r x xs c) (λ after. step_whole after xs (c +ℤ pos 1))
    where
      go : First r x xs c → ((after : Receiver) → printed style after xs (c +ℤ pos 1) ≡ from_step style (step_of style after xs (c +ℤ pos 1)) xs (c +ℤ pos 1))
          → printed style r (x ∷ xs) c ≡ from_step style (step_of style r (x ∷ xs) c) (x ∷ xs) c
      go (on after h s) others = rw (h, s, ← counts c (step_of style after xs (c +ℤ pos 1)).taken) (others after)
      go (ends n s) others = rw s

  pub step_goes : (r : Receiver) (xs : List ComplexSample) (c : ℤ) → Goes (step_of style r xs c).taken (length xs)
  unfolding step_of stretch_of stretch_by mended_by feed_of
  step_goes r [] c = (omega arith, λ p. p)
  step_goes r (x ∷ xs) c = go (first r x xs c) (λ after. step_goes after xs (c +ℤ pos 1))
    where
      go : First r x xs c → ((after : Receiver) → Goes (step_of style after xs (c +ℤ pos 1)).taken (length xs)) → Goes (step_of style r (x ∷ xs) c).taken (suc (length xs))
      go (on after h s) others = rw s (omega (arith, (others after).0), λ p. omega arith)
      go (ends n s) others = rw s (omega arith, λ p. omega arith)

-- ---- parts as samples, and counters that 64 bits hold

pub samples_count : (parts : List Float) → length (interleaved parts) ≡ length parts / 2
unfolding interleaved
samples_count [] = refl
samples_count (x ∷ []) = refl
samples_count (x ∷ y ∷ parts) = omega (arith, samples_count parts)

out_of_count_lem : (r : Receiver) (c : ℤ) → out_of_count c ≡ true → sample_outcome r silence c ≡ record { reply = refused bad_counter; receiver = r; windows = []; lent = [] }
out_of_count_lem r c h = refuses r silence c 1 (zero_refused (valid_count r.next) c ∙ rw h)

-- a counter that 64 bits do not hold is refused as the nearest one that they hold
fitted_outcome : (r : Receiver) (c : ℤ) → sample_outcome r silence (fitted c) ≡ sample_outcome r silence c
unfolding fitted out_of_count
fitted_outcome r (pos n) =
    ⊎_elim
    (λ (h : n ≤ last_counter). ap (λ (m : ℕ). sample_outcome r silence (pos m)) (min-eq_left (omega arith)))
    (λ (h : last_counter < n).
    out_of_count_lem r (pos (min n (2 ^ 63 - 1))) (lt-ltb last_counter (min n (2 ^ 63 - 1)) (le-min h (omega arith))) ∙ sym (out_of_count_lem r (pos n) (lt-ltb last_counter n h)))
    (le_or_lt n last_counter)
fitted_outcome r (negsuc n) = out_of_count_lem r (negsuc (min n (2 ^ 63 - 1))) refl ∙ sym (out_of_count_lem r (negsuc n) refl)

module _ (style : Style) where
  zero_fitted : (r : Receiver) (c : ℤ) → (stretch_of style r (silence ∷ []) (fitted c)).heard ≡ (stretch_of style r (silence ∷ []) c).heard
  zero_fitted r c = zero_heard style r (fitted c) ∙ ap (printed_one style) (fitted_outcome r c) ∙ sym (zero_heard style r c)

  -- ---- what a function made is a step

  module _ (r : Receiver) (xs : List ComplexSample) (c : ℤ) where
    -- by why the feed took no more
    module _ {n : ℕ} {stop : Stopped} {after : Receiver} (e : n ≡ (feed_of r xs c).taken) (s : stop ≡ (feed_of r xs c).stop) (a : after ≡ (feed_of r xs c).receiver) where
      pub fed_made : stretch_by style n stop after ≡ stretch_of style r xs c
      unfolding stretch_of
      fed_made = rw (e, s, a)

      pub slot_made : {l : List ℕ} {w : Receiver} → stop ≡ at_slot → l ≡ taken_line style (take_next after).reply → w ≡ (take_next after).receiver
          → record { taken = n; refusal = 0; heard = record { lines = l; slot = true; receiver = w } } ≡ stretch_of style r xs c
      unfolding stretch_by
      slot_made z f g = rw (f, g) (rw z at fed_made)

    -- by whether the next sample is refused
    pub not_mended : {s : Step} → s ≡ stretch_of style r xs c → s.refusal ≡ 0 → s ≡ step_of style r xs c
    unfolding step_of mended_by
    not_mended {s} e z = rw (← e, z)

    pub is_mended : {s z : Step} {d : ℤ} → s ≡ stretch_of style r xs c → (s.refusal ≡ 0 → ⊥) → d ≡ fitted (c +ℤ pos s.taken) → z ≡ stretch_of style s.heard.receiver (silence ∷ []) d
        → record { taken = s.taken + 1; refusal = s.refusal; heard = z.heard } ≡ step_of style r xs c
    unfolding step_of mended_by
    is_mended {s} {z} {d} e h f g = rw (← e) (go s.refusal h)
      where
        go : (m : ℕ) → (m ≡ 0 → ⊥) → record { taken = s.taken + 1; refusal = m; heard = z.heard } ≡ mended_by style m s c
        go zero h = absurd (h refl)
        go (suc m) h =
            let q : z.heard ≡ (stretch_of style s.heard.receiver (silence ∷ []) (c +ℤ pos s.taken)).heard = ap (λ (t : Step). t.heard) g ∙ rw f (zero_fitted s.heard.receiver (c +ℤ pos s.taken)) in
            rw (add-one s.taken, q)

-- a step goes on, within its parts
pub step_onward : (style : Style) (r : Receiver) (parts : List Float) (c : ℤ) → Goes (step_of style r (interleaved parts) c).taken (length parts / 2)
step_onward style r parts c = rw (← samples_count parts) (step_goes style r (interleaved parts) c)

-- and so does the row that it begins with
pub row_within : (style : Style) (r : Receiver) (parts : List Float) (c : ℤ) {s : Step} → s ≡ stretch_of style r (interleaved parts) c → s.taken ≤ length parts / 2
unfolding step_of mended_by
row_within style r parts c e = rw e (omega (arith, go (stretch_of style r (interleaved parts) c).refusal, (step_onward style r parts c).0))
  where
    go : (m : ℕ) → (stretch_of style r (interleaved parts) c).taken ≤ (mended_by style m (stretch_of style r (interleaved parts) c) c).taken
    go zero = omega arith
    go (suc m) = omega arith

-- what is made as a step: what is left prints the rest, and it goes on
pub hears : (style : Style) (r : Receiver) (parts : List Float) (c : ℤ) {s : Step} → s ≡ step_of style r (interleaved parts) c
    → (s ≡ step_of style r (interleaved parts) c) × ((printed style r (interleaved parts) c ≡ from_step style s (interleaved parts) c) × Goes s.taken (length parts / 2))
hears style r parts c e = (e, (rw e (step_whole style r (interleaved parts) c), rw e (step_onward style r parts c)))
