-- A block that is fed sample by sample: what is left of it, fed from here, ends where all of it would. Assumes nothing.
use mathlib.Core.Path.{◌≡◌, refl, sym, ap, ◌∙◌}
use mathlib.Core.Bool.{Bool, true, false}
use mathlib.Core.List.{List, [], ◌∷◌}
use Prim.Native.Nat.{ℕ, suc, ◌+◌, ◌*◌, ◌/◌, ◌<◌, ◌≤◌}
use native.Mathlib.Omega.{arith}
use lib.ListN.{length, drop, get_or, length-drop}
use lib.Seq.{drop-cons}
use lib.IntN.{ℤ, pos, ◌+ℤ◌}
use lib.Ieee.{Float, nan}
use Rattle.dsp_types.specs.declared.ComplexSample.{ComplexSample}
use Rattle.slot_receiver.specs.Receiver.{Receiver, valid_count, accept}
use Rattle.slot_receiver.specs.Windows.{hands_over, accept_windows}
use Rattle.slot_receiver.specs.Calls.{Outcome, sample_refusal, sampled, sample_outcome}
use Rattle.receiver.specs.Feed.{Stopped, at_end, at_slot, at_refusal, interleaved, Block, fed_one, fed_by, feed_of}
use Rattle.slot_receiver.proofs.Outcomes.{kept, sample_refused, sample_accepted}

-- ---- the samples of a row of parts

abbrev pub part : List Float → ℕ → ComplexSample
part parts k = record { re = get_or parts (2 * k) nan; im = get_or parts (2 * k + 1) nan }

pub next_sample : (parts : List Float) (k : ℕ) → k < length parts / 2 → interleaved (drop (2 * k) parts) ≡ part parts k ∷ interleaved (drop (2 * (k + 1)) parts)
unfolding interleaved
next_sample parts k h =
    let a : suc (2 * k) ≡ 2 * k + 1 = omega arith in
    let b : suc (2 * k + 1) ≡ 2 * (k + 1) = omega arith in
    let two : drop (2 * k) parts ≡ get_or parts (2 * k) nan ∷ get_or parts (2 * k + 1) nan ∷ drop (2 * (k + 1)) parts =
    drop-cons parts (2 * k) nan (omega arith) ∙ rw (a, drop-cons parts (2 * k + 1) nan (omega arith), b) in
    ap interleaved two

pub no_sample : (parts : List Float) (k : ℕ) → length parts / 2 ≤ k → interleaved (drop (2 * k) parts) ≡ []
unfolding interleaved
no_sample parts k h = short (drop (2 * k) parts) (omega (arith, length-drop (2 * k) parts))
  where
    short : (l : List Float) → length l ≤ 1 → interleaved l ≡ []
    short [] h = refl
    short (x ∷ []) h = refl
    short (x ∷ y ∷ l) h = absurd (omega arith)

-- ---- k samples were taken

unfoldable pub ahead : ℕ → Block → Block
ahead k b = record { taken = k + b.taken; stop = b.stop; receiver = b.receiver }

pub none_yet : (r : Receiver) (parts : List Float) (c : ℤ) → feed_of r (interleaved parts) c ≡ ahead 0 (feed_of r (interleaved (drop (2 * 0) parts)) c)
unfolding ahead
none_yet r parts c = go (feed_of r (interleaved parts) c)
  where
    go : (b : Block) → b ≡ record { taken = 0 + b.taken; stop = b.stop; receiver = b.receiver }
    go b = let n : 0 + b.taken ≡ b.taken = omega arith in rw n

-- what a call tells, from the equation of it all
pub tell : (all b : Block) {taken : ℕ} {stop : Stopped} {receiver : Receiver} → all ≡ b → (taken ≡ b.taken) × ((stop ≡ b.stop) × (receiver ≡ b.receiver))
    → (taken ≡ all.taken) × ((stop ≡ all.stop) × (receiver ≡ all.receiver))
tell all b e told =
    (told.0 ∙ sym (ap (λ (x : Block). x.taken) e), (told.1.0 ∙ sym (ap (λ (x : Block). x.stop) e), told.1.1 ∙ sym (ap (λ (x : Block). x.receiver) e)))

module _ (all : Block) (k : ℕ) (r : Receiver) (c : ℤ) where
  pub ends : all ≡ ahead k (feed_of r [] c) → all ≡ record { taken = k; stop = at_end; receiver = r }
  unfolding feed_of ahead
  ends e = let n : k + 0 ≡ k = omega arith in e ∙ rw n

  module _ (x : ComplexSample) (xs : List ComplexSample) (e : all ≡ ahead k (feed_of r (x ∷ xs) c)) where
    -- the block from this sample on, by what the sample comes to
    by : (o : Outcome) → sample_outcome r x c ≡ o
        → all ≡ ahead k (fed_by o.reply r (fed_one (hands_over o.windows) o.receiver (feed_of o.receiver xs (c +ℤ pos 1))))
    unfolding feed_of
    by o f =
        e
        ∙ ap (λ (q : Outcome). ahead k (fed_by q.reply r (fed_one (hands_over q.windows) q.receiver (feed_of q.receiver xs (c +ℤ pos 1))))) f

    pub refuses : (n : ℕ) → n ≡ sample_refusal (valid_count r.next) x c → (n ≡ 0 → ⊥) → all ≡ record { taken = k; stop = at_refusal n; receiver = r }
    unfolding fed_by ahead
    refuses n f h = let m : k + 0 ≡ k = omega arith in by (kept n r []) (sample_refused r x c f h) ∙ rw m

    module _ (ok : sample_refusal (valid_count r.next) x c ≡ 0) (q : Receiver) (g : q ≡ accept r x c) (b : Bool)
        (w : b ≡ hands_over (accept_windows r x c)) where
      one : all ≡ ahead k (fed_one b q (feed_of q xs (c +ℤ pos 1)))
      unfolding fed_by sampled
      one = by (sampled r x c) (sample_accepted r x c ok) ∙ rw (← g, ← w)

      pub hands : b ≡ true → all ≡ record { taken = k + 1; stop = at_slot; receiver = q }
      unfolding fed_one ahead
      hands t = one ∙ rw t

      pub goes_on : b ≡ false → all ≡ ahead (k + 1) (feed_of q xs (c +ℤ pos 1))
      unfolding fed_one ahead
      goes_on t = one ∙ rw t (ap (λ (n : ℕ). record { taken = n; stop = (feed_of q xs (c +ℤ pos 1)).stop; receiver = (feed_of q xs (c +ℤ pos 1)).receiver }) (counts (feed_of q xs (c +ℤ pos 1)).taken))
        where
          counts : (n : ℕ) → k + suc n ≡ k + 1 + n
          counts n = omega arith
