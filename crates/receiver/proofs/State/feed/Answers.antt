-- A block of samples that are only kept is taken at once; any other sample is heard, and may be refused or hand a slot over.
use Rattle.std.proofs.Common.{◌≡◌, ◌∷◌, ◌+◌, ◌*◌, ◌≤◌, ◌<◌, ◌^◌, ℤ, pos, ◌+ℤ◌, take, drop, refl, sym, ap, ◌∙◌, arith}
use lib.Seq.{length-take-le, take_all}
use mir.Syntax.{w64}
use mir.Val.{to_z}
use mir.ValLaws.{to_z_pos}
use Rattle.dsp_types.specs.declared.ComplexSample.{ComplexSample}
use Rattle.dsp_types.specs.Ints.{up, dn}
use Rattle.dsp_types.specs.Times.{fitted}
use Rattle.fir.specs.Fir.{samples_of}
use Rattle.slot_receiver.specs.Receiver.{Receiver, valid_count}
use Rattle.slot_receiver.specs.Calls.{sample_refusal}
use Rattle.slot_receiver.specs.View.{receiver_from}
use Rattle.slot_receiver.specs.Bounds.{Within}
use Rattle.dsp_types.proofs.Numbers.{not_accepted}
use Rattle.slot_receiver.proofs.Signed.{plus_is, within_pos}
use Rattle.receiver.specs.Feed.{interleaved, stopped, feed_of}
use Rattle.receiver.specs.Hearing.{Judges}
use Rattle.receiver.specs.View.{receiver_of}
use Rattle.receiver.proofs.Samples.{Heard, not_refused, next_counter_lem}
use Rattle.receiver.proofs.Feeding.{ahead, none_yet, tell, part, next_sample, no_sample, ends, refuses, hands, goes_on}
use Rattle.receiver.proofs.Keeping.{QuietAt, quiet_at, kept_block}
use Rattle.receiver.proofs.Rows.{samples_count}
use Rattle.receiver.proofs.Views.{untouched_receiver, untouched_both}
use Rattle.receiver.proofs.State.feed.Goals as goal
use Rattle.receiver.proofs.State.feed.Goals.{Then-len-gt0, After-hear, In-Ok}

pub loop-taken-init : goal.loop-taken-init
loop-taken-init c = record {
  within = omega arith;
  x_long = refl;
  y_long = refl;
  fed = none_yet _ _ _;
  untouched = λ _. record { state = refl; past_re = refl; past_im = refl; past_abs = refl };
}

-- ---- a block of samples that are only kept

quiet : (c : Then-len-gt0) → let t = c.loop-taken in QuietAt (receiver_of t.self t.re t.im t.abs) t.counter.0 c.parts_of-len.result
unfolding receiver_of receiver_from
quiet c =
    let t = c.loop-taken in
    let some : 0 < c.quiet_samples.result = omega arith in
    quiet_at (receiver_of t.self t.re t.im t.abs) t.counter.0 c.quiet_samples.result c.parts_of-len.result some (c.quiet_samples.ensures some) c.parts_of-len.ensures.few.0

-- the counter behind the block
behind : (c : Then-len-gt0) → fitted (c.loop-taken.counter.0 +ℤ to_z w64 c.parts_of-len.result) ≡ c.loop-taken.counter.0 +ℤ pos c.parts_of-len.result
behind c =
    let q = (quiet c).quiet in
    rw (to_z_pos w64 c.parts_of-len.result (omega arith))
    (plus_is (counter_low c.loop-taken.counter.0 q.low (omega (arith, q.high))) (within_pos (2 ^ 61) (omega arith)))
  where
    counter_low : (z : ℤ) → dn z ≤ 0 → up z ≤ 2 ^ 37 → Within (2 ^ 61) z
    counter_low z l h = record { high = omega (arith, h); low = omega (arith, l) }

pub loop-taken-preserved-then-len-gt0 : goal.loop-taken-preserved-then-len-gt0
loop-taken-preserved-then-len-gt0 c =
    let i = (goal.at.loop-taken-preserved-then-len-gt0 c).Then-len-gt0 in
    let t = c.loop-taken in
    let p = c.parts_of-len in
    let xs = take p.result p.new.re in
    let ys = take p.result p.new.im in
    let n = samples_count p.result xs ys (length-take-le p.result p.new.re (omega arith)) (length-take-le p.result p.new.im (omega arith)) in
    let e =
    kept_block (samples_of xs ys) (interleaved (drop (2 * (t.taken + p.result)) c.args.samples.now)) _ t.taken (receiver_of t.self t.re t.im t.abs) t.counter.0
    (rw n (quiet i)) p.ensures.fine (rw p.ensures.same at t.invariant.fed) in
    let all : take 512 (samples_of xs ys) ≡ samples_of xs ys = take_all 512 (samples_of xs ys) (omega (arith, n)) in
    record {
      within = p.ensures.few.2;
      x_long = p.ensures.long.0;
      y_long = p.ensures.long.1;
      fed = rw (c.keep_all.ensures, all, c.plus-counter.ensures, behind i) (rw n at e);
      untouched = λ z. absurd (omega (arith, z));
    }

-- ---- a sample that is heard

module _ (c : After-hear) where
  abbrev given : Receiver
  given = receiver_of c.args.self.now c.args.re.now c.args.im.now c.args.abs.now

  abbrev receiver : Receiver
  receiver = let t = c.loop-taken in receiver_of t.self t.re t.im t.abs

  -- the receiver after the sample
  abbrev after : Receiver
  after = let h = c.hear in receiver_of h.new.self h.new.re h.new.im h.new.abs

  abbrev sample : ComplexSample
  sample = part c.args.samples.now c.loop-taken.taken

  judges : Judges receiver sample c.loop-taken.counter.0 c.hear.result after
  judges = c.hear.ensures.judged

  -- the block as it stands in this turn, its next sample first
  left : feed_of given (interleaved c.args.samples.now) c.args.first.0
      ≡ ahead c.loop-taken.taken (feed_of receiver (sample ∷ interleaved (drop (2 * (c.loop-taken.taken + 1)) c.args.samples.now)) c.loop-taken.counter.0)
  left = rw (next_sample c.args.samples.now c.loop-taken.taken (omega arith)) at c.loop-taken.invariant.fed

pub returns-in-Err : goal.returns-in-Err
unfolding stopped
returns-in-Err c =
    let h = (goal.at.returns-in-Err c).After-hear in
    let j = rw c.in-Err.is at (judges h) in
    let u = rw c.in-Err.is at c.hear.ensures.refused in
    let t = tell _ _ (refuses _ _ _ _ _ _ (left h) _ j.refusal (not_accepted c.in-Err.refusal)) (refl, (refl, untouched_receiver u)) in
    record { taken = t.0; stop = t.1.0; receiver = t.1.1; refused = λ z. untouched_both (c.loop-taken.invariant.untouched z) u }

-- ... and is not refused
accepted : (c : In-Ok) → let t = c.loop-taken in sample_refusal (valid_count (receiver_of t.self t.re t.im t.abs).next) (part c.args.samples.now t.taken) t.counter.0 ≡ 0
accepted c = let j = rw c.in-Ok.is at c.hear.ensures.judged in sym j.refusal

pub returns-then-handed : goal.returns-then-handed
unfolding stopped
returns-then-handed c =
    let h = (goal.at.returns-then-handed c).After-hear in
    let k = accepted (goal.at.returns-then-handed c).In-Ok in
    let j = rw c.in-Ok.is at (judges h) in
    let t = tell _ _ (hands _ _ _ _ _ _ (left h) k (after h) j.receiver c.in-Ok.handed j.windows c.if-handed.true) (refl, (refl, refl)) in
    record { taken = t.0; stop = t.1.0; receiver = t.1.1; refused = λ z. absurd (omega (arith, z)) }

pub loop-taken-preserved : goal.loop-taken-preserved
loop-taken-preserved c =
    let h = (goal.at.loop-taken-preserved c).After-hear in
    let k = accepted (goal.at.loop-taken-preserved c).In-Ok in
    let j = rw c.in-Ok.is at (judges h) in
    let heard : Heard (valid_count (receiver h).next) c.loop-taken.counter.0 = not_refused _ _ _ k in
    record {
      within = omega arith;
      x_long = c.parts_of-len.ensures.long.0;
      y_long = c.parts_of-len.ensures.long.1;
      fed =
          goes_on _ _ _ _ _ _ (left h) k (after h) j.receiver c.in-Ok.handed j.windows c.if-handed.false
          ∙ ap (λ (z : ℤ). ahead (c.loop-taken.taken + 1) (feed_of (after h) (interleaved (drop (2 * (c.loop-taken.taken + 1)) c.args.samples.now)) z))
          (sym (c.plus-counter-in-Ok.ensures ∙ next_counter_lem _ heard.counter));
      untouched = λ z. absurd (omega (arith, z));
    }

-- ---- the end

pub returns : goal.returns
unfolding stopped
returns c =
    let t = tell _ _ (ends _ _ _ _ (rw (no_sample c.args.samples.now c.loop-taken.taken (omega arith)) at c.loop-taken.invariant.fed)) (refl, (refl, refl)) in
    record { taken = t.0; stop = t.1.0; receiver = t.1.1; refused = c.loop-taken.invariant.untouched }
