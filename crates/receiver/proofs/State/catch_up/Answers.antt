-- Zeros for what is missing, until none is left.
use Rattle.std.proofs.Common.{◌≡◌, ℕ, ◌<◌, ◌≤◌, ◌^◌, Bool, ◌||◌, refl, ap, sym, ◌∙◌, ℤ, pos, ◌-ℤ◌, arith}
use mathlib.Core.Bool.{or_assoc, or-false}
use lib.Dec.{lit≤}
use mir.Syntax.{w64}
use mir.Val.{to_z}
use mir.ValLaws.{to_z_pos}
use Rattle.dsp_types.specs.Ints.{up}
use Rattle.dsp_types.specs.Samples.{silence}
use Rattle.dsp_types.specs.Times.{fitted}
use Rattle.slot_receiver.specs.Bounds.{Counter}
use Rattle.slot_receiver.specs.View.{receiver_from}
use Rattle.slot_receiver.specs.Receiver.{Receiver, valid_count, process_sample, feed_zeros, zeros_before}
use Rattle.slot_receiver.specs.Windows.{hands_over, window_of, zeros_windows}
use Rattle.slot_receiver.proofs.Doors.{valid_counter}
use Rattle.slot_receiver.proofs.Signed.{minus_is, wider, within_pos, counter_37}
use Rattle.receiver.specs.View.{receiver_of}
use Rattle.receiver.proofs.Samples.{no_zeros, one_zero, counter_before, missing_below}
use Rattle.receiver.proofs.Handing.{no_zeros_hand, one_zero_hands}
use Rattle.receiver.proofs.State.catch_up.Goals as goal
use Rattle.receiver.proofs.State.catch_up.Goals.{After-missing_samples-count}

abbrev given : After-missing_samples-count → Receiver
given c = receiver_of c.args.self.now c.args.re.now c.args.im.now c.args.abs.now

lost : (c : After-missing_samples-count) → c.missing_samples-count.result ≡ zeros_before (given c) c.args.counter.0
unfolding receiver_of receiver_from zeros_before
lost c = rw c.valid_count.ensures at c.missing_samples-count.ensures

fewer : (c : After-missing_samples-count) → c.missing_samples-count.result ≤ up c.args.counter.0
unfolding zeros_before
fewer c = omega (arith, lost c, missing_below c.args.counter.0 (valid_count (given c).next) (valid_counter (given c).next).low c.requires.0.low)

-- the counter of this zero
under : (counter : ℤ) (left : ℕ) → left ≤ up counter → Counter counter → fitted (counter -ℤ to_z w64 left) ≡ counter -ℤ pos left
under counter left l h =
    let few : left ≤ 2 ^ 61 = omega arith in
    rw (to_z_pos w64 left (omega (arith, few))) (minus_is (wider (2 ^ 61) (lit≤ tt) (counter_37 h)) (within_pos {n = left} (2 ^ 61) few))

pub missing_samples-count-requires : goal.missing_samples-count-requires
missing_samples-count-requires c = rw c.valid_count.ensures (valid_counter c.args.self.now.next_input_sample_count.0, c.requires.0, c.requires.1)

pub loop-left-init : goal.loop-left-init
loop-left-init c = record { fed = refl; windows = refl }

pub overflow_cast-left : goal.overflow_cast-left
overflow_cast-left c =
    let n = fewer (goal.at.overflow_cast-left c).After-missing_samples-count in
    omega (arith, n, c.requires.0.high)

pub process_sample-hands-requires : goal.process_sample-hands-requires
process_sample-hands-requires c =
    let n = fewer (goal.at.process_sample-hands-requires c).After-missing_samples-count in
    let left = c.loop-left.left in
    let low : left ≤ up c.args.counter.0 = omega (arith, n) in
    rw (c.minus.ensures, under c.args.counter.0 left low c.requires.0) (counter_before c.args.counter.0 left low c.requires.0)

pub loop-left-preserved : goal.loop-left-preserved
loop-left-preserved c =
    let l = c.loop-left in
    let k = c.args.counter.0 in
    let left = l.left in
    let n = fewer (goal.at.loop-left-preserved c).After-missing_samples-count in
    let some : 0 < left = omega arith in
    let low : left ≤ up k = omega (arith, n) in
    let r = receiver_of l.self l.re l.im l.abs in
    let p = c.process_sample-hands in
    let counter : c.minus.result.0 ≡ k -ℤ pos left = c.minus.ensures ∙ under k left low c.requires.0 in
    let after : receiver_of p.new.self p.new.re p.new.im p.new.abs ≡ process_sample r silence (k -ℤ pos left) =
    p.ensures.state ∙ ap (process_sample r silence) counter in
    let hands : p.result ≡ hands_over (window_of r silence (k -ℤ pos left)) = p.ensures.handed ∙ ap (λ (z : ℤ). hands_over (window_of r silence z)) counter in
    record {
      fed = l.invariant.fed ∙ one_zero left r k some ∙ rw after;
      windows =
          l.invariant.windows
          ∙ ap (λ (b : Bool). l.handed || b) (one_zero_hands left r k some)
          ∙ sym (or_assoc l.handed (hands_over (window_of r silence (k -ℤ pos left))) _)
          ∙ rw (after, hands);
    }

pub returns-clause-handed : goal.returns-clause-handed
returns-clause-handed c =
    let m = (goal.at.returns-clause-handed c).After-missing_samples-count in
    let l = c.loop-left in
    sym (or-false l.handed)
    ∙ ap (λ (b : Bool). l.handed || b) (sym (no_zeros_hand l.left (receiver_of l.self l.re l.im l.abs) c.args.counter.0 (omega arith)))
    ∙ sym l.invariant.windows
    ∙ ap (λ (n : ℕ). hands_over (zeros_windows n (given m) c.args.counter.0)) (lost m)

pub returns-clause-state : goal.returns-clause-state
returns-clause-state c =
    let m = (goal.at.returns-clause-state c).After-missing_samples-count in
    let l = c.loop-left in
    no_zeros l.left (receiver_of l.self l.re l.im l.abs) c.args.counter.0 (omega arith)
    ∙ sym l.invariant.fed
    ∙ ap (λ (n : ℕ). feed_zeros n (given m) c.args.counter.0) (lost m)
