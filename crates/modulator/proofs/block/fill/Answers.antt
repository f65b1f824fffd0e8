-- A turn takes one sample from what is still to be fed, and writes its parts.
use Rattle.std.proofs.Common.{◌≡◌, ℕ, ap, sym, ◌∙◌, arith}
use Rattle.dsp_types.specs.declared.ComplexSample.{ComplexSample}
use Rattle.mapper.specs.Dqpsk.{phase_after, input_of}
use Rattle.mapper.specs.Due.{place_in, numbered}
use Rattle.modulator.specs.Blocks.{place_due, slot_due}
use Rattle.modulator.proofs.Filled.{part_turn, part_end, phase_turn, phase_end}
use Rattle.modulator.proofs.block.fill.Goals as goal

pub loop-n-preserved : goal.loop-n-preserved
unfolding place_due place_in
loop-n-preserved c =
    let a = c.args in
    let l = c.loop-n in
    let p = l.next.phase in
    let due = slot_due a.stretch.counter a.stretch.slot in
    let k = c.symbol-x.new.self.phase in
    let x = c.symbol-x.result in
    let s = c.symbol-x.ensures in
    let d = c.due_at.ensures in
    let e : k ≡ phase_after p (due l.n) = s.0 ∙ ap (phase_after p) d in
    let i : x ≡ input_of k (due l.n) = s.1 ∙ ap (λ (q : ℕ). input_of q (numbered c.due_at.result)) (sym s.0) ∙ ap (input_of k) d in
    record {
      re_part = part_turn due a.stretch.count l.n p k (λ (s : ComplexSample). s.re) l.re _ x (omega arith) (omega arith) e i l.invariant.re_part;
      im_part = part_turn due a.stretch.count l.n p k (λ (s : ComplexSample). s.im) l.im _ x (omega arith) (omega arith) e i l.invariant.im_part;
      phase_left = phase_turn due a.stretch.count l.n p k _ (omega arith) e l.invariant.phase_left;
    }

pub returns : goal.returns
returns c =
    let a = c.args in
    let l = c.loop-n in
    let p = l.next.phase in
    let due = slot_due a.stretch.counter a.stretch.slot in
    let e : l.n ≡ a.stretch.count = omega arith in
    record {
      phase = phase_end due a.stretch.count l.n p 0 _ e l.invariant.phase_left;
      re = part_end due a.stretch.count l.n p 0 (λ (s : ComplexSample). s.re) l.re _ e l.invariant.re_part;
      im = part_end due a.stretch.count l.n p 0 (λ (s : ComplexSample). s.im) l.im _ e l.invariant.im_part;
    }
