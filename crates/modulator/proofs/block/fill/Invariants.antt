-- What was written and what is still to be fed are all that is fed.
use Rattle.std.proofs.Common.{◌≡◌, ◌-◌, ◌++◌, take}
use Rattle.fir.specs.Fir.{re_of, im_of}
use Rattle.modulator.specs.Blocks.{slot_due, inputs_of, phases_of}
use Rattle.modulator.proofs.block.fill.Given as goal

abbrev pub invariant-loop-n : goal.invariant-loop-n
invariant-loop-n l =
    let due = slot_due l.stretch.counter l.stretch.slot in
    record {
      re_part : take l.n l.re ++ re_of (inputs_of due (l.stretch.count - l.n) l.n l.next.phase) ≡ re_of (inputs_of due l.stretch.count 0 l.initial.next.phase);
      im_part : take l.n l.im ++ im_of (inputs_of due (l.stretch.count - l.n) l.n l.next.phase) ≡ im_of (inputs_of due l.stretch.count 0 l.initial.next.phase);
      phase_left : phases_of due (l.stretch.count - l.n) l.n l.next.phase ≡ phases_of due l.stretch.count 0 l.initial.next.phase;
    }
