-- What was written and what is still to be are all samples, and the rest is as it was.
use Rattle.std.proofs.Common.{◌≡◌, ◌*◌, ◌++◌, take, drop}
use Rattle.fir.specs.Fir.{samples_of}
use Rattle.modulator.specs.Blocks.{parts_of}
use Rattle.modulator.proofs.block.interleave.Given as goal

abbrev pub invariant-loop-n : goal.invariant-loop-n
invariant-loop-n l = record {
  row : take (2 * l.n) l.out ++ parts_of (samples_of (drop l.n l.re) (drop l.n l.im)) ≡ parts_of (samples_of l.re l.im);
  behind : drop (2 * l.n) l.out ≡ drop (2 * l.n) l.initial.out;
}
