-- The first i are told.
use Rattle.std.proofs.Common.{◌≡◌, take}
use Rattle.magnitude.specs.Magnitude.{magnitudes_in}
use Rattle.magnitude.proofs.magnitudes.Given as goal

abbrev pub invariant-loop-i : goal.invariant-loop-i
invariant-loop-i l = l.out ≡ magnitudes_in (take l.i l.re) (take l.i l.im) l.fn.out
