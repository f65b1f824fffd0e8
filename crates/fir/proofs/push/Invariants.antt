-- The line and x behind it, without the element that is given to the next place.
use Rattle.std.proofs.Common.{◌≡◌, [], ◌∷◌, ◌++◌, get_or, ◌-◌}
use lib.Ieee.{nan}
use Rattle.fir.proofs.Rows.{without}
use Rattle.fir.proofs.push.Given as goal

abbrev pub invariant-loop-k : goal.invariant-loop-k
invariant-loop-k l = record {
  line : l.line ≡ without (l.initial.line ++ (l.x ∷ [])) (32 - l.k);
  next : l.next ≡ get_or (l.initial.line ++ (l.x ∷ [])) (32 - l.k) nan;
}
