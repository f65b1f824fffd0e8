-- The lanes below v have one tap more than the others, which have t.
use Rattle.fir.proofs.Rows.{Lanes}
use Rattle.fir.proofs.filter_part.Given as goal

abbrev pub invariant-loop-v : goal.invariant-loop-v
invariant-loop-v l = Lanes l.row l.t l.v l.sum

abbrev pub invariant-loop-t : goal.invariant-loop-t
invariant-loop-t l = Lanes l.row l.t 0 l.sum
