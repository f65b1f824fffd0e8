-- The sum so far and that of the symbols left are the whole, and a symbol moves it by 3 at most.
use Rattle.std.proofs.Common.{◌≡◌, ◌*◌, ◌+ℤ◌, drop}
use Rattle.slotter.specs.Phases.{phase_sum}
use Rattle.slotter.proofs.Phase.{Small}
use Rattle.slotter.proofs.sum_up_phase.Given as goal

abbrev pub invariant-loop-first : goal.invariant-loop-first
invariant-loop-first l = record {
  small : Small l.sum (3 * l.first-index);
  whole : phase_sum l.bits ≡ l.sum +ℤ phase_sum (drop (2 * l.first-index) l.bits);
}
