-- The first sequence found wins.
use Rattle.std.proofs.Common.{rules}
use Rattle.train_consts.specs.Training.{normal1, normal2}
use Rattle.burst_finder.specs.Slots.{check_normal}
use Rattle.burst_finder.proofs.Steps.{either_checked}
use Rattle.burst_finder.proofs.check_normal.Goals as goal

pub returns : goal.returns
unfolding check_normal normal1 normal2
returns c = either_checked _ _ _ _ c.check_sequence.ensures (search rules)
