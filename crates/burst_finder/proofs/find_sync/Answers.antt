-- The part lent is the bits from 216 on, or none.
use Rattle.train_consts.specs.Training.{synchronization}
use Rattle.burst_finder.proofs.Steps.{from_216}
use Rattle.burst_finder.proofs.find_sync.Goals as goal

pub returns : goal.returns
unfolding synchronization
returns c = from_216 c.args.bits.now c.min.result c.find_sequence.result c.min.ensures c.find_sequence.ensures
