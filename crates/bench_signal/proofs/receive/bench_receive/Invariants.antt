-- Each turn goes on by a sample at least.
use Rattle.std.proofs.Common.{◌-◌}
use Rattle.bench_signal.proofs.receive.bench_receive.Given as goal

abbrev pub decreases-loop-at : goal.decreases-loop-at
decreases-loop-at l = l.total - l.at
