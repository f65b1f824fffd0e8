-- Each turn reads an argument further on, and there are fewer than 2 ^ 64.
use Rattle.std.proofs.Common.{◌-◌, ◌^◌}
use Rattle.tetra_rx.proofs.options.read.Given as goal

abbrev pub decreases-loop-kind : goal.decreases-loop-kind
decreases-loop-kind g l = 2 ^ 64 - l.words.at
