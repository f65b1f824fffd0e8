-- The first n outputs are written.
use Rattle.std.proofs.Common.{◌≡◌, ◌++◌, drop}
use Rattle.fir.specs.Fir.{row_outs}
use Rattle.fir.proofs.filter_block.Given as goal

abbrev pub invariant-loop-n : goal.invariant-loop-n
invariant-loop-n l = l.out ≡ row_outs l.n l.row ++ drop l.n l.fn.out
