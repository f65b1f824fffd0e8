-- After i turns the receiver is what the first i calls leave, and their answers are written.
use Rattle.std.proofs.Common.{length}
use Rattle.demodulator.specs.View.{view_of}
use Rattle.account.specs.Runs.{calls_in, Written}
use Rattle.account.proofs.Running.{Enough}
use Rattle.account.proofs.run_calls.Given as goal

abbrev pub invariant-loop-i : goal.invariant-loop-i
invariant-loop-i l =
    record {
      room : Enough (length l.calls) (length l.fn.told) (length l.fn.lent) l.count;
      written : Written (calls_in (view_of l.other) l.calls l.i) (view_of l.receiver) l.fn.told l.told l.fn.lent l.lent;
    }
