-- Call by call.
use Rattle.std.proofs.Common.{refl}
use Rattle.account.specs.Runs.{call_of}
use Rattle.account.proofs.Running.{samples, follows}
use Rattle.account.proofs.call.one_call.Goals as goal

pub returns-in-Sample : goal.returns-in-Sample
unfolding call_of
returns-in-Sample c = let e = c.sample.ensures in rw c.in-Sample.is (samples _ _ _ e.answer e.receiver c.answer_row.ensures refl)

pub returns-in-Take : goal.returns-in-Take
unfolding call_of
returns-in-Take c = rw c.in-Take.is c.take.ensures

pub returns-in-Follow : goal.returns-in-Follow
unfolding call_of
returns-in-Follow c = let e = c.sync_to_demodulator.ensures in rw c.in-Follow.is (follows _ _ e.answer e.receiver c.answer_row-in-Follow.ensures refl)
