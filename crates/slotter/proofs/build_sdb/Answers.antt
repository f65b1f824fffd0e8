-- The refusal is the definition's, and so are the fields.
use Rattle.std.proofs.Common.{ap, ◌∙◌}
use Rattle.std.proofs.lemmas.Result.{err_from_is_err_and}
use Rattle.train_consts.specs.Training.{frequency_correction, synchronization}
use Rattle.slotter.specs.Bursts.{sync_fields, burst_unless, sync_burst, sync_cut}
use Rattle.slotter.proofs.Answers.{refuses, accepts}
use Rattle.slotter.proofs.build_sdb.Goals as goal

pub returns-in_err-block_refusal : goal.returns-in_err-block_refusal
unfolding sync_burst
returns-in_err-block_refusal c =
    let p = err_from_is_err_and c.from_residual.result c.from_residual.ensures.1 in
    rw (p.1, p.2) (refuses _ _ sync_cut _ c.in_err-block_refusal.ensures.number)

pub returns : goal.returns
unfolding sync_burst sync_fields frequency_correction synchronization
returns c = accepts _ sync_cut _ c.in_ok-block_refusal.ensures.number (c.framed.ensures ∙ ap (burst_unless 0 sync_cut) c.joined-fields.ensures)
