-- The refusal is the definition's, and so are the fields.
use Rattle.std.proofs.Common.{ap, ◌∙◌}
use Rattle.std.proofs.lemmas.Result.{err_from_is_err_and}
use Rattle.slotter.specs.Bursts.{normal_fields, burst_unless, normal_burst, normal_cut}
use Rattle.dsp_types.proofs.Numbers.{not_accepted}
use Rattle.slotter.proofs.Answers.{refuses, accepts}
use Rattle.slotter.proofs.Refusal.{blocks_before, blocks_right}
use Rattle.slotter.proofs.build_ndb.Goals as goal

pub returns-in_err-block_refusal : goal.returns-in_err-block_refusal
unfolding normal_burst
returns-in_err-block_refusal c =
    let p = err_from_is_err_and c.from_residual.result c.from_residual.ensures.1 in
    rw (p.1, p.2) (refuses _ _ normal_cut _ (blocks_before 216 _ _ _ _ (not_accepted _) c.in_err-block_refusal.ensures.number))

pub returns-in_err-sequence : goal.returns-in_err-sequence
unfolding normal_burst
returns-in_err-sequence c =
    let p = err_from_is_err_and c.from_residual-in_err-sequence.result c.from_residual-in_err-sequence.ensures.1 in
    rw (p.1, p.2) (refuses _ _ normal_cut _ (c.in_err-sequence.ensures.number ∙ blocks_right 216 _ _ _ _ c.in_ok-block_refusal.ensures.number))

pub returns : goal.returns
unfolding normal_burst normal_fields
returns c =
    let a = c.args in
    let s = c.in_ok-sequence.ensures in
    accepts _ normal_cut _ (s.number ∙ blocks_right 216 _ _ _ _ c.in_ok-block_refusal.ensures.number)
    (c.framed.ensures ∙ ap (burst_unless 0 normal_cut) (c.joined-fields.ensures ∙ rw (c.split_at.ensures.front, c.split_at.ensures.back, s.sequence)))
