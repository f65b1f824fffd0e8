-- The refusal is the definition's, and so are the fields.
use Rattle.std.proofs.Common.{ap, ◌∙◌}
use Rattle.std.proofs.lemmas.Result.{err_from_is_err_and}
use Rattle.slotter.specs.Uplink.{uplink, normal_uplink}
use Rattle.dsp_types.proofs.Numbers.{not_accepted}
use Rattle.slotter.proofs.Refusal.{pair_before, pair_is_right}
use Rattle.slotter.proofs.UplinkAnswers.{uplink_refuses, uplink_accepts}
use Rattle.slotter.proofs.uplink.build_nub.Goals as goal

pub returns-in_err-pair_refusal : goal.returns-in_err-pair_refusal
unfolding normal_uplink
returns-in_err-pair_refusal c =
    let p = err_from_is_err_and c.from_residual.result c.from_residual.ensures.1 in
    rw (p.1, p.2) (uplink_refuses _ _ _ (pair_before 216 _ _ _ (not_accepted _) c.in_err-pair_refusal.ensures.number))

pub returns-in_err-sequence : goal.returns-in_err-sequence
unfolding normal_uplink
returns-in_err-sequence c =
    let p = err_from_is_err_and c.from_residual-in_err-sequence.result c.from_residual-in_err-sequence.ensures.1 in
    rw (p.1, p.2) (uplink_refuses _ _ _ (c.in_err-sequence.ensures.number ∙ pair_is_right 216 _ _ _ c.in_ok-pair_refusal.ensures.number))

pub returns : goal.returns
unfolding normal_uplink
returns c =
    let s = c.in_ok-sequence.ensures in
    uplink_accepts _ _ (s.number ∙ pair_is_right 216 _ _ _ c.in_ok-pair_refusal.ensures.number)
    (c.between_tails.ensures ∙ ap (λ t. uplink t c.args.blk1.now c.args.blk2.now) s.sequence)
