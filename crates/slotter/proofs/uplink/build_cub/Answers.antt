-- The refusal is the definition's, and so are the fields.
use Rattle.std.proofs.lemmas.Result.{err_from_is_err_and}
use Rattle.train_consts.specs.Training.{extended}
use Rattle.slotter.specs.Uplink.{control_uplink}
use Rattle.slotter.proofs.UplinkAnswers.{uplink_refuses, uplink_accepts}
use Rattle.slotter.proofs.uplink.build_cub.Goals as goal

pub returns-in_err-pair_refusal : goal.returns-in_err-pair_refusal
unfolding control_uplink
returns-in_err-pair_refusal c =
    let p = err_from_is_err_and c.from_residual.result c.from_residual.ensures.1 in
    rw (p.1, p.2) (uplink_refuses _ _ _ c.in_err-pair_refusal.ensures.number)

pub returns : goal.returns
unfolding control_uplink extended
returns c = uplink_accepts _ _ c.in_ok-pair_refusal.ensures.number c.between_tails.ensures
