-- The calls are the definition's.
use Rattle.std.proofs.Common.{◌∙◌, ℕ}
use Rattle.std.proofs.lemmas.List.{length-replicate}
use Rattle.slotter.proofs.UplinkAnswers.{told_uplink_number}
use Rattle.uplink.specs.Judging.{told, judged_of}
use Rattle.uplink.proofs.Judging.{window_is}
use Rattle.uplink.proofs.judge_placed.Goals as goal

pub returns : goal.returns
unfolding told judged_of
returns g c =
    let a = c.args in
    let p = c.place_built-built in
    let j = c.judge-judged.ensures in
    rw (
      p.ensures.number ∙ told_uplink_number a.burst,
      c.check_slot-finding.ensures,
      rw c.number.ensures at j.refusal,
      rw c.number.ensures at j.answer,
      window_is a.burst g.row.W a.offset p.new.window (rw (length-replicate {A = ℕ} g.row.W 0) at p.ensures.window),
    )
