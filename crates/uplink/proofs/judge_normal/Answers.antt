-- The calls are the definition's, and a burst that was built is found (`normal_found`).
use Rattle.std.proofs.Common.{◌≡◌, ap, ◌∙◌}
use Rattle.burst_finder.specs.declared.SlotType.TheVariants.{UlFull}
use Rattle.slotter.specs.Uplink.{UplinkReply, uplink_number, uplink_bits, placed}
use Rattle.uplink.specs.Placed.{normal_window}
use Rattle.uplink.specs.Judging.{told, judged_of, judged_normal}
use Rattle.uplink.proofs.Judging.{normal_found}
use Rattle.uplink.proofs.judge_normal.Goals as goal

pub returns : goal.returns
unfolding told judged_normal normal_window
returns c =
    let a = c.args in
    let judged : told c.judge_placed.result ≡ judged_normal a.train a.blk1.now a.blk2.now a.offset =
    c.judge_placed.ensures ∙ ap (λ (r : UplinkReply). judged_of (uplink_number r) UlFull (placed 510 a.offset (uplink_bits r))) c.build_nub-burst.ensures
    in
    record { answers = judged; found = normal_found a.train a.blk1.now a.blk2.now a.offset (told c.judge_placed.result) judged }
