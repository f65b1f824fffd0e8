-- The calls are the definition's, and a burst that was built is found (`control_found`).
use Rattle.std.proofs.Common.{◌≡◌, ap, ◌∙◌}
use Rattle.burst_finder.specs.declared.SlotType.TheVariants.{UlSub}
use Rattle.slotter.specs.Uplink.{UplinkReply, uplink_number, uplink_bits, placed}
use Rattle.uplink.specs.Placed.{control_window}
use Rattle.uplink.specs.Judging.{told, judged_of, judged_control}
use Rattle.uplink.proofs.Judging.{control_found}
use Rattle.uplink.proofs.judge_control.Goals as goal

pub returns : goal.returns
unfolding told judged_control control_window
returns c =
    let a = c.args in
    let judged : told c.judge_placed.result ≡ judged_control a.blk1.now a.blk2.now a.offset =
    c.judge_placed.ensures ∙ ap (λ (r : UplinkReply). judged_of (uplink_number r) UlSub (placed 254 a.offset (uplink_bits r))) c.build_cub-burst.ensures
    in
    record { answers = judged; found = control_found a.blk1.now a.blk2.now a.offset (told c.judge_placed.result) judged }
