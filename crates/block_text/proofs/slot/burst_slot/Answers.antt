-- What the blocks are answered with decides it.
use Rattle.std.proofs.Common.{ap, ◌∙◌}
use Rattle.slotter.specs.Bursts.{BuilderReply, builder_reply, refusal}
use Rattle.block_text.specs.BlockText.{downlink_type}
use Rattle.block_text.specs.Lines.{answered, slots_for, complaint_for, complaint_of}
use Rattle.block_text.proofs.Judged.{no_burst}
use Rattle.block_text.proofs.slot.burst_slot.Goals as goal

pub returns-in-Ok-clause-slots : goal.returns-in-Ok-clause-slots
unfolding slots_for builder_reply
returns-in-Ok-clause-slots c = ap (λ (t : BuilderReply). slots_for (answered (downlink_type c.args.burst_type) t)) (rw (c.in-Ok.is, c.number.ensures) at c.answer.ensures)

pub returns-in-Ok-clause-complaint : goal.returns-in-Ok-clause-complaint
unfolding complaint_for complaint_of builder_reply
returns-in-Ok-clause-complaint c = ap (λ (t : BuilderReply). complaint_for (answered (downlink_type c.args.burst_type) t)) (rw (c.in-Ok.is, c.number.ensures) at c.answer.ensures)

pub returns-in-Err-clause-slots : goal.returns-in-Err-clause-slots
returns-in-Err-clause-slots c =
    no_burst c.in-Err.refusal (downlink_type c.args.burst_type)
    ∙ ap (λ (t : BuilderReply). slots_for (answered (downlink_type c.args.burst_type) t)) (rw (c.in-Err.is, c.number.ensures) at c.answer.ensures)

pub returns-in-Err-clause-complaint : goal.returns-in-Err-clause-complaint
unfolding complaint_for builder_reply refusal
returns-in-Err-clause-complaint c =
    c.complaint_of.ensures ∙ ap (λ (t : BuilderReply). complaint_for (answered (downlink_type c.args.burst_type) t)) (rw (c.in-Err.is, c.number.ensures) at c.answer.ensures)
