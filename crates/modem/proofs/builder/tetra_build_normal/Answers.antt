-- By `lend`, of the builder's own answer.
use Rattle.std.proofs.Common.{◌∙◌}
use Rattle.modem.proofs.Building.{downlink_refusal, downlink_left}
use Rattle.modem.proofs.builder.tetra_build_normal.Goals as goal

pub returns-clause-refusal : goal.returns-clause-refusal
returns-clause-refusal c =
    c.answer_number.ensures ∙ c.lend.ensures.refusal ∙ downlink_refusal c.args.bits.now _ _ c.build_ndb-built.ensures c.bits_of.ensures

pub returns-clause-bits : goal.returns-clause-bits
returns-clause-bits c = c.lend.ensures.bits ∙ downlink_left c.args.bits.now _ _ c.build_ndb-built.ensures c.bits_of.ensures
