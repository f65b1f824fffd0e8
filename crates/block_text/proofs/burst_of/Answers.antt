-- The parts of the bits are the blocks.
use Rattle.std.proofs.Common.{◌∙◌}
use Rattle.block_text.proofs.Blocks.{sync_blocks, normal_blocks}
use Rattle.block_text.proofs.burst_of.Goals as goal

pub returns-then-burst_type-eq4 : goal.returns-then-burst_type-eq4
returns-then-burst_type-eq4 c =
    c.build_sdb.ensures ∙ sync_blocks c.args.burst_type c.args.characters.now c.requires c.bits_of-bits.ensures c.if-burst_type-eq4.true

pub returns-else-burst_type-eq4 : goal.returns-else-burst_type-eq4
returns-else-burst_type-eq4 c =
    c.build_ndb.ensures ∙ normal_blocks c.args.burst_type c.args.characters.now c.requires c.bits_of-bits-else-burst_type-eq4.ensures c.if-burst_type-eq4.false
