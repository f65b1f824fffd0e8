-- One byte more is found, or is found from there on; at the end nothing is left to find.
use Rattle.dsp_types.proofs.Bits.{one_more, no_more}
use Rattle.dsp_types.proofs.not_bits.Goals as goal

pub loop-byte-preserved : goal.loop-byte-preserved
loop-byte-preserved c = one_more c.args.bytes.now c.loop-byte.found c.loop-byte.byte-index c.loop-byte-test.true c.loop-byte.invariant

pub returns : goal.returns
returns c = no_more c.args.bytes.now c.loop-byte.found c.loop-byte.byte-index c.loop-byte-test.false c.loop-byte.invariant
