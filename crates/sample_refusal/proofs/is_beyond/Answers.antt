-- The literals are the definition's.
use Rattle.std.proofs.Common.{◌≡◌, refl}
use lib.Ieee.{binary32, of_bits, neg}
use Rattle.dsp_types.specs.Refusals.{beyond}
use Rattle.sample_refusal.proofs.is_beyond.Goals as goal

low : neg (of_bits binary32 0x4480_0000) ≡ of_bits binary32 0xc480_0000
unfolding neg of_bits
low = refl

pub returns : goal.returns
unfolding beyond
returns c = rw low
