-- The code is the definition, with 127.5 and 128 by their bit patterns.
use Rattle.std.proofs.Common.{◌≡◌, ◌+◌, ◌*◌, arith}
use Rattle.std.specs.Float.Ieee.{of_bits, of_int, div}
use Rattle.iq_format.specs.Parts.{part_of, word_of}
use Rattle.iq_format.proofs.cu8_part.Goals as goal

pub returns : goal.returns
unfolding part_of word_of of_bits of_int div
returns c = let e : c.args.byte + 0x100 * 0 ≡ c.args.byte = omega arith in rw e
