-- The code is the definition, with 32,768 by its bit pattern.
use Rattle.std.proofs.Common.{rules}
use mir.Syntax.{w16}
use mir.ValLaws.{to_z-of_z}
use Rattle.std.specs.Float.Ieee.{of_bits, of_int}
use Rattle.iq_format.specs.Parts.{part_of}
use Rattle.iq_format.proofs.Parts.{signed_word}
use Rattle.iq_format.proofs.cs16_part.Goals as goal

pub returns : goal.returns
unfolding part_of of_bits of_int
returns c =
    rw (
      to_z-of_z w16 c.from_le_bytes.result (record { sfits = c.from_le_bytes.type_inv }),
      c.from_le_bytes.ensures,
      signed_word c.args.raw (search rules) (search rules),
    )
