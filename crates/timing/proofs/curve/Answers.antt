-- The literals are the f32s that the definition names.
use Rattle.std.proofs.Common.{refl}
use lib.Ieee.{of_bits}
use Rattle.timing.specs.Floats.{bend}
use Rattle.timing.specs.Turns.{curve_of}
use Rattle.timing.proofs.curve.Goals as goal

pub returns : goal.returns
unfolding curve_of bend of_bits
returns c = refl
