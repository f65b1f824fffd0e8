-- Its operations are the definition's, its literals the f32s nearest to 2 and to 0.1.
use Rattle.std.proofs.Common.{refl}
use lib.Ieee.{of_bits}
use Rattle.timing.specs.Floats.{tenth}
use Rattle.timing.specs.Tracking.{averaged_of}
use Rattle.slot_receiver.proofs.search.averaged.Goals as goal

pub returns : goal.returns
unfolding averaged_of tenth of_bits
returns c = refl
