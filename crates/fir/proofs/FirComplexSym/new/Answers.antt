-- Each of the 32 samples is silence.
use Rattle.std.proofs.Common.{◌-◌, arith}
use lib.ListN.{get_or-replicate}
use lib.Ieee.{nan}
use Rattle.dsp_types.specs.Samples.{zero_f, silence}
use Rattle.fir.specs.Fir.{line_of, in_row}
use Rattle.dsp_types.proofs.RingLaws.{newest_same}
use Rattle.fir.proofs.FirComplexSym.new.Goals as goal

pub returns : goal.returns
unfolding line_of in_row
returns c =
    newest_same 32 silence (λ j h i. record { re = get_or-replicate 32 (31 - j) zero_f nan (omega arith) i; im = get_or-replicate 32 (31 - j) zero_f nan (omega arith) i })
