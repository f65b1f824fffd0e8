-- What every stage says of samples: silence, and the sample j calls ago (01, "Samples and the filter line").
use Rattle.std.specs.Prelude.{ℕ, List, get_or, Float}
use Rattle.std.specs.Float.{binary32}
use Rattle.std.specs.Float.Ieee.{of_bits}
use Rattle.dsp_types.specs.declared.ComplexSample.{ComplexSample}

-- +0.0 and 1.0, as the code's literals have them
abbrev pub zero_f : Float
zero_f = of_bits binary32 0

abbrev pub one_f : Float
one_f = of_bits binary32 0x3f80_0000

-- what older samples start as
abbrev pub silence : ComplexSample
silence = record { re = zero_f; im = zero_f }

-- in(j), the element j calls ago of a record that is kept newest first; older ones are z
abbrev pub ago : {A : Type 0} → A → List A → ℕ → A
ago z xs j = get_or xs j z
