-- The f32s that 01 and the source name beside 0 and 1, as the code's literals have them. Definitions only.
use Rattle.std.specs.Prelude.{false, Float}
use Rattle.std.specs.Float.{binary32}
use Rattle.std.specs.Float.Ieee.{of_bits, round}

abbrev pub half_f : Float
half_f = of_bits binary32 0x3f00_0000

abbrev pub two_f : Float
two_f = of_bits binary32 0x4000_0000

abbrev pub four_f : Float
four_f = of_bits binary32 0x4080_0000

-- the f32s nearest to 0.1 and to 0.1738
unfoldable pub tenth : Float
unfolding round
tenth = round binary32 false 1 10

unfoldable pub bend : Float
unfolding round
bend = round binary32 false 1738 10000
