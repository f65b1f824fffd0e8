-- What 01 says of quarter turns: `turns_law` of proofs/Law and `exact_law` of proofs/Exact show it of `quarter_turns`. Definitions only.
use Rattle.std.specs.Prelude.{◌≡◌, Bool, true, false, T, Float}
use Rattle.std.specs.Float.{nan, inf, fin, binary32}
use Rattle.std.specs.Float.Ieee.{fits, le, lt, neg, of_bits}
use Rattle.std.specs.Float.Ieee.Scale.{finite}
use Rattle.dsp_types.specs.Samples.{zero_f, one_f}
use Rattle.timing.specs.Floats.{half_f, two_f, four_f}
use Rattle.timing.specs.Turns.{quarter_turns}

-- the sign, which −0.0 has too
abbrev pub signed : Float → Bool
signed nan = false
signed (inf s) = s
signed (fin s m e) = s

-- "quarter turns from 0 to below 4": an f32, and not −0.0
pub record InTurn (t : Float) : Type 0 where
  pub held : T (fits binary32 t)
  pub is_finite : finite t ≡ true
  pub not_signed : signed t ≡ false
  pub from_zero : le zero_f t ≡ true
  pub below_four : lt t four_f ≡ true

-- "exact at the axes and diagonals": the eight directions of an x above 0, in eighths of a turn; the patterns are 1.5, 2.5, 3 and 3.5
pub record ExactAt (x : Float) : Type 0 where
  pub at_0 : quarter_turns x zero_f ≡ zero_f
  pub at_1 : quarter_turns x x ≡ half_f
  pub at_2 : quarter_turns zero_f x ≡ one_f
  pub at_3 : quarter_turns (neg x) x ≡ of_bits binary32 0x3fc0_0000
  pub at_4 : quarter_turns (neg x) zero_f ≡ two_f
  pub at_5 : quarter_turns (neg x) (neg x) ≡ of_bits binary32 0x4020_0000
  pub at_6 : quarter_turns zero_f (neg x) ≡ of_bits binary32 0x4040_0000
  pub at_7 : quarter_turns x (neg x) ≡ of_bits binary32 0x4060_0000
