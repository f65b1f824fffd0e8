-- What the code's tests and casts of floats say. Assumes nothing.
use mathlib.Core.Path.{◌≡◌, refl}
use Prim.Native.Nat.{min}
use native.Mathlib.Omega.{arith}
use mathlib.Core.Bool.{true, false}
use lib.Ieee.{Float, nan, inf, fin, to_unsigned}
use lib.Ieee.Scale.{finite}
use Rattle.std.specs.Float.{float_with_sign, float_is_finite}
use Rattle.timing.specs.Turns.{absolute_of, whole_of}

-- ---- std's words
pub absolute_is : (x : Float) → float_with_sign false x ≡ absolute_of x
unfolding float_with_sign absolute_of
absolute_is nan = refl
absolute_is (inf s) = refl
absolute_is (fin s m e) = refl

pub finite_is : (x : Float) → float_is_finite x ≡ finite x
unfolding float_is_finite
finite_is nan = refl
finite_is (inf s) = refl
finite_is (fin s m e) = refl

-- ---- `whole`: a cast to 64 bits that stops at 3 is a cast to two
pub whole_capped : (t : Float) → min (to_unsigned 64 t) 3 ≡ whole_of t
unfolding whole_of to_unsigned
whole_capped nan = refl
whole_capped (inf true) = refl
whole_capped (inf false) = refl
whole_capped (fin true m e) = refl
whole_capped (fin false m e) = omega arith
