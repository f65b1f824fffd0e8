-- The averaged timing error of a locked receiver, and what it makes of the reference time (demodulator.rs 196 to 203, 337 and 338). Definitions only.
use Rattle.std.specs.Prelude.{Bool, cond, ℤ, pos, negsuc, ◌+ℤ◌, Float}
use Rattle.std.specs.Float.{binary32}
use Rattle.std.specs.Float.Ieee.{neg, add, sub, mul, lt}
use Rattle.dsp_types.specs.Samples.{one_f}
use Rattle.timing.specs.Floats.{half_f, two_f, tenth}

-- `averaged += (timing − 2.0 − averaged) * 0.1`
unfoldable pub averaged_of : Float → Float → Float
unfolding tenth add mul sub
averaged_of averaged timing = add binary32 averaged (mul binary32 (sub binary32 (sub binary32 timing two_f) averaged) tenth)

-- the two tests of a slot's end: the averaged error is above 0.5, and below −0.5
unfoldable pub late : Float → Bool
unfolding lt
late averaged = lt half_f averaged

unfoldable pub early : Float → Bool
unfolding lt neg
early averaged = lt averaged (neg half_f)

-- the averaged error after the first test; the second test sees this
unfoldable pub lowered_of : Float → Float
unfolding late sub
lowered_of averaged = cond (late averaged) (sub binary32 averaged one_f) averaged

-- the averaged error after both
unfoldable pub settled_of : Float → Float
unfolding lowered_of early add
settled_of averaged = let lowered = lowered_of averaged in cond (early lowered) (add binary32 lowered one_f) lowered

-- by how many samples the two tests move the reference time on
unfoldable pub moved_of : Float → ℤ
unfolding lowered_of early late
moved_of averaged = cond (late averaged) (pos 1) (pos 0) +ℤ cond (early (lowered_of averaged)) (negsuc 0) (pos 0)
