-- The stand-in for `atan2`, scaling and `rem_euclid` (01, "Symbol timing"): the direction of (i, q) in quarter turns. Every operation is an f32's, rounded once. Definitions only.
use Rattle.std.specs.Prelude.{ℕ, Bool, true, false, not, ◌&&◌, cond, pos, Float}
use Rattle.std.specs.Float.{nan, inf, fin, binary32}
use Rattle.std.specs.Float.Ieee.{add, sub, mul, div, lt, eq, of_int, to_unsigned}
use Rattle.std.specs.Float.Ieee.Scale.{finite}
use Rattle.dsp_types.specs.Samples.{zero_f, one_f}
use Rattle.timing.specs.Floats.{half_f, two_f, four_f, bend}

-- |x|
unfoldable pub absolute_of : Float → Float
absolute_of nan = nan
absolute_of (inf s) = inf false
absolute_of (fin s m e) = fin false m e

-- "z times (0.5 plus 0.1738 times (1 minus z))"
unfoldable pub curve_of : Float → Float
unfolding bend mul add sub
curve_of z = mul binary32 z (add binary32 half_f (mul binary32 bend (sub binary32 one_f z)))

-- u from |i| and |q|: z is "the smaller magnitude over the larger", and "where |q| exceeds |i|, u becomes 1 − u"
unfoldable pub octant_of : Float → Float → Float
unfolding curve_of lt sub div
octant_of a b = cond (lt a b) (sub binary32 one_f (curve_of (div binary32 a b))) (curve_of (div binary32 b a))

-- "or 0.0 if that rounds to 4"
unfoldable pub wrapped_of : Float → Float
unfolding eq
wrapped_of t = cond (eq t four_f) zero_f t

-- u in its quadrant, by whether i is below 0 and whether q is
unfoldable pub quadrant_of : Bool → Bool → Float → Float
unfolding wrapped_of add sub
quadrant_of false false u = u
quadrant_of true false u = sub binary32 two_f u
quadrant_of true true u = add binary32 two_f u
quadrant_of false true u = wrapped_of (sub binary32 four_f u)

-- i and q are numbers, and not both zero
unfoldable pub directed : Float → Float → Bool
unfolding eq
directed i q = finite i && finite q && not (eq i zero_f && eq q zero_f)

-- the quarter turns from 0 to below 4; "if i or q is NaN or infinite, or both are zero, it is 0.0"
unfoldable pub quarter_turns : Float → Float → Float
unfolding directed quadrant_of octant_of absolute_of lt
quarter_turns i q = cond (directed i q) (quadrant_of (lt i zero_f) (lt q zero_f) (octant_of (absolute_of i) (absolute_of q))) zero_f

-- t's whole part (`floor() as usize`, demodulator.rs 235), as a number of two bits: Rust's cast cuts toward zero, takes NaN to 0 and stops at the ends of the range
unfoldable pub whole_of : Float → ℕ
unfolding to_unsigned
whole_of t = to_unsigned 2 t

-- t less its whole part (`fract()`, demodulator.rs 236)
unfoldable pub fract_of : Float → Float
unfolding whole_of sub of_int
fract_of t = sub binary32 t (of_int binary32 (pos (whole_of t)))
