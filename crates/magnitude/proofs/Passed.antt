-- A guess that passes the float test is the magnitude: below re² + im², exactly, and the next f32 above. Assumes nothing.
use mathlib.Core.Path.{◌≡◌}
use Prim.Native.Nat.{ℕ, ◌+◌, ◌*◌, ◌^◌, ◌≤◌, ◌<◌}
use native.Mathlib.Nat.{le_trans, le_of_lt, lt_irrefl, not-le_of_lt, mul-pos}
use native.Mathlib.Omega.{arith}
use mathlib.Core.Logic.{◌⊎◌, inl, inr}
use mathlib.Core.Bool.{true, false, not}
use lib.Dec.{T, leb, lit<}
use lib.Pow.{pow_pos}
use lib.Ieee.{Float, binary32, binary64, round, add, mul, lt, fits, is_nan, of_bits, to_bits}
use lib.Ieee.Bits.{of_bits-fits}
use lib.Ieee.Exact.{HasValue}
use lib.Ieee.Scale.{finite}
use Rattle.std.specs.Float.{IsFloatMin}
use Rattle.magnitude.specs.Magnitude.{square, largest, magnitude_of, units}
use Rattle.magnitude.specs.Pattern.{size_of, exponent_of, significand_of, pattern_units}
use Rattle.magnitude.proofs.Numbers.{square_le, root_lt}
use Rattle.magnitude.proofs.Values.{sized_units, unsigned_at, pattern_mono}
use Rattle.magnitude.proofs.Largest.{largest_is, under_intro, under_elim}
use Rattle.magnitude.proofs.Parts.{min_is, number, size_lt, units_size, two_numbers}
use Rattle.magnitude.proofs.Rounded.{rounded_lt, square_at, sum_at, square_exact, finite_parts}

-- as `quick` computes them
abbrev squared : Float → Float
squared x = mul binary64 x x

abbrev sum_of : Float → Float → Float
sum_of x y = add binary64 (squared x) (squared y)

-- the squares' unit is 2 ^ -298
abbrev unit : ℕ
unit = 2 ^ 149 * 2 ^ 149

unit_pos : 0 < unit
unit_pos = mul-pos (pow_pos 149) (pow_pos 149)

-- where n lies from p's square to below the next
between : (n p : ℕ) → p < 0x7f80_0000 → square (pattern_units p) ≤ n → n < square (pattern_units (p + 1)) → largest n ≡ p
between n p h lo hi = largest_is n p (under_intro n p h lo, λ q l t. not-le_of_lt hi (le_trans (square_le (pattern_mono (p + 1) q (omega arith))) (under_elim n q t).1))

-- a part's square, with no rounding
part : (x : Float) → T (fits binary32 x) → finite x ≡ true → HasValue (squared x) false (square (units x)) unit
part x f h =
    let l = size_lt x f h in
    rw (units_size x f l, square_at binary64 x (leb 0x8000_0000 (to_bits binary32 x)) (pattern_units (size_of x)) (2 ^ 149) (pow_pos 149) (number x f l))
    (square_exact (significand_of (size_of x)) (exponent_of (size_of x)) (omega arith) (omega arith))

-- a pattern's square, rounded
pattern_square : (p : ℕ) → p < 0x7f80_0000 → squared (of_bits binary32 p) ≡ round binary64 false (square (pattern_units p)) unit
pattern_square p h = square_at binary64 (of_bits binary32 p) false (pattern_units p) (2 ^ 149) (pow_pos 149) (unsigned_at p h)

-- ---- the test, on the parts x and y as `min` gives them for re and im
abbrev large : Float
large = of_bits binary32 0x7f00_0000

-- `x.min(LARGE)`
pub at_most_large : (z x : Float) → IsFloatMin z large x → T (not (is_nan x)) × ((x ≡ z) ⊎ (x ≡ large))
unfolding is_nan of_bits
at_most_large z x = min_is z large x tt

held : (x z : Float) → (x ≡ z) ⊎ (x ≡ large) → T (fits binary32 z) → T (fits binary32 x)
held x z (inl e) f = rw e f
held x z (inr e) f = rw e (of_bits-fits binary32 0x7f00_0000)

-- a part whose square is below that of 2 ^ 127 is the sample's own
own : (x z : Float) → (x ≡ z) ⊎ (x ≡ large) → units x < pattern_units 0x7f00_0000 → x ≡ z
own x z (inl e) h = e
own x z (inr e) h = absurd (lt_irrefl (pattern_units 0x7f00_0000) (rw (e, sized_units large false (pattern_units 0x7f00_0000) (unsigned_at 0x7f00_0000 (lit< tt))) at h))

both_lt : (a b c d : ℕ) → square a + square b < square c → c ≤ d → (a < d) × (b < d)
both_lt a b c d h l = let s = square_le l in (root_lt a d (omega arith), root_lt b d (omega arith))

pub passed : (re im x y : Float) (p : ℕ) → T (fits binary32 re) → T (fits binary32 im) → (x ≡ re) ⊎ (x ≡ large) → (y ≡ im) ⊎ (y ≡ large) → p < 0x7f00_0000
    → lt (squared (of_bits binary32 p)) (sum_of x y) ≡ true → lt (sum_of x y) (squared (of_bits binary32 (p + 1))) ≡ true → of_bits binary32 p ≡ magnitude_of re im
passed re im x y p f g X Y h t u =
    let F = finite_parts binary64 x y (squared (of_bits binary32 (p + 1))) u in
    let a = square (units x) in
    let b = square (units y) in
    let s = sum_at binary64 (squared x) (squared y) a b unit unit_pos (part x (held x re X f) F.0) (part y (held y im Y g) F.1) in
    let low : square (pattern_units p) < a + b = rounded_lt binary64 (square (pattern_units p)) (a + b) unit unit_pos (rw (s, pattern_square p (omega arith)) at t) in
    let high : a + b < square (pattern_units (p + 1)) = rounded_lt binary64 (a + b) (square (pattern_units (p + 1))) unit unit_pos (rw (s, pattern_square (p + 1) (omega arith)) at u) in
    let o : (units x < pattern_units 0x7f00_0000) × (units y < pattern_units 0x7f00_0000) = both_lt (units x) (units y) (pattern_units (p + 1)) (pattern_units 0x7f00_0000) high (pattern_mono (p + 1) 0x7f00_0000 (omega arith)) in
    rw (← own x re X o.0, ← own y im Y o.1, two_numbers x y F.0 F.1, between (a + b) p (omega arith) (le_of_lt low) high)
