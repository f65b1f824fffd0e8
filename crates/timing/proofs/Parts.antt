-- A whole part is below 4, and what a t from 0 to below 4 says of its fraction. Assumes nothing.
use Prim.Native.Nat.{ℕ, ◌*◌, ◌<◌}
use native.Mathlib.Omega.{arith}
use mathlib.Core.Bool.{false}
use lib.IntN.{ℤ}
use borrow.Author.Tests.{ltb-true}
use lib.Ieee.{Float, fin, up, down, lt, of_bits}
use lib.Ieee.Casts.{to_unsigned-lt}
use Rattle.timing.specs.Turns.{whole_of}
use Rattle.timing.specs.Document.{InTurn}

pub whole_lt : (t : Float) → whole_of t < 4
unfolding whole_of
whole_lt t = to_unsigned-lt 2 t

-- what `InTurn` says of the fraction
pub under_four : (m : ℕ) (e : ℤ) → InTurn (fin false m e) → m * up e < 4 * down e
unfolding lt of_bits
under_four m e h = omega (arith, ltb-true (m * up e * 1) (4 * down e) h.below_four)
