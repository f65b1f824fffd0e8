-- When a sum is what it is in whole numbers. Assumes nothing.
use mathlib.Core.Path.{◌≡◌, ap}
use Prim.Native.Nat.{◌<◌, ◌^◌}
use native.Mathlib.Nat.{min-eq_left}
use native.Mathlib.Omega.{arith}
use lib.IntN.{ℤ, pos, negsuc}
use mir.Syntax.{w64}
use mir.Val.{SFits}
use Rattle.dsp_types.specs.Times.{fitted}

pub fitted_fits : (z : ℤ) → SFits w64 z → fitted z ≡ z
unfolding fitted
fitted_fits (pos n) f = let h : n < 2 ^ 63 = f.sfits in ap pos (min-eq_left (omega (arith, h)))
fitted_fits (negsuc n) f = let h : n < 2 ^ 63 = f.sfits in ap negsuc (min-eq_left (omega (arith, h)))
