-- What 01, "The past", says of the stand-in for `abs()`, word by word: `magnitude_law` of proofs/Law shows it of `magnitude_of`. Definitions only.
use Rattle.std.specs.Prelude.{◌≡◌, ◌+◌, ◌^◌, ◌≤◌, Bool, true, false, ◌&&◌, T, Float}
use Rattle.std.specs.Float.{binary32}
use Rattle.std.specs.Float.Ieee.{fits, le}
use Rattle.std.specs.Float.Ieee.Exact.{HasValue}
use Rattle.std.specs.Float.Ieee.Scale.{finite}
use Rattle.dsp_types.specs.Samples.{zero_f}
use Rattle.magnitude.specs.Magnitude.{units, square}

-- x is a finite f32, and `units x` / 2 ^ 149 is its size, exactly
pub record Number (x : Float) : Type 0 where
  pub held : T (fits binary32 x)
  pub sign : Bool
  pub exact : HasValue x sign (units x) (2 ^ 149)

-- "the largest f32 whose square is not above re² + im², exactly"
pub record LargestUnder (re im r : Float) : Type 0 where
  pub first : Number re
  pub second : Number im
  pub not_above : square (units r) ≤ square (units re) + square (units im)
  pub no_larger : (x : Float) → Number x → square (units x) ≤ square (units re) + square (units im) → T (le x r)

-- r stands in for the `abs()` of (re, im)
pub record StandIn (re im r : Float) : Type 0 where
  pub number : Number r
  pub largest : finite re ≡ true → finite im ≡ true → LargestUnder re im r
  -- "0.0 if a part is NaN or infinite"
  pub otherwise : (finite re && finite im) ≡ false → r ≡ zero_f
  -- "never −0.0", nor below zero
  pub unsigned : number.sign ≡ false
