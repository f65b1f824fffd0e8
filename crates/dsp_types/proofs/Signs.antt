-- A signed number by its sign and `mag`, which is n both for n and for −1 − n. Assumes nothing.
use mathlib.Core.Path.{◌≡◌, refl, ap}
use mathlib.Core.Bool.{Bool, true, false, cond}
use Prim.Native.Nat.{ℕ, zero, suc, ◌-◌, ◌<◌, ◌^◌}
use native.Mathlib.Omega.{arith}
use lib.IntN.{ℤ, pos, negsuc, ◌-ℤ◌, ◌+ℤ◌}
use lib.Dec.{ltb}
use lib.Signed.{mag, lt_z}
use mir.Syntax.{w32, w64}
use mir.Val.{SFits}
use borrow.Author.Tests.{le-ltb, ltb-true}

pub below : (z : ℤ) → lt_z z (pos 0) ≡ true → negsuc 0 -ℤ z ≡ pos (mag z)
below (pos n) e = absurd (omega (arith, ltb-true n 0 e))
below (negsuc n) e = rw (le-ltb (suc n) 1 (omega arith)) (ap pos (omega arith))

pub below_is : (z : ℤ) → lt_z z (pos 0) ≡ true → z ≡ negsuc (mag z)
below_is (pos n) e = absurd (omega (arith, ltb-true n 0 e))
below_is (negsuc n) e = refl

pub above_is : (z : ℤ) → lt_z z (pos 0) ≡ false → z ≡ pos (mag z)
above_is (pos n) e = refl
above_is (negsuc n) e = absurd (let z : ◌≡◌ {A = ℕ} 0 1 = cc in omega arith)

pub widens : {z : ℤ} → SFits w32 z → SFits w64 z
widens {z} f = let h : mag z < 2 ^ 31 = f.sfits in record { sfits = omega (arith, h) }

pub adds : (a : ℕ) (z : ℤ) → a < 2 ^ 31 → SFits w32 z → SFits w64 (pos a +ℤ z)
adds a (pos n) h f = let g : n < 2 ^ 31 = f.sfits in record { sfits = omega (arith, g) }
adds a (negsuc n) h f = go (ltb a (suc n)) refl
  where
    g : n < 2 ^ 31
    g = f.sfits

    go : (b : Bool) → ltb a (suc n) ≡ b → SFits w64 (cond b (negsuc (suc n - suc a)) (pos (a - suc n)))
    go true e = record { sfits = omega (arith, g) }
    go false e = record { sfits = omega (arith, g) }

pub minus : (q : ℕ) → negsuc 0 -ℤ pos q ≡ negsuc q
minus zero = refl
minus (suc q) = ap negsuc (omega arith)
