-- What is written of a whole number: its sign, and its digits.
use mathlib.Core.Path.{◌≡◌, refl}
use mathlib.Core.Bool.{true, false, true≢false}
use mathlib.Core.List.{List, ◌++◌, append_assoc}
use Prim.Native.Nat.{ℕ}
use native.Mathlib.Omega.{arith}
use lib.IntN.{ℤ, pos, negsuc}
use lib.Signed.{lt_z}
use borrow.Author.Tests.{ltb-true}
use Rattle.std.specs.Prelude.{unsigned_abs}
use Rattle.text.specs.Text.{ascii, decimal}
use Rattle.lister.specs.Listing.{signed_decimal}

pub below_signed : (t : List ℕ) (z : ℤ) → lt_z z (pos 0) ≡ true → t ++ ascii "-" ++ decimal 20 (unsigned_abs z) ≡ t ++ signed_decimal z
unfolding signed_decimal
below_signed t (pos n) e = absurd (omega (arith, ltb-true n 0 e))
below_signed t (negsuc n) e = append_assoc t (ascii "-") (decimal 20 (unsigned_abs (negsuc n)))

pub above_signed : (z : ℤ) → lt_z z (pos 0) ≡ false → decimal 20 (unsigned_abs z) ≡ signed_decimal z
unfolding signed_decimal
above_signed (pos n) e = refl
above_signed (negsuc n) e = absurd (true≢false e)
