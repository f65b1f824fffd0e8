-- From a gap of 25 on nothing is left of n².
use Rattle.std.proofs.Common.{sym, arith}
use native.Mathlib.Nat.{div-eq_of_lt, lt_of_lt_of_le}
use lib.Pow.{pow_mono}
use Rattle.magnitude.proofs.Numbers.{product_lt}
use Rattle.magnitude.proofs.shifted_square.Goals as goal

pub returns-else-gap-lt25 : goal.returns-else-gap-lt25
returns-else-gap-lt25 c =
    sym (div-eq_of_lt (lt_of_lt_of_le (product_lt 24 c.requires c.requires) (pow_mono {i = 48} (omega arith))))
