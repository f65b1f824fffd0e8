-- Products and squares of natural numbers. Assumes nothing.
use Prim.Native.Nat.{ℕ, ◌+◌, ◌*◌, ◌^◌, ◌≤◌, ◌<◌}
use native.Mathlib.Nat.{le_of_lt, lt_of_le_of_lt, lt_of_not-le, not-le_of_lt, mul-le-mul, mul-le-mul_left, mul-lt-mul_of_pos_right}
use native.Mathlib.Omega.{arith}
use lib.Pow.{pow-add, pow_pos}

pub product_lt : (k : ℕ) {a b : ℕ} → a < 2 ^ k → b < 2 ^ k → a * b < 2 ^ (k + k)
product_lt k {a} {b} ha hb = rw pow-add (lt_of_le_of_lt (mul-le-mul_left a (le_of_lt hb)) (mul-lt-mul_of_pos_right ha (pow_pos k)))

pub square_le : {a b : ℕ} → a ≤ b → a * a ≤ b * b
square_le h = mul-le-mul h h

-- the order of the squares is that of the roots
pub root_lt : (a b : ℕ) → a * a < b * b → a < b
root_lt a b h = lt_of_not-le (λ g. not-le_of_lt h (square_le g))

pub sum_lt_49 : (m z : ℕ) → m < 2 ^ 24 → z < 2 ^ 48 → m * m + z < 2 ^ 49
sum_lt_49 m z h k = let l : m * m < 2 ^ 48 = product_lt 24 h h in omega arith
