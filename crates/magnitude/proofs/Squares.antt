-- A sum of squares is no NaN where no part is, and has no sign: its terms have none. Assumes nothing.
use mathlib.Core.Path.{◌≡◌, refl}
use Prim.Native.Nat.{ℕ, zero, suc, ◌+◌, ◌*◌, ◌^◌, ◌<◌}
use native.Mathlib.Omega.{arith}
use mathlib.Core.Bool.{Bool, true, false, not, cond, true≢false}
use lib.Dec.{T, ltb}
use lib.Ieee.{Float, nan, inf, fin, Format, prec, emax, low, odd, units, round, sum, add, mul, is_nan, binary64, fits, to_bits}
use lib.Ieee.Fits.{add-fits}
use lib.Ieee.Bits.{to_bits-lt}

-- x is a number or an infinity, and its sign is clear
abbrev Unsigned : Float → Type 0
Unsigned nan = ⊥
Unsigned (inf s) = s ≡ false
Unsigned (fin s m e) = s ≡ false

odd_unsigned : (d q k l : ℕ) → Unsigned (odd d false q k l)
unfolding odd
odd_unsigned d zero k l = refl
odd_unsigned d (suc q) k l = refl

units_unsigned : (f : Format) (q k : ℕ) → Unsigned (units f false q k)
unfolding units
units_unsigned f q k = go (ltb (q * 2 ^ k) (2 ^ (low f + suc (emax f))))
  where
    go : (b : Bool) → Unsigned (cond b (odd (suc (prec f)) false q k (low f)) (inf false))
    go true = odd_unsigned (suc (prec f)) q k (low f)
    go false = refl

round_unsigned : (f : Format) (a c : ℕ) → Unsigned (round f false a c)
unfolding round
round_unsigned f a c = units_unsigned f _ _

square_unsigned : (f : Format) (x : Float) → T (not (is_nan x)) → Unsigned (mul f x x)
unfolding mul is_nan
square_unsigned f nan h = absurd h
square_unsigned f (inf true) h = refl
square_unsigned f (inf false) h = refl
square_unsigned f (fin true m e) h = round_unsigned f _ _
square_unsigned f (fin false m e) h = round_unsigned f _ _

sum_unsigned : (f : Format) (x y : Float) → Unsigned x → Unsigned y → Unsigned (add f x y)
unfolding add sum
sum_unsigned f nan y p q = absurd p
sum_unsigned f (inf true) y p q = absurd (true≢false p)
sum_unsigned f (inf false) nan p q = absurd q
sum_unsigned f (inf false) (inf true) p q = absurd (true≢false q)
sum_unsigned f (inf false) (inf false) p q = refl
sum_unsigned f (inf false) (fin t n d) p q = refl
sum_unsigned f (fin true m e) y p q = absurd (true≢false p)
sum_unsigned f (fin false m e) nan p q = absurd q
sum_unsigned f (fin false m e) (inf t) p q = q
sum_unsigned f (fin false m e) (fin true n d) p q = absurd (true≢false q)
sum_unsigned f (fin false m e) (fin false n d) p q = round_unsigned f _ _

unsigned_not_nan : (x : Float) → Unsigned x → T (not (is_nan x))
unfolding is_nan
unsigned_not_nan nan p = p
unsigned_not_nan (inf s) p = tt
unsigned_not_nan (fin s m e) p = tt

-- the same digits with the sign set are 2 ^ 63 more, and still a pattern
unsigned_bits : (x : Float) → T (fits binary64 x) → Unsigned x → to_bits binary64 x < 0x8000_0000_0000_0000
unfolding to_bits fits
unsigned_bits nan h p = absurd p
unsigned_bits (inf true) h p = absurd (true≢false p)
unsigned_bits (inf false) h p = omega arith
unsigned_bits (fin true m e) h p = absurd (true≢false p)
unsigned_bits (fin false zero e) h p = omega (arith, to_bits-lt binary64 (fin true zero e) h)
unsigned_bits (fin false (suc m) e) h p = omega (arith, to_bits-lt binary64 (fin true (suc m) e) h)

pub squares_pattern : (x y : Float) → T (not (is_nan x)) → T (not (is_nan y))
    → (let s = add binary64 (mul binary64 x x) (mul binary64 y y) in T (not (is_nan s)) × (to_bits binary64 s < 0x8000_0000_0000_0000))
squares_pattern x y h k =
    let u = sum_unsigned binary64 _ _ (square_unsigned binary64 x h) (square_unsigned binary64 y k) in
    (unsigned_not_nan _ u, unsigned_bits _ (add-fits binary64 _ _) u)
