-- What a test on rounded sums of squares tells of the exact ones: rounding keeps the order, so what it leaves below was below. Assumes nothing.
use mathlib.Core.Path.{◌≡◌, refl, sym, ap, ◌∙◌}
use Prim.Native.Nat.{ℕ, ◌+◌, ◌*◌, ◌^◌, ◌<◌}
use native.Mathlib.Nat.{lt_of_lt_of_le, lt_of_not-le, add-mul, mul_assoc, mul_comm, mul_right_comm, mul-pos, mul-mul-mul_comm, mul-le-mul_right}
use native.Mathlib.Omega.{arith}
use mathlib.Core.Bool.{Bool, true, false, not, ◌&&◌, ◌||◌, true≢false, false≢true}
use lib.Dec.{T, eqb, eqb→eq}
use borrow.Author.Tests.{ltb-true, le-ltb, ne_eqb}
use lib.Pow.{pow-add, pow_pos, pow_mono, shl_lt}
use lib.Ieee.{Float, nan, inf, fin, Format, binary64, up, down, below, level, round, sum, add, mul, lt, le}
use lib.Ieee.Exact.{HasValue, round_exact}
use lib.Ieee.Fits.{down_pos, and_l, and_r}
use lib.Ieee.Order.{round_mono}
use lib.Ieee.Scale.{round_same, finite}
use Rattle.magnitude.specs.Magnitude.{square}
use Rattle.magnitude.proofs.Numbers.{product_lt}

-- ---- the order
below_not : (s t : Bool) (a b : ℕ) → below s a t b ≡ true → T (below t b s a || level t b s a) → ⊥
below_not false false a b h k = let l = ltb-true a b h in rw (le-ltb b a (omega arith), ne_eqb b a (λ e. omega arith)) at k
below_not false true a b h k = absurd (false≢true h)
below_not true false a b h k = zeros b a (ltb-true 0 (a + b) h) k
  where
    zeros : (b a : ℕ) → 0 < a + b → T (eqb b a && (false || eqb b 0)) → ⊥
    zeros b a l t =
        let e = eqb→eq b a (and_l (eqb b a) (eqb b 0) t) in
        let z = eqb→eq b 0 (and_r (eqb b a) (eqb b 0) t) in
        omega arith
below_not true true a b h k = let l = ltb-true b a h in rw (le-ltb a b (omega arith), ne_eqb b a (λ e. omega arith)) at k

lt_not_le : (x y : Float) → lt x y ≡ true → T (le y x) → ⊥
unfolding lt le
lt_not_le nan y h k = absurd (false≢true h)
lt_not_le (inf s) nan h k = absurd (false≢true h)
lt_not_le (inf true) (inf true) h k = absurd (false≢true h)
lt_not_le (inf true) (inf false) h k = k
lt_not_le (inf false) (inf t) h k = absurd (false≢true h)
lt_not_le (inf true) (fin t n d) h k = k
lt_not_le (inf false) (fin t n d) h k = absurd (false≢true h)
lt_not_le (fin s m e) nan h k = absurd (false≢true h)
lt_not_le (fin s m e) (inf true) h k = absurd (false≢true h)
lt_not_le (fin s m e) (inf false) h k = k
lt_not_le (fin s m e) (fin t n d) h k = below_not s t (m * up e * down d) (n * up d * down e) h k

-- of two fractions the one that rounds to less is less
pub rounded_lt : (f : Format) (a b c : ℕ) → 0 < c → lt (round f false a c) (round f false b c) ≡ true → a < b
rounded_lt f a b c C h = lt_of_not-le (λ l. lt_not_le (round f false a c) (round f false b c) h (round_mono f b c a c C C (mul-le-mul_right c l)))

-- ---- a square, and a sum of two values that are not negative, by any fractions that they equal
square_cross : (n d a c : ℕ) → n * c ≡ a * d → n * n * (c * c) ≡ a * a * (d * d)
square_cross n d a c h = mul-mul-mul_comm n n c c ∙ ap (λ (z : ℕ). z * z) h ∙ mul-mul-mul_comm a d a d

pub square_at : (f : Format) (x : Float) (s : Bool) (a c : ℕ) → 0 < c → HasValue x s a c → mul f x x ≡ round f false (a * a) (c * c)
unfolding mul
square_at f nan s a c C h = absurd h
square_at f (inf t) s a c C h = absurd h
square_at f (fin true m e) s a c C h = round_same f false _ _ (a * a) (c * c) (mul-pos (down_pos e) (down_pos e)) (mul-pos C C) (square_cross (m * up e) (down e) a c h.1)
square_at f (fin false m e) s a c C h = round_same f false _ _ (a * a) (c * c) (mul-pos (down_pos e) (down_pos e)) (mul-pos C C) (square_cross (m * up e) (down e) a c h.1)

sum_cross : (x y d d' a b c : ℕ) → x * c ≡ a * d → y * c ≡ b * d' → (x * d' + y * d) * c ≡ (a + b) * (d * d')
sum_cross x y d d' a b c h k =
    let l : x * d' * c ≡ a * (d * d') = mul_right_comm x d' c ∙ ap (λ (z : ℕ). z * d') h ∙ mul_assoc a d d' in
    let r : y * d * c ≡ b * (d * d') = mul_right_comm y d c ∙ ap (λ (z : ℕ). z * d) k ∙ mul_assoc b d' d ∙ ap (λ (z : ℕ). b * z) (mul_comm d' d) in
    add-mul (x * d') (y * d) c ∙ rw (l, r) (sym (add-mul a b (d * d')))

pub sum_at : (f : Format) (x y : Float) (a b c : ℕ) → 0 < c → HasValue x false a c → HasValue y false b c → add f x y ≡ round f false (a + b) c
unfolding add sum
sum_at f nan y a b c C h k = absurd h
sum_at f (inf s) y a b c C h k = absurd h
sum_at f (fin true m e) y a b c C h k = absurd (true≢false h.0)
sum_at f (fin false m e) nan a b c C h k = absurd k
sum_at f (fin false m e) (inf t) a b c C h k = absurd k
sum_at f (fin false m e) (fin true n d) a b c C h k = absurd (true≢false k.0)
sum_at f (fin false m e) (fin false n d) a b c C h k =
    round_same f false _ _ (a + b) c (mul-pos (down_pos e) (down_pos d)) C (sum_cross (m * up e) (n * up d) (down e) (down d) a b c h.1 k.1)

-- ---- the square of an f32 is an f64: m · 2 ^ e units of 2 ^ -149
scaled : (m e l u j : ℕ) → j + (u + u) ≡ e + e + l → square (m * 2 ^ e) * 2 ^ l ≡ m * m * 2 ^ j * (2 ^ u * 2 ^ u)
scaled m e l u j h =
    let low : square (m * 2 ^ e) * 2 ^ l ≡ m * m * 2 ^ (e + e + l) = ap (λ (z : ℕ). z * 2 ^ l) (mul-mul-mul_comm m (2 ^ e) m (2 ^ e)) ∙ mul_assoc (m * m) (2 ^ e * 2 ^ e) (2 ^ l) ∙ rw (pow-add 2 (e + e) l, pow-add 2 e e) in
    let high : m * m * 2 ^ j * (2 ^ u * 2 ^ u) ≡ m * m * 2 ^ (j + (u + u)) = mul_assoc (m * m) (2 ^ j) (2 ^ u * 2 ^ u) ∙ rw (pow-add 2 j (u + u), pow-add 2 u u) in
    low ∙ ap (λ (z : ℕ). m * m * 2 ^ z) (sym h) ∙ sym high

pub square_exact : (m e : ℕ) → m < 2 ^ 24 → e < 254 → (let a = square (m * 2 ^ e) in let c = 2 ^ 149 * 2 ^ 149 in HasValue (round binary64 false a c) false a c)
square_exact m e M E =
    round_exact binary64 false (square (m * 2 ^ e)) (2 ^ 149 * 2 ^ 149) (m * m) (e + e + 776) (mul-pos (pow_pos 149) (pow_pos 149))
    (lt_of_lt_of_le (product_lt 24 M M) (pow_mono {i = 48} {j = 53} (omega arith)))
    (lt_of_lt_of_le (shl_lt 48 (e + e + 776) (product_lt 24 M M)) (pow_mono {i = 48 + (e + e + 776)} {j = 2098} (omega arith)))
    (scaled m e 1074 149 (e + e + 776) (omega arith))

-- ---- a sum of squares that is below anything has finite parts: else it is NaN or infinite
abbrev over : Float → Bool
over nan = true
over (inf s) = not s
over (fin s m e) = false

over_square : (f : Format) (x : Float) → finite x ≡ false → T (over (mul f x x))
unfolding mul
over_square f nan h = tt
over_square f (inf true) h = tt
over_square f (inf false) h = tt
over_square f (fin s m e) h = absurd (true≢false h)

over_first : (f : Format) (x y : Float) → T (over x) → T (over (add f x y))
unfolding add
over_first f nan y h = tt
over_first f (inf true) y h = absurd h
over_first f (inf false) nan h = tt
over_first f (inf false) (inf true) h = tt
over_first f (inf false) (inf false) h = tt
over_first f (inf false) (fin t n d) h = tt
over_first f (fin s m e) y h = absurd h

over_second : (f : Format) (x y : Float) → T (over y) → T (over (add f x y))
unfolding add
over_second f nan y h = tt
over_second f (inf s) nan h = tt
over_second f (inf s) (inf true) h = absurd h
over_second f (inf true) (inf false) h = tt
over_second f (inf false) (inf false) h = tt
over_second f (inf s) (fin t n d) h = absurd h
over_second f (fin s m e) nan h = tt
over_second f (fin s m e) (inf t) h = h
over_second f (fin s m e) (fin t n d) h = absurd h

over_below : (x y : Float) → T (over x) → lt x y ≡ true → ⊥
unfolding lt
over_below nan y h k = false≢true k
over_below (inf true) y h k = h
over_below (inf false) nan h k = false≢true k
over_below (inf false) (inf t) h k = false≢true k
over_below (inf false) (fin t n d) h k = false≢true k
over_below (fin s m e) y h k = h

pub finite_parts : (f : Format) (x y z : Float) → lt (add f (mul f x x) (mul f y y)) z ≡ true → (finite x ≡ true) × (finite y ≡ true)
finite_parts f x y z h = (
  known (finite x) (λ e. over_below _ z (over_first f (mul f x x) (mul f y y) (over_square f x e)) h),
  known (finite y) (λ e. over_below _ z (over_second f (mul f x x) (mul f y y) (over_square f y e)) h),
)
  where
    known : (b : Bool) → (b ≡ false → ⊥) → b ≡ true
    known true n = refl
    known false n = absurd (n refl)
