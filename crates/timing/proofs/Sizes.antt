-- Bounds of f32 results: a bound that is itself an f32 survives the rounding, since rounding keeps the order. Assumes nothing.
use mathlib.Core.Path.{◌≡◌, refl, sym, ap, ◌∙◌}
use Prim.Native.Nat.{ℕ, zero, suc, ◌+◌, ◌-◌, ◌*◌, ◌^◌, ◌≤◌, ◌<◌, zero-le}
use native.Mathlib.Nat.{le_trans, le_of_eq, le_of_lt, zero-lt-suc, sub-le, zero-mul, one-mul, mul-one, mul_comm, mul_assoc, mul_left_comm, mul_right_comm, mul-pos, mul-le-mul, mul-le-mul_right, mul-mul-mul_comm, add-mul}
use native.Mathlib.Omega.{arith}
use mathlib.Core.Bool.{Bool, true, false, not, ◌&&◌, ◌||◌, beq, cond, true≢false}
use lib.IntN.{ℤ, pos}
use lib.Dec.{T, ltb, eqb}
use borrow.Author.Tests.{ltb-true, eqb-true, ne_eqb, le-ltb}
use lib.Ieee.{Float, nan, inf, fin, binary32, unlike, up, down, odd, units, round, neg, sum, add, sub, mul, div, le}
use lib.Ieee.Fits.{down_pos, round_is}
use lib.Ieee.Exact.{HasValue}
use lib.Ieee.Order.{drop, kept, round_mono}
use lib.Ieee.Scale.{finite, grid, round_val, round_under}
use lib.Ieee.Positive.{through}

-- x is finite, has the sign s, and is at most a / b in size
abbrev pub Size : Float → Bool → ℕ → ℕ → Type 0
Size nan s a b = ⊥
Size (inf t) s a b = ⊥
Size (fin t m e) s a b = (t ≡ s) × (m * up e * b ≤ a * down e)

pub record AtMost (x : Float) (s : Bool) (a b : ℕ) : Type 0 where
  pub over : 0 < b
  pub size : Size x s a b

-- the same with either sign
abbrev pub Bounded : Float → ℕ → ℕ → Type 0
Bounded x a b = (s : Bool) × AtMost x s a b

-- a / b is an f32: by `(refl, refl)` under `unfolding round`
abbrev pub Holds : ℕ → ℕ → Type 0
Holds a b = HasValue (round binary32 false a b) false a b

pub weaken : {x : Float} {s : Bool} {a b : ℕ} (c d : ℕ) → 0 < d → a * d ≤ c * b → AtMost x s a b → AtMost x s c d
weaken {x} {s} {a} {b} c d D h w = record { over = D; size = go x w.size }
  where
    go : (x : Float) → Size x s a b → Size x s c d
    go nan k = k
    go (inf t) k = k
    go (fin t m e) k = (k.0, through (m * up e) a c (down e) b d w.over k.1 h)

-- ---- a rounded fraction
le_split : (a b : ℕ) → T (ltb a b || (eqb a b && true)) → a ≤ b
le_split a b t = go (ltb a b) refl (eqb a b) refl t
  where
    go : (p : Bool) → ltb a b ≡ p → (q : Bool) → eqb a b ≡ q → T (p || (q && true)) → a ≤ b
    go true e q f t = le_of_lt (ltb-true a b e)
    go false e true f t = le_of_eq (eqb-true a b f)
    go false e false f t = absurd t

size_of_le : (x k : Float) (g l a b : ℕ) → HasValue x false g l → HasValue k false a b → T (le x k) → Size x false a b
unfolding le
size_of_le nan k g l a b p q h = absurd p
size_of_le (inf s) k g l a b p q h = absurd p
size_of_le (fin true m e) k g l a b p q h = absurd (true≢false p.0)
size_of_le (fin false m e) nan g l a b p q h = absurd q
size_of_le (fin false m e) (inf t) g l a b p q h = absurd q
size_of_le (fin false m e) (fin true n f) g l a b p q h = absurd (true≢false q.0)
size_of_le (fin false m e) (fin false n f) g l a b p q h =
    (refl, through (m * up e) (n * up f) a (down e) (down f) b (down_pos f) (le_split (m * up e * down f) (n * up f * down e) h) (le_of_eq q.1))

finite_between : (x k : Float) (a b : ℕ) → HasValue k false a b → T (le (fin false 0 (pos 0)) x) → T (le x k) → T (finite x)
unfolding le
finite_between nan k a b q lo hi = absurd lo
finite_between (inf true) k a b q lo hi = absurd lo
finite_between (inf false) nan a b q lo hi = absurd q
finite_between (inf false) (inf t) a b q lo hi = absurd q
finite_between (inf false) (fin t n f) a b q lo hi = absurd hi
finite_between (fin s m e) k a b q lo hi = tt

round_zero : round binary32 false 0 1 ≡ fin false 0 (pos 0)
unfolding round
round_zero = refl

round_size : (a c k l : ℕ) → 0 < c → 0 < l → Holds k l → a * l ≤ k * c → Size (round binary32 false a c) false k l
round_size a c k l C L K h =
    let x = round binary32 false a c in
    let hi : T (le x (round binary32 false k l)) = round_mono binary32 a c k l C L h in
    let lo : T (le (fin false 0 (pos 0)) x) = rw round_zero at (round_mono binary32 0 1 a c (zero-lt-suc 0) C (le_trans (le_of_eq (zero-mul c)) zero-le)) in
    size_of_le x (round binary32 false k l) (grid binary32 a c) (2 ^ 149) k l
    (round_val binary32 a c (round_under binary32 a c (finite_between x (round binary32 false k l) k l K lo hi))) K hi

-- ---- a negative fraction rounds as the positive one does
units_neg : (q k : ℕ) → units binary32 true q k ≡ neg (units binary32 false q k)
unfolding units odd neg
units_neg q k = go (ltb (q * 2 ^ k) (2 ^ 277))
  where
    odd_neg : (q : ℕ) → odd 25 true q k 149 ≡ neg (odd 25 false q k 149)
    odd_neg zero = refl
    odd_neg (suc q) = refl

    go : (b : Bool) → cond b (odd 25 true q k 149) (inf true) ≡ neg (cond b (odd 25 false q k 149) (inf false))
    go true = odd_neg q
    go false = refl

round_neg : (a c : ℕ) → round binary32 true a c ≡ neg (round binary32 false a c)
round_neg a c =
    round_is binary32 true a c
    ∙ units_neg (kept 24 (a * 2 ^ 149) c) (drop 24 (a * 2 ^ 149) c)
    ∙ ap neg (sym (round_is binary32 false a c))

neg_size : (x : Float) (s : Bool) (a b : ℕ) → Size x s a b → Size (neg x) (not s) a b
unfolding neg
neg_size nan s a b w = w
neg_size (inf t) s a b w = w
neg_size (fin t m e) s a b w = (ap not w.0, w.1)

pub neg_within : {x : Float} {s : Bool} {a b : ℕ} → AtMost x s a b → AtMost (neg x) (not s) a b
neg_within {x} {s} {a} {b} w = record { over = w.over; size = neg_size x s a b w.size }

pub round_within : (s : Bool) (a c k l : ℕ) → 0 < c → 0 < l → Holds k l → a * l ≤ k * c → AtMost (round binary32 s a c) s k l
round_within false a c k l C L K h = record { over = L; size = round_size a c k l C L K h }
round_within true a c k l C L K h =
    record {
      over = L;
      size = rw (round_neg a c) (neg_size (round binary32 false a c) false k l (round_size a c k l C L K h));
    }

-- ---- products
cross : (x p a y q c b d : ℕ) → x * b ≤ a * p → y * d ≤ c * q → x * y * (b * d) ≤ a * c * (p * q)
cross x p a y q c b d h k = rw (mul-mul-mul_comm x y b d, ← mul-mul-mul_comm a p c q) (mul-le-mul h k)

mul_at : (x y : Float) (s t : Bool) (a b c d : ℕ) → 0 < b * d → Holds (a * c) (b * d) → Size x s a b → Size y t c d → AtMost (mul binary32 x y) (unlike s t) (a * c) (b * d)
unfolding mul
mul_at nan y s t a b c d B K p q = absurd p
mul_at (inf s') y s t a b c d B K p q = absurd p
mul_at (fin s' m e) nan s t a b c d B K p q = absurd q
mul_at (fin s' m e) (inf t') s t a b c d B K p q = absurd q
mul_at (fin s' m e) (fin t' n f) s t a b c d B K p q =
    rw (← p.0, ← q.0)
    (round_within (unlike s' t') (m * up e * (n * up f)) (down e * down f) (a * c) (b * d) (mul-pos (down_pos e) (down_pos f)) B K
    (cross (m * up e) (down e) a (n * up f) (down f) c b d p.1 q.1))

pub mul_within : {x y : Float} {s t : Bool} {a b c d : ℕ} → Holds (a * c) (b * d) → AtMost x s a b → AtMost y t c d → AtMost (mul binary32 x y) (unlike s t) (a * c) (b * d)
mul_within {x} {y} {s} {t} {a} {b} {c} {d} K p q = mul_at x y s t a b c d (mul-pos p.over q.over) K p.size q.size

pub mul_bounded : {x y : Float} {a b c d : ℕ} → Holds (a * c) (b * d) → Bounded x a b → Bounded y c d → Bounded (mul binary32 x y) (a * c) (b * d)
mul_bounded K p q = (unlike p.0 q.0, mul_within K p.1 q.1)

-- ---- sums: x / p ≤ a / b and y / q ≤ c / d bound the sum, and each difference
sums : (x p a y q c b d : ℕ) → x * b ≤ a * p → y * d ≤ c * q → (x * q + y * p) * (b * d) ≤ (a * d + c * b) * (p * q)
sums x p a y q c b d h k =
    let l : x * q * (b * d) ≤ a * d * (p * q) = rw (mul-mul-mul_comm x q b d, left a d p q) (mul-le-mul_right (q * d) h) in
    let r : y * p * (b * d) ≤ c * b * (p * q) = rw (right y p b d, right c b p q, mul_comm b p) (mul-le-mul_right (p * b) k) in
    rw (add-mul (x * q) (y * p) (b * d), add-mul (a * d) (c * b) (p * q)) (omega arith)
  where
    left : (a d p q : ℕ) → a * d * (p * q) ≡ a * p * (q * d)
    left a d p q = simp (mul_assoc, mul_comm, mul_left_comm)

    right : (y p b d : ℕ) → y * p * (b * d) ≡ y * d * (p * b)
    right y p b d = simp (mul_assoc, mul_comm, mul_left_comm)

less : (a b x c k l : ℕ) → x ≤ a + b → (a + b) * l ≤ k * c → x * l ≤ k * c
less a b x c k l g h = le_trans (mul-le-mul_right l g) h

-- a sum of unlike signs is a difference
pub apart_bounded : (s : Bool) (a b c k l : ℕ) → 0 < c → 0 < l → Holds k l → (a - b) * l ≤ k * c → (b - a) * l ≤ k * c → Bounded (sum binary32 s a (not s) b c) k l
unfolding sum
apart_bounded s a b c k l C L K h g = go s (ltb a b) (ltb b a)
  where
    go : (s p q : Bool) → Bounded (cond (beq s (not s)) (round binary32 s (a + b) c) (cond p (round binary32 (not s) (b - a) c) (round binary32 (s && q) (a - b) c))) k l
    go true true q = (false, round_within false (b - a) c k l C L K g)
    go true false q = (q, round_within q (a - b) c k l C L K h)
    go false true q = (true, round_within true (b - a) c k l C L K g)
    go false false q = (false, round_within false (a - b) c k l C L K h)

sum_bounded : (s t : Bool) (a b c k l : ℕ) → 0 < c → 0 < l → Holds k l → (a + b) * l ≤ k * c → Bounded (sum binary32 s a t b c) k l
unfolding sum
sum_bounded true true a b c k l C L K h = (true, round_within true (a + b) c k l C L K h)
sum_bounded false false a b c k l C L K h = (false, round_within false (a + b) c k l C L K h)
sum_bounded true false a b c k l C L K h = apart_bounded true a b c k l C L K (less a b (a - b) c k l (omega arith) h) (less a b (b - a) c k l (omega arith) h)
sum_bounded false true a b c k l C L K h = apart_bounded false a b c k l C L K (less a b (a - b) c k l (omega arith) h) (less a b (b - a) c k l (omega arith) h)

add_at : (x y : Float) (s t : Bool) (a b c d : ℕ) → 0 < b * d → Holds (a * d + c * b) (b * d) → Size x s a b → Size y t c d → Bounded (add binary32 x y) (a * d + c * b) (b * d)
unfolding add
add_at nan y s t a b c d B K p q = absurd p
add_at (inf s') y s t a b c d B K p q = absurd p
add_at (fin s' m e) nan s t a b c d B K p q = absurd q
add_at (fin s' m e) (inf t') s t a b c d B K p q = absurd q
add_at (fin s' m e) (fin t' n f) s t a b c d B K p q =
    sum_bounded s' t' (m * up e * down f) (n * up f * down e) (down e * down f) (a * d + c * b) (b * d) (mul-pos (down_pos e) (down_pos f)) B K
    (sums (m * up e) (down e) a (n * up f) (down f) c b d p.1 q.1)

pub add_bounded : {x y : Float} {a b c d : ℕ} → Holds (a * d + c * b) (b * d) → Bounded x a b → Bounded y c d → Bounded (add binary32 x y) (a * d + c * b) (b * d)
add_bounded {x} {y} {a} {b} {c} {d} K p q = add_at x y p.0 q.0 a b c d (mul-pos p.1.over q.1.over) K p.1.size q.1.size

pub sub_bounded : {x y : Float} {a b c d : ℕ} → Holds (a * d + c * b) (b * d) → Bounded x a b → Bounded y c d → Bounded (sub binary32 x y) (a * d + c * b) (b * d)
unfolding sub
sub_bounded K p q = add_bounded K p (not q.0, neg_within q.1)

-- ---- the sum of two values that are not negative, a value's difference from one that it does not exceed, and the quotient of a smaller by a larger one
add_plus_at : (x y : Float) (a b c d : ℕ) → 0 < b * d → Holds (a * d + c * b) (b * d) → Size x false a b → Size y false c d → AtMost (add binary32 x y) false (a * d + c * b) (b * d)
unfolding add sum
add_plus_at nan y a b c d B K p q = absurd p
add_plus_at (inf s) y a b c d B K p q = absurd p
add_plus_at (fin s m e) nan a b c d B K p q = absurd q
add_plus_at (fin s m e) (inf t) a b c d B K p q = absurd q
add_plus_at (fin s m e) (fin t n f) a b c d B K p q =
    rw (p.0, q.0)
    (round_within false (m * up e * down f + n * up f * down e) (down e * down f) (a * d + c * b) (b * d) (mul-pos (down_pos e) (down_pos f)) B K
    (sums (m * up e) (down e) a (n * up f) (down f) c b d p.1 q.1))

pub add_within : {x y : Float} {a b c d : ℕ} → Holds (a * d + c * b) (b * d) → AtMost x false a b → AtMost y false c d → AtMost (add binary32 x y) false (a * d + c * b) (b * d)
add_within {x} {y} {a} {b} {c} {d} K p q = add_plus_at x y a b c d (mul-pos p.over q.over) K p.size q.size

pub difference : (a b c : ℕ) → b ≤ a → sum binary32 false a true b c ≡ round binary32 false (a - b) c
unfolding sum
difference a b c h = rw (le-ltb a b h)

sub_at : (x y : Float) (a b : ℕ) → 0 < b → Holds a b → HasValue x false a b → Size y false a b → AtMost (sub binary32 x y) false a b
unfolding sub add neg
sub_at nan y a b B K p q = absurd p
sub_at (inf s) y a b B K p q = absurd p
sub_at (fin s m e) nan a b B K p q = absurd q
sub_at (fin s m e) (inf t) a b B K p q = absurd q
sub_at (fin s m e) (fin t n f) a b B K p q =
    let A = m * up e * down f in
    let C = n * up f * down e in
    let low : C ≤ A = through (n * up f) a (m * up e) (down f) b (down e) B q.1 (le_of_eq (sym p.1)) in
    let high : A * b ≡ a * (down e * down f) = mul_right_comm (m * up e) (down f) b ∙ ap (λ (z : ℕ). z * down f) p.1 ∙ mul_assoc a (down e) (down f) in
    rw (p.0, q.0, difference A C (down e * down f) low)
    (round_within false (A - C) (down e * down f) a b (mul-pos (down_pos e) (down_pos f)) B K (le_trans (mul-le-mul_right b (sub-le A C)) (le_of_eq high)))

pub sub_within : (x : Float) {y : Float} {a b : ℕ} → Holds a b → HasValue x false a b → AtMost y false a b → AtMost (sub binary32 x y) false a b
sub_within x {y} {a} {b} K v q = sub_at x y a b q.over K v q.size

pub div_within : (m : ℕ) (e : ℤ) (n : ℕ) (f : ℤ) → 0 < n * up f → m * up e * down f ≤ n * up f * down e → Holds 1 1 → AtMost (div binary32 (fin false m e) (fin false n f)) false 1 1
unfolding div
div_within m e n f N h K =
    let some : eqb n 0 ≡ false = ne_eqb n 0 (λ z. none (n * up f) (rw (z, zero-mul)) N) in
    rw some
    (round_within false (m * up e * down f) (n * up f * down e) 1 1 (mul-pos N (down_pos e)) (zero-lt-suc 0) K (rw (mul-one, one-mul) h))
  where
    none : (a : ℕ) → a ≡ 0 → 0 < a → ⊥
    none a e h = omega arith
