-- Laws of a ring: where the element d steps ago is kept, and that a store at the next place makes a newest element. Stated once, over the length and
-- the element type. Assumes nothing.
use mathlib.Core.Path.{◌≡◌, refl, sym, ap, ◌∙◌}
use mathlib.Core.Logic.{◌⊎◌, inl, inr, ⊎_elim, ◌≢◌}
use Prim.Native.Nat.{ℕ, zero, suc, ◌+◌, ◌-◌, ◌%◌, ◌<◌, ◌≤◌, zero-le, suc-le-suc}
use native.Mathlib.Nat.{mod-eq_of_lt, add-mod_right, mod_self, mod-lt}
use native.Mathlib.Omega.{arith}
use mathlib.Core.List.{List, ◌∷◌}
use lib.ListN.{length, get_or, set, take, replicate, get_or-replicate}
use lib.Seq.{get_or-set_same, get_or-set_other}
use lib.Ieee.{nan}
use Rattle.dsp_types.specs.Samples.{zero_f, silence}
use Rattle.dsp_types.specs.Ring.{place_of, ring_at, ring_sample, newest}

-- ---- what the laws speak of

-- the place after `at`
unfoldable pub next : ℕ → ℕ → ℕ
next n at = (at + 1) % n

-- two records agree on their newest n elements
abbrev pub Agree : {A : Type 0} → ℕ → (ℕ → A) → (ℕ → A) → Type 0
Agree n f g = (d : ℕ) → d < n → f d ≡ g d

-- the record f, one call later: x is the newest now
abbrev pub one_later : {A : Type 0} → A → (ℕ → A) → ℕ → A
one_later x f zero = x
one_later x f (suc j) = f j

pub le_or_lt : (a b : ℕ) → (a ≤ b) ⊎ (b < a)
le_or_lt zero b = inl zero-le
le_or_lt (suc a) zero = inr (suc-le-suc zero-le)
le_or_lt (suc a) (suc b) = ⊎_elim (λ p. inl (suc-le-suc p)) (λ q. inr (suc-le-suc q)) (le_or_lt a b)

-- ---- the two places as plain sums

place_low : (n at d : ℕ) → at < n → d ≤ at → place_of n at d ≡ at - d
unfolding place_of
place_low n at d h l =
    let e : at + n - d ≡ at - d + n = omega arith in
    rw e (add-mod_right (at - d) n ∙ mod-eq_of_lt (omega arith))

place_high : (n at d : ℕ) → d < n → at < d → place_of n at d ≡ at + n - d
unfolding place_of
place_high n at d h l = mod-eq_of_lt (omega arith)

next_low : (n at : ℕ) → at + 1 < n → next n at ≡ at + 1
unfolding next
next_low n at h = mod-eq_of_lt h

next_high : (n at : ℕ) → at < n → n ≤ at + 1 → next n at ≡ 0
unfolding next
next_high n at h l =
    let e : at + 1 ≡ n = omega arith in
    rw e (mod_self n)

pub next_lt : (n at : ℕ) → at < n → next n at < n
unfolding next
next_lt n at h = mod-lt (at + 1) (omega arith)

pub place_lt : (n at d : ℕ) → at < n → place_of n at d < n
unfolding place_of
place_lt n at d h = mod-lt (at + n - d) (omega arith)

-- ---- the newest stands at `at`; what was d steps ago is d + 1 steps ago after a store, and the store does not touch it

pub place_newest : (n at : ℕ) → at < n → place_of n at 0 ≡ at
place_newest n at h = rw (place_low n at 0 h zero-le) (omega arith)

place_older : (n at d : ℕ) → at < n → suc d < n → place_of n (next n at) (suc d) ≡ place_of n at d
place_older n at d h k =
    ⊎_elim
    (λ (p : suc (at + 1) ≤ n). rw (next_low n at p) (⊎_elim
    (λ (q : d ≤ at). rw (place_low n (at + 1) (suc d) p (omega arith), place_low n at d h q) (omega arith))
    (λ (q : at < d). rw (place_high n (at + 1) (suc d) k (omega arith), place_high n at d (omega arith) q) (omega arith))
    (le_or_lt d at)))
    (λ (p : n < suc (at + 1)). rw (next_high n at h (omega arith), place_high n 0 (suc d) k (omega arith), place_low n at d h (omega arith)) (omega arith))
    (le_or_lt (suc (at + 1)) n)

place_apart : (n at d : ℕ) → at < n → suc d < n → place_of n at d ≢ next n at
place_apart n at d h k e =
    ⊎_elim
    (λ (p : suc (at + 1) ≤ n). ⊎_elim
    (λ (q : d ≤ at). omega (arith, e, place_low n at d h q, next_low n at p))
    (λ (q : at < d). omega (arith, e, place_high n at d (omega arith) q, next_low n at p))
    (le_or_lt d at))
    (λ (p : n < suc (at + 1)). omega (arith, e, next_high n at h (omega arith), place_low n at d h (omega arith)))
    (le_or_lt (suc (at + 1)) n)

-- The law of a store: x is the newest now, and what was d steps ago is d + 1 steps ago.
pub ring_later : {A : Type 0} (z : A) (n : ℕ) (buf : List A) (at : ℕ) (x : A) → length buf ≡ n → at < n
    → (d : ℕ) → d < n → ring_at z n (set buf (next n at) x) (next n at) d ≡ one_later x (ring_at z n buf at) d
unfolding ring_at
ring_later z n buf at x w h zero k =
    rw (place_newest n (next n at) (next_lt n at h)) (get_or-set_same buf (next n at) x z (omega (arith, next_lt n at h)))
ring_later z n buf at x w h (suc d) k =
    rw (place_older n at d h k) (get_or-set_other buf (next n at) (place_of n at d) x z (place_apart n at d h k))

-- ---- rings of zeros

pub ring_zeros : (n : ℕ) → 0 < n → (d : ℕ) → ring_at nan n (replicate n zero_f) 0 d ≡ zero_f
unfolding ring_at
ring_zeros n h d = get_or-replicate n (place_of n 0 d) zero_f nan (place_lt n 0 d h)

pub sample_zeros : (n : ℕ) → 0 < n → (d : ℕ) → ring_sample n (replicate n zero_f) (replicate n zero_f) 0 d ≡ silence
unfolding ring_sample
sample_zeros n h d = λ i. record { re = ring_zeros n h d i; im = ring_zeros n h d i }

-- ---- the same as one equation between lists, for a contract that is to be an equation

pub newest_cong : {A : Type 0} (n : ℕ) {f g : ℕ → A} → Agree n f g → newest n f ≡ newest n g
unfolding newest
newest_cong zero a = refl
newest_cong (suc n) {f} {g} a = λ i. a zero (omega arith) i ∷ newest_cong n {f = λ d. f (suc d)} {g = λ d. g (suc d)} (λ d k. a (suc d) (omega arith)) i

take_newest : {A : Type 0} (n : ℕ) (f : ℕ → A) → take n (newest (suc n) f) ≡ newest n f
unfolding newest
take_newest zero f = refl
take_newest (suc n) f = ap (λ l. f zero ∷ l) (take_newest n (λ d. f (suc d)))

-- what a store does, as an equation: newest n (after) ≡ take n (x ∷ newest n (before))
pub newest_later : {A : Type 0} (n : ℕ) (x : A) {f g : ℕ → A} → Agree n g (one_later x f) → newest n g ≡ take n (x ∷ newest n f)
unfolding newest
newest_later zero x a = refl
newest_later (suc n) x {f} {g} a = newest_cong (suc n) a ∙ ap (λ l. x ∷ l) (sym (take_newest n f))

-- a record of one element is a list of it
pub newest_same : {A : Type 0} (n : ℕ) (z : A) {f : ℕ → A} → Agree n f (λ j. z) → newest n f ≡ replicate n z
unfolding newest
newest_same zero z a = refl
newest_same (suc n) z {f} a = λ i. a zero (omega arith) i ∷ newest_same n z {f = λ d. f (suc d)} (λ d k. a (suc d) (omega arith)) i

-- an element of the list is that of the record
pub newest_at : {A : Type 0} (n : ℕ) (f : ℕ → A) (z : A) (d : ℕ) → d < n → get_or (newest n f) d z ≡ f d
unfolding newest
newest_at zero f z d k = absurd (omega arith)
newest_at (suc n) f z zero k = refl
newest_at (suc n) f z (suc d) k = newest_at n (λ j. f (suc j)) z d (omega arith)
