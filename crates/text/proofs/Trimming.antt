-- One closing byte c, of bytes of any number. Assumes nothing.
use Rattle.std.proofs.Common.{◌≡◌, refl, sym, ap, ◌∙◌, Option, None, Some, Bor, Bool, true, false, ◌&&◌, cond, ℕ, suc, ◌+◌, ◌-◌, ◌≤◌, List, [], ◌∷◌, ◌++◌, length, take, drop, arith}
use mathlib.Core.Bool.{true≢false}
use lib.Dec.{eqb}
use lib.Pointwise.{pointwise}
use native.Mathlib.Numerals.{unary_clauses}
use Rattle.std.specs.Option.{MatchOption, unwrap_or}
use Rattle.text.specs.Text.{trimmed}

module _ (c : ℕ) where
  pub trimmed_append : (xs : List ℕ) (d : ℕ) (t : List ℕ) → trimmed c (xs ++ (d ∷ t)) ≡ xs ++ trimmed c (d ∷ t)
  unfolding trimmed
  trimmed_append [] d t = refl
  trimmed_append (x ∷ []) d t = refl
  trimmed_append (x ∷ y ∷ xs) d t = ap (λ (r : List ℕ). x ∷ r) (trimmed_append (y ∷ xs) d t)

  pub trimmed_length : (xs : List ℕ) → length xs ≤ suc (length (trimmed c xs))
  unfolding trimmed
  trimmed_length [] = omega arith
  trimmed_length (x ∷ []) = omega arith
  trimmed_length (x ∷ y ∷ xs) = omega (arith, trimmed_length (y ∷ xs))

  -- whether c is the last byte, as `strip_suffix` tests it
  abbrev pub ends : List ℕ → Bool
  ends l = pointwise eqb (drop (length l - 1) l) (c ∷ [])

  last_one : (x : ℕ) (b : Bool) → (b && true) ≡ true → [] ≡ cond b [] (x ∷ [])
  last_one x true h = refl
  last_one x false h = absurd (true≢false (sym h))

  last_other : (x : ℕ) (b : Bool) → (b && true) ≡ false → (x ∷ []) ≡ cond b [] (x ∷ [])
  last_other x true h = absurd (true≢false h)
  last_other x false h = refl

  trim_one : (l : List ℕ) → ends l ≡ true → take (length l - 1) l ≡ trimmed c l
  unfolding trimmed
  trim_one [] h = refl
  trim_one (x ∷ []) h = last_one x (eqb x c) h
  trim_one (x ∷ y ∷ xs) h = simp unary_clauses (ap (λ (r : List ℕ). x ∷ r) (simp unary_clauses at (trim_one (y ∷ xs) (simp unary_clauses (simp unary_clauses at h)))))

  trim_none : (l : List ℕ) → ends l ≡ false → l ≡ trimmed c l
  unfolding trimmed
  trim_none [] h = refl
  trim_none (x ∷ []) h = last_other x (eqb x c) h
  trim_none (x ∷ y ∷ xs) h = ap (λ (r : List ℕ). x ∷ r) (trim_none (y ∷ xs) (simp unary_clauses (simp unary_clauses at h)))

  pub strip_is : (l : Bor (List ℕ)) (r : Option (Bor (List ℕ))) → MatchOption r (ends l.now ≡ false) (λ x. (ends l.now ≡ true) × (x.now ≡ take (length l.now - 1) l.now) × (length x.now + 1 ≡ length l.now)) → (unwrap_or r l).now ≡ trimmed c l.now
  strip_is l None h = trim_none l.now h
  strip_is l (Some x) h = h.1 ∙ trim_one l.now h.0
