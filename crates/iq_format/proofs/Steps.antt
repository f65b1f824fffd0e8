-- What is below a step of the table is below its level, and the largest part decides for all. Assumes nothing.
use mathlib.Core.Path.{◌≡◌, refl, sym, ap, subst, ◌∙◌}
use mathlib.Core.Bool.{Bool, true, false, not, ◌&&◌, cond}
use mathlib.Core.List.{List, [], ◌∷◌, ◌++◌}
use Prim.Native.Nat.{ℕ, suc, ◌+◌, ◌-◌, ◌*◌, ◌^◌, ◌<◌, ◌≤◌, max}
use native.Mathlib.Omega.{arith}
use native.Mathlib.Nat.{lt_of_le_of_lt, mul-le-mul_right, pow-le-pow_left}
use native.Mathlib.Numerals.{add-one}
use lib.Dec.{T, ltb, ltb→lt, lt→ltb}
use lib.ListN.{get_or, length, take}
use Rattle.std.specs.List.{filter}
use lib.Seq.{take-suc}
use lib.Ieee.{Float, nan, inf, fin, binary32, is_nan, fits, to_bits}
use lib.Ieee.Bits.{is_true, is_false}
use lib.Ieee.Fits.{and_l, and_r}
use borrow.Author.Tests.{lt-ltb, le-ltb, ltb-true, ltb-false}
use Rattle.magnitude.specs.Pattern.{size_of, pattern_units}
use Rattle.magnitude.proofs.Values.{pattern_mono}
use Rattle.magnitude.proofs.Parts.{units_size, size_lt}
use Rattle.iq_format.specs.Level.{less_than_db, quieter, all_quieter, steps_above, loudness, peak_of}

-- whether p is the first of these patterns that is not below −k dBFS
unfoldable pub is_step : ℕ → ℕ → Bool
is_step k p = (ltb 0 p && ltb p 0x7f80_0000) && (less_than_db k (pattern_units (p - 1)) && not (less_than_db k (pattern_units p)))

-- ---- the table: one test, computed over all of it

abbrev pub every : (ℕ → ℕ → Bool) → ℕ → List ℕ → Bool
every test i [] = true
every test i (p ∷ ps) = test i p && every test (suc i) ps

-- ---- a part and a step

less_down : (k u v : ℕ) → u ≤ v → T (less_than_db k v) → T (less_than_db k u)
unfolding less_than_db
less_down k u v h t =
    lt→ltb (u ^ 20 * 10 ^ k) (2 ^ (149 * 20))
    (lt_of_le_of_lt (mul-le-mul_right (10 ^ k) (pow-le-pow_left h 20)) (ltb→lt (v ^ 20 * 10 ^ k) (2 ^ (149 * 20)) t))

both_below : (a b p : ℕ) → (ltb a p && ltb b p) ≡ ltb (max a b) p
both_below a b p = go (ltb a p) refl (ltb b p) refl
  where
    go : (x : Bool) → ltb a p ≡ x → (y : Bool) → ltb b p ≡ y → (x && y) ≡ ltb (max a b) p
    go true e true f = sym (lt-ltb (max a b) p (omega (arith, ltb-true, e, f)))
    go true e false f = sym (le-ltb (max a b) p (omega (arith, ltb-false b p f)))
    go false e y f = sym (le-ltb (max a b) p (omega (arith, ltb-false a p e)))

module _ (k p : ℕ) (is : T (is_step k p)) where
  abbrev range : Bool
  range = ltb 0 p && ltb p 0x7f80_0000

  abbrev edge : Bool
  edge = less_than_db k (pattern_units (p - 1)) && not (less_than_db k (pattern_units p))

  in_range : T range
  unfolding is_step
  in_range = and_l range edge is

  at_edge : T edge
  unfolding is_step
  at_edge = and_r range edge is

  above : 0 < p
  above = ltb→lt 0 p (and_l (ltb 0 p) (ltb p 0x7f80_0000) in_range)

  finite : p < 0x7f80_0000
  finite = ltb→lt p 0x7f80_0000 (and_r (ltb 0 p) (ltb p 0x7f80_0000) in_range)

  before : T (less_than_db k (pattern_units (p - 1)))
  before = and_l (less_than_db k (pattern_units (p - 1))) (not (less_than_db k (pattern_units p))) at_edge

  reached : T (not (less_than_db k (pattern_units p)))
  reached = and_r (less_than_db k (pattern_units (p - 1))) (not (less_than_db k (pattern_units p))) at_edge

  pattern_law : (n : ℕ) → less_than_db k (pattern_units n) ≡ ltb n p
  pattern_law n = go (ltb n p) refl
    where
      over : p ≤ n → (b : Bool) → less_than_db k (pattern_units n) ≡ b → b ≡ false
      over h true e = absurd (subst T (is_false (less_than_db k (pattern_units p)) reached) (less_down k (pattern_units p) (pattern_units n) (pattern_mono p n h) (subst T (sym e) tt)))
      over h false e = refl

      go : (b : Bool) → ltb n p ≡ b → less_than_db k (pattern_units n) ≡ b
      go true e = let l = ltb-true n p e in is_true (less_than_db k (pattern_units n)) (less_down k (pattern_units n) (pattern_units (p - 1)) (pattern_mono n (p - 1) (omega arith)) before)
      go false e = over (ltb-false n p e) (less_than_db k (pattern_units n)) refl

  part_law : (x : Float) → T (fits binary32 x) → quieter k x ≡ ltb (loudness x) p
  unfolding quieter loudness is_nan size_of to_bits
  part_law nan f = sym (lt-ltb 0 p above)
  part_law (inf true) f = sym (le-ltb 0x7f80_0000 p (omega (arith, finite)))
  part_law (inf false) f = sym (le-ltb 0x7f80_0000 p (omega (arith, finite)))
  part_law (fin s m e) f = ap (less_than_db k) (units_size (fin s m e) f (size_lt (fin s m e) f refl)) ∙ pattern_law (size_of (fin s m e))

  pub parts_law : (parts : List Float) → ((i : ℕ) → i < length parts → T (fits binary32 (get_or parts i nan))) → all_quieter k parts ≡ ltb (peak_of parts) p
  unfolding all_quieter peak_of
  parts_law [] f = sym (lt-ltb 0 p above)
  parts_law (x ∷ parts) f = rw (part_law x (f 0 (omega arith)), parts_law parts (λ i h. f (suc i) (omega arith))) (both_below (loudness x) (peak_of parts) p)

-- ---- one turn of each loop

peak_append : (parts : List Float) (x : Float) → peak_of (parts ++ (x ∷ [])) ≡ max (peak_of parts) (loudness x)
unfolding peak_of
peak_append [] x = omega arith
peak_append (y ∷ parts) x = rw (peak_append parts x) (omega arith)

pub peak_none : peak_of [] ≡ 0
unfolding peak_of
peak_none = refl

pub peak_more : (n : ℕ) (parts : List Float) → n < length parts → peak_of (take (n + 1) parts) ≡ max (peak_of (take n parts)) (loudness (get_or parts n nan))
peak_more n parts h = rw (add-one n, take-suc parts n nan h, peak_append (take n parts) (get_or parts n nan))

-- ---- the steps that all parts are below

module _ (parts : List Float) (fine : (i : ℕ) → i < length parts → T (fits binary32 (get_or parts i nan))) where
  abbrev below_step : ℕ → Bool
  below_step p = ltb (peak_of parts) p

  turn : (k p : ℕ) (ps : List ℕ) → all_quieter k parts ≡ below_step p → steps_above (suc k) parts + length (filter below_step ps) ≡ steps_above (suc k + length ps) parts
      → steps_above k parts + length (filter below_step (p ∷ ps)) ≡ steps_above (k + suc (length ps)) parts
  unfolding steps_above
  turn k p ps q rest = go (below_step p) refl
    where
      go : (b : Bool) → below_step p ≡ b → steps_above k parts + length (cond b (p ∷ filter below_step ps) (filter below_step ps)) ≡ steps_above (k + suc (length ps)) parts
      go true e = let m : suc k + length ps ≡ k + suc (length ps) = omega arith in omega (arith, rw (m, q ∙ e) at rest)
      go false e = let m : suc k + length ps ≡ k + suc (length ps) = omega arith in omega (arith, rw (m, q ∙ e) at rest)

  -- of the first k, and of those in the table from the k-th on
  counted : (k : ℕ) (ps : List ℕ) → T (every is_step k ps) → steps_above k parts + length (filter below_step ps) ≡ steps_above (k + length ps) parts
  counted k [] t = let e : k + 0 ≡ k = omega arith in rw e (omega arith)
  counted k (p ∷ ps) t =
      turn k p ps (parts_law k p (and_l (is_step k p) (every is_step (suc k) ps) t) parts fine) (counted (suc k) ps (and_r (is_step k p) (every is_step (suc k) ps) t))

  pub steps_counted : (ps : List ℕ) → T (every is_step 0 ps) → length (filter below_step ps) ≡ steps_above (length ps) parts
  unfolding steps_above
  steps_counted ps t = let e : 0 + length ps ≡ length ps = omega arith in omega (arith, rw e at (counted 0 ps t))
