-- A block of samples as rows of parts, written one by one. Assumes nothing.
use mathlib.Core.Path.{◌≡◌, refl, sym, ap, ◌∙◌}
use mathlib.Core.Bool.{Bool, true, false, ◌||◌}
use mathlib.Core.List.{List, [], ◌∷◌, ◌++◌}
use Prim.Native.Nat.{ℕ, zero, suc, ◌+◌, ◌*◌, ◌/◌, ◌<◌}
use native.Mathlib.Omega.{arith}
use native.Mathlib.Numerals.{add-one}
use lib.ListN.{length, take, drop, set, get_or}
use lib.Seq.{append_snoc}
use lib.Ieee.{Float, nan}
use Rattle.std.proofs.lemmas.List.{get_or-take, get_or-drop}
use Rattle.dsp_types.specs.declared.ComplexSample.{ComplexSample}
use Rattle.dsp_types.specs.Refusals.{beyond}
use Rattle.fir.proofs.Blocks.{length_samples}
use Rattle.fir.specs.Fir.{samples_of}
use Rattle.receiver.specs.Feed.{interleaved}
use Rattle.receiver.specs.Keep.{any_beyond}
use Rattle.receiver.proofs.Feeding.{part, next_sample}

-- ---- one more element

samples_snoc : (n : ℕ) (re im : List Float) (x y : Float) → n < length re → n < length im
    → samples_of (take (suc n) (set re n x)) (take (suc n) (set im n y)) ≡ samples_of (take n re) (take n im) ++ (record { re = x; im = y } ∷ [])
unfolding samples_of
samples_snoc n [] im x y h k = absurd (omega arith)
samples_snoc n (a ∷ re) [] x y h k = absurd (omega arith)
samples_snoc zero (a ∷ re) (b ∷ im) x y h k = refl
samples_snoc (suc n) (a ∷ re) (b ∷ im) x y h k =
    ap (λ (t : List ComplexSample). record { re = a; im = b } ∷ t) (samples_snoc n re im x y (omega arith) (omega arith))

fine_snoc : (xs : List ComplexSample) (x : ComplexSample) → any_beyond xs ≡ false → (beyond x.re || beyond x.im) ≡ false → any_beyond (xs ++ (x ∷ [])) ≡ false
unfolding any_beyond
fine_snoc [] x e f = rw f
fine_snoc (y ∷ xs) x e f = go (beyond y.re || beyond y.im) e (λ d. fine_snoc xs x d f)
  where
    go : (b : Bool) → (b || any_beyond xs) ≡ false → (any_beyond xs ≡ false → any_beyond (xs ++ (x ∷ [])) ≡ false) → (b || any_beyond (xs ++ (x ∷ []))) ≡ false
    go true d g = absurd (let z : ◌≡◌ {A = ℕ} 0 1 = cc in omega arith)
    go false d g = g d

-- a turn of the loop that writes parts
pub record Split (parts re im : List Float) (at n : ℕ) : Type 0 where
  pub fine : any_beyond (samples_of (take n re) (take n im)) ≡ false
  pub same : interleaved (drop (2 * at) parts) ≡ samples_of (take n re) (take n im) ++ interleaved (drop (2 * (at + n)) parts)

pub split_none : (parts re im : List Float) (at : ℕ) → Split parts re im at 0
unfolding samples_of any_beyond
split_none parts re im at = let z : at + 0 ≡ at = omega arith in record { fine = refl; same = rw z }

pub split_one : (parts re im : List Float) (at n : ℕ) → n < length re → n < length im → at + n < length parts / 2
    → (beyond (get_or parts (2 * (at + n)) nan) || beyond (get_or parts (2 * (at + n) + 1) nan)) ≡ false → Split parts re im at n
    → Split parts (set re n (get_or parts (2 * (at + n)) nan)) (set im n (get_or parts (2 * (at + n) + 1) nan)) at (n + 1)
split_one parts re im at n h k l f s =
    let x = get_or parts (2 * (at + n)) nan in
    let y = get_or parts (2 * (at + n) + 1) nan in
    let xs = samples_of (take n re) (take n im) in
    let z : at + suc n ≡ at + n + 1 = omega arith in
    let e = samples_snoc n re im x y h k in
    record {
      fine = rw (add-one n, e) (fine_snoc xs (part parts (at + n)) s.fine f);
      same =
          s.same
          ∙ ap (λ (t : List ComplexSample). xs ++ t) (next_sample parts (at + n) l)
          ∙ sym (append_snoc xs (part parts (at + n)) (interleaved (drop (2 * (at + n + 1)) parts)))
          ∙ rw (add-one n, z, e);
    }

-- the i-th part of a pair
pub pair_part : (parts : List Float) (at n i : ℕ) → i < 2 → get_or (take 2 (drop (2 * n) (drop (2 * at) parts))) i nan ≡ get_or parts (2 * (at + n) + i) nan
pair_part parts at n i h =
    let e : 2 * at + (2 * n + i) ≡ 2 * (at + n) + i = omega arith in
    get_or-take 2 (drop (2 * n) (drop (2 * at) parts)) i nan h
    ∙ get_or-drop (2 * n) (drop (2 * at) parts) i nan
    ∙ get_or-drop (2 * at) parts (2 * n + i) nan
    ∙ ap (λ (k : ℕ). get_or parts k nan) e

-- ---- their count

pub samples_count : (n : ℕ) (re im : List Float) → length re ≡ n → length im ≡ n → length (samples_of re im) ≡ n
samples_count n re im u v = omega (arith, length_samples re im)
