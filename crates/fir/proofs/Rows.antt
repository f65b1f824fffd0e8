-- Rows of one part, oldest first: a turn of each loop over them, and what a new sample does to a line. Assumes nothing.
use mathlib.Core.Path.{◌≡◌, refl, sym, ap, ◌∙◌}
use mathlib.Core.List.{List, [], ◌∷◌, ◌++◌, append_assoc, append-nil}
use mathlib.Core.Logic.{⊎_elim}
use Prim.Native.Nat.{ℕ, zero, suc, ◌+◌, ◌-◌, ◌*◌, ◌<◌, ◌≤◌}
use native.Mathlib.Omega.{arith}
use native.Mathlib.Numerals.{add-one, one-add}
use lib.ListN.{get_or, length, set, take, drop, replicate, get_or-replicate, length-set, length-drop, length-append, get_or-append, drop_of_length-le}
use lib.Seq.{drop-cons, drop-drop, take_all, get_or_at, get_or-drop, get_or-set_same, get_or-set_other, set_at, append_snoc, take-append-le, take-suc, length-take-le}
use lib.Ieee.{Float, binary32, add, mul, nan}
use Rattle.dsp_types.specs.declared.ComplexSample.{ComplexSample}
use Rattle.dsp_types.specs.Samples.{zero_f, silence, ago}
use Rattle.dsp_types.specs.Ring.{newest}
use Rattle.dsp_types.proofs.RingLaws.{Agree, one_later, le_or_lt, newest_later, newest_at}
use Rattle.fir.specs.Fir.{taps, term_of, lane_up_to, lane_of, fir_of, filter_of, in_row, row_outs}
use Rattle.fir.proofs.Laws.{filter_cong}

-- a part of a row up to its end
pub rest : (row : List Float) (n : ℕ) → take (length row - n) (drop n row) ≡ drop n row
rest row n = take_all (length row - n) (drop n row) (rw (length-drop n row) (omega arith))

-- ---- the sums of the four lanes

-- lanes below v have one tap more than t, the others t
pub record Lanes (row : List Float) (t v : ℕ) (sum : List Float) : Type 0 where
  pub four : length sum ≡ 4
  pub more : (w : ℕ) → w < v → get_or sum w nan ≡ lane_up_to (in_row row) w (suc t)
  pub same : (w : ℕ) → v ≤ w → w < 4 → get_or sum w nan ≡ lane_up_to (in_row row) w t

pub lanes_start : (row : List Float) → Lanes row 0 0 (replicate 4 zero_f)
unfolding lane_up_to
lanes_start row = record { four = refl; more = λ w k. absurd (omega arith); same = λ w k l. get_or-replicate 4 w zero_f nan l }

-- what tap v + 4t adds
term_row : (row : List Float) (k : ℕ) → k < 16
    → mul binary32 (add binary32 (get_or row (16 + k) nan) (get_or row (15 - k) nan)) (get_or taps k nan) ≡ term_of (in_row row) k
unfolding term_of in_row
term_row row k h =
    let newer-place : 31 - (15 - k) ≡ 16 + k = omega arith in
    let older-place : 31 - (16 + k) ≡ 15 - k = omega arith in
    rw (newer-place, older-place)

module _ (row : List Float) (t v : ℕ) (sum : List Float) (h : t < 4) (k : v < 4) (a : Lanes row t v sum) where
  added : Float
  added = add binary32 (get_or sum v nan) (mul binary32 (add binary32 (get_or row (16 + (v + 4 * t)) nan) (get_or row (15 - (v + 4 * t)) nan)) (get_or taps (v + 4 * t) nan))

  lane_more : added ≡ lane_up_to (in_row row) v (suc t)
  unfolding added lane_up_to
  lane_more = rw (term_row row (v + 4 * t) (omega arith), a.same v (omega arith) k)

  -- a turn of the inner loop
  pub lanes_step : Lanes row t (v + 1) (set sum v (add binary32 (get_or sum v nan) (mul binary32 (add binary32 (get_or row (16 + (v + 4 * t)) nan) (get_or row (15 - (v + 4 * t)) nan)) (get_or taps (v + 4 * t) nan))))
  unfolding added
  lanes_step =
      record {
        four = length-set sum v added ∙ a.four;
        more = λ w l. ⊎_elim
            (λ (p : v ≤ w). let e : w ≡ v = omega arith in rw e (get_or-set_same sum v added nan (omega (arith, a.four)) ∙ lane_more))
            (λ (p : w < v). get_or-set_other sum v w added nan (λ e. omega arith) ∙ a.more w p)
            (le_or_lt v w);
        same = λ w l m. get_or-set_other sum v w added nan (λ e. omega arith) ∙ a.same w (omega arith) m;
      }

pub lanes_end : (row : List Float) (t v : ℕ) (sum : List Float) → t ≡ 4 → v ≡ 0 → Lanes row t v sum
    → add binary32 (add binary32 (add binary32 (get_or sum 0 nan) (get_or sum 1 nan)) (get_or sum 2 nan)) (get_or sum 3 nan) ≡ fir_of (in_row row)
unfolding fir_of lane_of
lanes_end row t v sum e z a =
    rw (
      a.same 0 (omega arith) (omega arith),
      a.same 1 (omega arith) (omega arith),
      a.same 2 (omega arith) (omega arith),
      a.same 3 (omega arith) (omega arith),
      e,
    )

-- ---- a block

pub length_row : (n : ℕ) (row : List Float) → length (row_outs n row) ≡ n
unfolding row_outs
length_row zero row = refl
length_row (suc n) row = ap suc (length_row n (drop 1 row))

-- one more output
outs_suc : (n : ℕ) (row : List Float) → row_outs (suc n) row ≡ row_outs n row ++ (fir_of (in_row (drop n row)) ∷ [])
unfolding row_outs
outs_suc zero row = refl
outs_suc (suc n) row = ap (λ (l : List Float). fir_of (in_row row) ∷ l) (outs_suc n (drop 1 row) ∙ rw (drop-drop n 1 row, one-add n))

-- a turn of the loop over a block's outputs
pub block_step : (row out : List Float) (n : ℕ) (x : Float) → n < length out → x ≡ fir_of (in_row (drop n row))
    → set (row_outs n row ++ drop n out) n x ≡ row_outs (n + 1) row ++ drop (n + 1) out
block_step row out n x h e =
    rw (add-one n, drop-cons out n nan h, outs_suc n row, ← e)
    (set_at (row_outs n row) (get_or out n nan) (drop (suc n) out) x n (length_row n row) ∙ sym (append_snoc (row_outs n row) x (drop (suc n) out)))

-- ---- a sample

-- a row of 32 without its oldest element and with x behind it
pub row_later : (row : List Float) (x : Float) → length row ≡ 32 → Agree 32 (in_row (drop 1 row ++ (x ∷ []))) (one_later x (in_row row))
unfolding in_row
row_later row x h zero k = get_or_at (drop 1 row) x [] nan 31 (length-drop 1 row ∙ omega arith)
row_later row x h (suc d) k =
    let e : 1 + (31 - suc d) ≡ 31 - d = omega arith in
    get_or-append (drop 1 row) (x ∷ []) nan (31 - suc d) (rw (length-drop 1 row) (omega arith)) ∙ get_or-drop 1 row (31 - suc d) nan ∙ rw e

-- ---- a row without its element j

abbrev pub without : List Float → ℕ → List Float
without row j = take j row ++ drop (suc j) row

-- with a place for the newest behind it, it is without that
pub newest_out : (line : List Float) (x : Float) → length line ≡ 32 → line ≡ without (line ++ (x ∷ [])) 32
newest_out line x h =
    sym (
    rw (
      take-append-le 32 line (x ∷ []) (omega arith),
      take_all 32 line (omega arith),
      drop_of_length-le (line ++ (x ∷ [])) {i = 33} (omega (arith, length-append line (x ∷ []))),
    ) (append-nil line))

pub newest_is : (line : List Float) (x : Float) → length line ≡ 32 → x ≡ get_or (line ++ (x ∷ [])) 32 nan
newest_is line x h = sym (get_or_at line x [] nan 32 h)

-- the element before it gives its place to it
module _ (row : List Float) (j : ℕ) (h : suc j < length row) where
  parted : without row (suc j) ≡ take j row ++ (get_or row j nan ∷ drop (suc (suc j)) row)
  parted = rw (take-suc row j nan (omega arith)) (append_assoc (take j row) (get_or row j nan ∷ []) (drop (suc (suc j)) row))

  pub one_down : set (without row (suc j)) j (get_or row (suc j) nan) ≡ without row j
  one_down =
      rw parted
      (set_at (take j row) (get_or row j nan) (drop (suc (suc j)) row) (get_or row (suc j) nan) j (length-take-le j row (omega arith))
      ∙ ap (λ (l : List Float). take j row ++ l) (sym (drop-cons row (suc j) nan h)))

  pub given_on : get_or (without row (suc j)) j nan ≡ get_or row j nan
  given_on = rw parted (get_or_at (take j row) (get_or row j nan) (drop (suc (suc j)) row) nan j (length-take-le j row (omega arith)))

-- the samples of two rows
abbrev pub in_rows : List Float → List Float → ℕ → ComplexSample
in_rows re im j = record { re = in_row re j; im = in_row im j }

module _ (re im : List Float) (x : ComplexSample) (v : length re ≡ 32) (w : length im ≡ 32) where
  pub rows_later : Agree 32 (in_rows (drop 1 re ++ (x.re ∷ [])) (drop 1 im ++ (x.im ∷ []))) (one_later x (in_rows re im))
  rows_later zero k = λ i. record { re = row_later re x.re v zero k i; im = row_later im x.im w zero k i }
  rows_later (suc j) k = λ i. record { re = row_later re x.re v (suc j) k i; im = row_later im x.im w (suc j) k i }

  -- the line so kept, as a list
  pub rows_line : newest 32 (in_rows (drop 1 re ++ (x.re ∷ [])) (drop 1 im ++ (x.im ∷ []))) ≡ take 32 (x ∷ newest 32 (in_rows re im))
  rows_line = newest_later 32 x rows_later

  -- the filter over it is the filter over the list
  pub rows_out : filter_of (in_rows (drop 1 re ++ (x.re ∷ [])) (drop 1 im ++ (x.im ∷ []))) ≡ filter_of (ago silence (x ∷ newest 32 (in_rows re im)))
  rows_out = filter_cong (λ d k. rows_later d k ∙ each d k)
    where
      each : (d : ℕ) → d < 32 → one_later x (in_rows re im) d ≡ ago silence (x ∷ newest 32 (in_rows re im)) d
      each zero k = refl
      each (suc d) k = sym (newest_at 32 (in_rows re im) silence d (omega arith))
