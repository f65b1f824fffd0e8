-- Blocks: what is read of the row that is made of the line and the block, and that rows of both parts are the samples one by one. Assumes nothing.
use mathlib.Core.Path.{◌≡◌, refl, sym, ap, ◌∙◌}
use mathlib.Core.List.{List, [], ◌∷◌, ◌++◌, append_assoc, append-nil}
use borrow.Rule.Slice.PartMut.{put_mid, post_of}
use mathlib.Core.Logic.{⊎_elim}
use Prim.Native.Nat.{ℕ, zero, suc, ◌+◌, ◌-◌, ◌<◌, ◌≤◌, min}
use native.Mathlib.Nat.{zero-min, min-zero, suc-min-suc}
use native.Mathlib.Omega.{arith}
use native.Mathlib.Numerals.{one-add}
use lib.ListN.{length, take, drop, length-append, length-drop, get_or-append}
use lib.Seq.{drop-append-le, drop-drop, take_at, take_all, take-length, length-take-le, append_snoc}
use lib.Ieee.{Float, nan}
use Rattle.dsp_types.specs.declared.ComplexSample.{ComplexSample}
use Rattle.dsp_types.specs.Samples.{silence, ago}
use Rattle.dsp_types.specs.Ring.{newest}
use Rattle.dsp_types.proofs.RingLaws.{le_or_lt}
use Rattle.fir.specs.Fir.{fir_of, filter_of, in_row, row_outs, filter_row, start_with, line_after, outs_of, samples_of, block_of, re_of, im_of, line_of}
use Rattle.fir.specs.declared.FirComplexSym.{FirComplexSym}
use Rattle.fir.proofs.Laws.{fir_cong}
use Rattle.fir.proofs.Rows.{length_row, in_rows, rows_line, rows_out}

-- a part of A ++ rest that ends where A does
between : (A rest : List Float) (from to : ℕ) → from ≤ to → length A ≡ to → take (to - from) (drop from (A ++ rest)) ≡ drop from A
between A rest from to h e =
    rw (drop-append-le from A rest (omega arith)) (take_at (drop from A) rest (to - from) (length-drop from A ∙ omega arith))

-- the line is copied to the start of zeros, and the block behind it
module _ (line block z a b : List Float) (n : length line ≡ 32) (h₁ : a ≡ line) (h₂ : b ≡ block) where
  abbrev row : List Float
  row = put_mid 32 (length block + 32 - 32) (a ++ drop 32 z) b

  abbrev behind : List Float
  behind = post_of 32 (length block + 32 - 32) (line ++ drop 32 z)

  whole : row ≡ (line ++ block) ++ behind
  whole = rw (h₁, h₂, take_at line (drop 32 z) 32 n) (sym (append_assoc line block behind))

  -- both lie within the row
  pub block_within : length block + 32 ≤ length row
  block_within = rw whole (omega (arith, length-append (line ++ block) behind, length-append line block, n))

  part : (from : ℕ) → from ≤ length block + 32 → take (length block + 32 - from) (drop from row) ≡ drop from (line ++ block)
  part from h =
      ap (λ (l : List Float). take (length block + 32 - from) (drop from l)) whole
      ∙ between (line ++ block) behind from (length block + 32) h (length-append line block ∙ omega arith)

  -- the line after the block
  pub block_line : (next : List Float) → next ≡ take (length block + 32 - length block) (drop (length block) row) → next ≡ drop (length block) (line ++ block)
  block_line next e = e ∙ part (length block) (omega arith)

  -- the outputs
  pub block_outs : (out out' : List Float) → length block ≤ length out
      → out' ≡ filter_row (take (length block + 32 - 1) (drop 1 row)) out
      → out' ≡ start_with (row_outs (length block) (drop 1 (line ++ block))) out
  unfolding filter_row
  block_outs out out' h e =
      let l : length (drop 1 (line ++ block)) ≡ length block + 31 = length-drop 1 (line ++ block) ∙ ap (λ (k : ℕ). k - 1) (length-append line block) ∙ omega arith in
      let m : min (length (drop 1 (line ++ block)) - 31) (length out) ≡ length block = omega arith in
      e ∙ rw (part 1 (omega arith), m)

-- ---- both parts against the samples

-- the next row
next_row : (row block : List Float) (x : Float) → length row ≡ 32 → drop 1 (row ++ x ∷ block) ≡ (drop 1 row ++ (x ∷ [])) ++ block
next_row [] block x h = absurd (omega arith)
next_row (y ∷ row) block x h = sym (append_snoc row x block)

next_length : (row : List Float) (x : Float) → length row ≡ 32 → length (drop 1 row ++ (x ∷ [])) ≡ 32
next_length row x h = length-append (drop 1 row) (x ∷ []) ∙ ap (λ (k : ℕ). k + 1) (length-drop 1 row) ∙ omega arith

-- the line after a block
pub rows_after : (re im xs ys : List Float) → length re ≡ 32 → length im ≡ 32 → length xs ≡ length ys
    → line_after (newest 32 (in_rows re im)) (samples_of xs ys) ≡ newest 32 (in_rows (drop (length xs) (re ++ xs)) (drop (length ys) (im ++ ys)))
unfolding line_after samples_of
rows_after re im [] [] v w e = rw (append-nil re, append-nil im)
rows_after re im [] (y ∷ ys) v w e = absurd (omega arith)
rows_after re im (x ∷ xs) [] v w e = absurd (omega arith)
rows_after re im (x ∷ xs) (y ∷ ys) v w e =
    let s : ComplexSample = record { re = x; im = y } in
    ap (λ (l : List ComplexSample). line_after l (samples_of xs ys)) (sym (rows_line re im s v w))
    ∙ rows_after (drop 1 re ++ (x ∷ [])) (drop 1 im ++ (y ∷ [])) xs ys (next_length re x v) (next_length im y w) (omega arith)
    ∙ rw (← next_row re xs x v, ← next_row im ys y w, drop-drop, drop-drop, one-add, one-add)

-- the filter reads the first 32 elements of a row
front : (row rest : List Float) → length row ≡ 32 → fir_of (in_row row) ≡ fir_of (in_row (row ++ rest))
unfolding in_row
front row rest h = fir_cong (λ j k. sym (get_or-append row rest nan (31 - j) (omega arith)))

first_out : (re im xs ys : List Float) (s : ComplexSample) → length re ≡ 32 → length im ≡ 32
    → filter_of (ago silence (s ∷ newest 32 (in_rows re im)))
    ≡ record { re = fir_of (in_row ((drop 1 re ++ (s.re ∷ [])) ++ xs)); im = fir_of (in_row ((drop 1 im ++ (s.im ∷ [])) ++ ys)) }
unfolding filter_of
first_out re im xs ys s v w =
    sym (rows_out re im s v w)
    ∙ λ i. record {
      re = front (drop 1 re ++ (s.re ∷ [])) xs (next_length re s.re v) i;
      im = front (drop 1 im ++ (s.im ∷ [])) ys (next_length im s.im w) i;
    }

-- the outputs of a block
pub rows_outs : (re im xs ys : List Float) → length re ≡ 32 → length im ≡ 32 → length xs ≡ length ys
    → outs_of (newest 32 (in_rows re im)) (samples_of xs ys) ≡ samples_of (row_outs (length xs) (drop 1 (re ++ xs))) (row_outs (length ys) (drop 1 (im ++ ys)))
unfolding outs_of samples_of row_outs
rows_outs re im [] [] v w e = refl
rows_outs re im [] (y ∷ ys) v w e = absurd (omega arith)
rows_outs re im (x ∷ xs) [] v w e = absurd (omega arith)
rows_outs re im (x ∷ xs) (y ∷ ys) v w e =
    let s : ComplexSample = record { re = x; im = y } in
    let others =
    ap (λ (l : List ComplexSample). outs_of l (samples_of xs ys)) (sym (rows_line re im s v w))
    ∙ rows_outs (drop 1 re ++ (x ∷ [])) (drop 1 im ++ (y ∷ [])) xs ys (next_length re x v) (next_length im y w) (omega arith) in
    rw (next_row re xs x v, next_row im ys y w) (λ i. first_out re im xs ys s v w i ∷ others i)

-- ---- the block that is taken

pub length_samples : (xs ys : List Float) → length (samples_of xs ys) ≡ min (length xs) (length ys)
unfolding samples_of
length_samples [] ys = sym (zero-min (length ys))
length_samples (x ∷ xs) [] = sym (min-zero (suc (length xs)))
length_samples (x ∷ xs) (y ∷ ys) = ap suc (length_samples xs ys) ∙ sym (suc-min-suc (length xs) (length ys))

take_samples : (n : ℕ) (xs ys : List Float) → take n (samples_of xs ys) ≡ samples_of (take n xs) (take n ys)
unfolding samples_of
take_samples zero xs ys = refl
take_samples (suc n) [] ys = refl
take_samples (suc n) (x ∷ xs) [] = refl
take_samples (suc n) (x ∷ xs) (y ∷ ys) = ap (λ (l : List ComplexSample). record { re = x; im = y } ∷ l) (take_samples n xs ys)

take_min : {A : Type 0} (n : ℕ) (l : List A) → take (min n (length l)) l ≡ take n l
take_min n l =
    ⊎_elim
    (λ (h : n ≤ length l). let e : min n (length l) ≡ n = omega arith in rw e)
    (λ (h : length l < n). let e : min n (length l) ≡ length l = omega arith in rw (e, take-length l) (sym (take_all n l (omega arith))))
    (le_or_lt n (length l))

pub block_taken : (n : ℕ) (re im out_re out_im : List Float) → n ≡ min (min (length re) (length im)) (min 1024 (min (length out_re) (length out_im)))
    → block_of re im out_re out_im ≡ samples_of (take n re) (take n im)
unfolding block_of
block_taken n re im out_re out_im e =
    let k = min 1024 (min (length out_re) (length out_im)) in
    let m : n ≡ min k (length (samples_of re im)) = omega (arith, length_samples re im) in
    sym (take_min k (samples_of re im)) ∙ rw (← m) (take_samples n re im)

-- ---- the parts of samples

pub re_samples : (xs ys : List Float) → length xs ≡ length ys → re_of (samples_of xs ys) ≡ xs
unfolding samples_of
re_samples [] ys e = refl
re_samples (x ∷ xs) [] e = absurd (omega arith)
re_samples (x ∷ xs) (y ∷ ys) e = ap (λ (l : List Float). x ∷ l) (re_samples xs ys (omega arith))

pub im_samples : (xs ys : List Float) → length xs ≡ length ys → im_of (samples_of xs ys) ≡ ys
unfolding samples_of
im_samples [] [] e = refl
im_samples [] (y ∷ ys) e = absurd (omega arith)
im_samples (x ∷ xs) [] e = absurd (omega arith)
im_samples (x ∷ xs) (y ∷ ys) e = ap (λ (l : List Float). y ∷ l) (im_samples xs ys (omega arith))

-- ---- what `block` leaves

module _ (l : FirComplexSym) (re im out_re out_im : List Float) (n : ℕ) (v : length l.re ≡ 32) (w : length l.im ≡ 32)
    (e : n ≡ min (min (length re) (length im)) (min 1024 (min (length out_re) (length out_im)))) where
  same_length : length (take n re) ≡ length (take n im)
  same_length = length-take-le n re (omega arith) ∙ sym (length-take-le n im (omega arith))

  pub left_line : (next_re next_im : List Float) → next_re ≡ drop (length (take n re)) (l.re ++ take n re) → next_im ≡ drop (length (take n im)) (l.im ++ take n im)
      → newest 32 (in_rows next_re next_im) ≡ line_after (line_of l) (block_of re im out_re out_im)
  unfolding line_of
  left_line next_re next_im a b =
      rw (a, b, block_taken n re im out_re out_im e) (sym (rows_after l.re l.im (take n re) (take n im) v w same_length))

  outs : outs_of (line_of l) (block_of re im out_re out_im)
      ≡ samples_of (row_outs (length (take n re)) (drop 1 (l.re ++ take n re))) (row_outs (length (take n im)) (drop 1 (l.im ++ take n im)))
  unfolding line_of
  outs = rw (block_taken n re im out_re out_im e) (rows_outs l.re l.im (take n re) (take n im) v w same_length)

  outs_length : length (row_outs (length (take n re)) (drop 1 (l.re ++ take n re))) ≡ length (row_outs (length (take n im)) (drop 1 (l.im ++ take n im)))
  outs_length = length_row (length (take n re)) _ ∙ same_length ∙ sym (length_row (length (take n im)) _)

  pub left_re : row_outs (length (take n re)) (drop 1 (l.re ++ take n re)) ≡ re_of (outs_of (line_of l) (block_of re im out_re out_im))
  left_re = sym (ap re_of outs ∙ re_samples _ _ outs_length)

  pub left_im : row_outs (length (take n im)) (drop 1 (l.im ++ take n im)) ≡ im_of (outs_of (line_of l) (block_of re im out_re out_im))
  left_im = sym (ap im_of outs ∙ im_samples _ _ outs_length)
