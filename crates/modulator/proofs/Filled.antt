-- What is fed for a block, and its samples in one row: one turn of each loop that writes them, and its end. Assumes nothing.
use mathlib.Core.Path.{◌≡◌, sym, ap, ◌∙◌}
use Prim.Native.Nat.{ℕ, suc, ◌+◌, ◌-◌, ◌*◌, ◌<◌, ◌≤◌}
use native.Mathlib.Omega.{arith}
use native.Mathlib.Numerals.{add-one}
use mathlib.Core.List.{List, [], ◌∷◌, ◌++◌, map, append-nil}
use lib.ListN.{get_or, length, take, drop, set, length-set, take-append-drop, drop_of_length-le}
use lib.Seq.{take-suc-set, drop-cons, drop-drop, drop-set-lt, length-take-le, append_snoc}
use lib.Ieee.{Float, nan}
use Rattle.std.specs.Prelude.{Result}
use Rattle.dsp_types.specs.declared.ComplexSample.{ComplexSample}
use Rattle.fir.specs.Fir.{samples_of, start_with}
use Rattle.mapper.specs.declared.Due.{Due}
use Rattle.mapper.specs.Dqpsk.{phase_after, input_of}
use Rattle.modulator.specs.Blocks.{parts_of, inputs_of, phases_of}

module _ (due : ℕ → Result Due ℕ) (count n p k : ℕ) where
  pub part_turn : (f : ComplexSample → Float) (row all : List Float) (x : ComplexSample) → n < length row → n < count → k ≡ phase_after p (due n) → x ≡ input_of k (due n)
      → take n row ++ map f (inputs_of due (count - n) n p) ≡ all
      → take (n + 1) (set row n (f x)) ++ map f (inputs_of due (count - (n + 1)) (n + 1) k) ≡ all
  unfolding inputs_of
  part_turn f row all x h l e i inv =
      let m : count - n ≡ suc (count - suc n) = omega arith in
      rw (add-one n, take-suc-set row n (f x) h, append_snoc, i, e) (rw m at inv)

  pub phase_turn : (all : ℕ) → n < count → k ≡ phase_after p (due n) → phases_of due (count - n) n p ≡ all → phases_of due (count - (n + 1)) (n + 1) k ≡ all
  unfolding phases_of
  phase_turn all l e inv =
      let m : count - n ≡ suc (count - suc n) = omega arith in
      rw (add-one n, e) (rw m at inv)

  pub part_end : (f : ComplexSample → Float) (row all : List Float) → n ≡ count → take n row ++ map f (inputs_of due (count - n) n p) ≡ all → take count row ≡ all
  unfolding inputs_of
  part_end f row all e inv =
      let m : count - n ≡ 0 = omega arith in
      rw (← e) (sym (append-nil (take n row)) ∙ rw m at inv)

  pub phase_end : (all : ℕ) → n ≡ count → phases_of due (count - n) n p ≡ all → p ≡ all
  unfolding phases_of
  phase_end all e inv =
      let m : count - n ≡ 0 = omega arith in
      rw m at inv

-- ---- samples written in turn

-- one sample more in a row
pub row_add : (n : ℕ) (x y : Float) (row rest all : List Float) → 2 * n + 1 < length row → take (2 * n) row ++ (x ∷ y ∷ rest) ≡ all
    → take (2 * (n + 1)) (set (set row (2 * n) x) (2 * n + 1) y) ++ rest ≡ all
row_add n x y row rest all l inv =
    let m : 2 * (n + 1) ≡ suc (suc (2 * n)) = omega arith in
    rw (m, add-one (2 * n), take-suc-set (set row (2 * n) x) (suc (2 * n)) y (rw (length-set row (2 * n) x) (omega arith)), take-suc-set row (2 * n) x (omega arith))
    (append_snoc (take (2 * n) row ++ (x ∷ [])) y rest ∙ append_snoc (take (2 * n) row) x (y ∷ rest) ∙ inv)

-- ... and behind it
pub rest_turn : (n : ℕ) (row row₀ : List Float) (x y : Float) → drop (2 * n) row ≡ drop (2 * n) row₀
    → drop (2 * (n + 1)) (set (set row (2 * n) x) (2 * n + 1) y) ≡ drop (2 * (n + 1)) row₀
rest_turn n row row₀ x y inv =
    let m : 2 * (n + 1) ≡ 2 * n + 2 = omega arith in
    drop-set-lt (2 * (n + 1)) (set row (2 * n) x) (2 * n + 1) y (omega arith)
    ∙ drop-set-lt (2 * (n + 1)) row (2 * n) x (omega arith)
    ∙ rw (m, ← drop-drop 2 (2 * n) row, ← drop-drop 2 (2 * n) row₀) (ap (drop 2) inv)

-- all of them
pub row_whole : (n : ℕ) (row row₀ all : List Float) → 2 * n ≤ length row → take (2 * n) row ++ [] ≡ all → drop (2 * n) row ≡ drop (2 * n) row₀ → row ≡ start_with all row₀
unfolding start_with
row_whole n row row₀ all l inv rest =
    let e : take (2 * n) row ≡ all = sym (append-nil (take (2 * n) row)) ∙ inv in
    let c : length all ≡ 2 * n = ap length (sym e) ∙ length-take-le (2 * n) row l in
    sym (take-append-drop (2 * n) row) ∙ rw c (λ i. e i ++ rest i)

module _ (re im : List Float) where
  pub row_turn : (n : ℕ) (row all : List Float) → n < length re → n < length im → 2 * n + 1 < length row
      → take (2 * n) row ++ parts_of (samples_of (drop n re) (drop n im)) ≡ all
      → take (2 * (n + 1)) (set (set row (2 * n) (get_or re n nan)) (2 * n + 1) (get_or im n nan)) ++ parts_of (samples_of (drop (n + 1) re) (drop (n + 1) im)) ≡ all
  unfolding samples_of parts_of
  row_turn n row all h k l inv =
      rw (add-one n)
      (rw (add-one n) at (row_add n (get_or re n nan) (get_or im n nan) row (parts_of (samples_of (drop (suc n) re) (drop (suc n) im))) all l (rw (drop-cons re n nan h, drop-cons im n nan k) at inv)))

  pub row_end : (n : ℕ) (row row₀ all : List Float) → length re ≤ n → 2 * n ≤ length row → take (2 * n) row ++ parts_of (samples_of (drop n re) (drop n im)) ≡ all
      → drop (2 * n) row ≡ drop (2 * n) row₀ → row ≡ start_with all row₀
  unfolding samples_of parts_of
  row_end n row row₀ all h l inv rest = row_whole n row row₀ all l (rw (drop_of_length-le re {i = n} h) at inv) rest
