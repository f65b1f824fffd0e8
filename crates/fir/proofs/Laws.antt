-- The laws of the filter that callers go by: it reads 32 samples, a line holds the newest 32, a block is its samples one by one. Assumes nothing.
use mathlib.Core.Path.{◌≡◌, refl, sym, ap}
use mathlib.Core.List.{List, [], ◌∷◌, ◌++◌, append_assoc}
use Prim.Native.Nat.{ℕ, zero, suc, ◌+◌, ◌-◌, ◌*◌, ◌<◌, ◌≤◌}
use native.Mathlib.Omega.{arith}
use lib.ListN.{length, take, drop, length-append}
use lib.Seq.{drop-drop, take_at, drop_at}
use lib.Ieee.{Float}
use Rattle.dsp_types.specs.declared.ComplexSample.{ComplexSample}
use Rattle.dsp_types.specs.Samples.{silence, ago}
use Rattle.dsp_types.proofs.RingLaws.{Agree}
use Rattle.fir.specs.Fir.{term_of, lane_up_to, lane_of, fir_of, filter_of, line_after, outs_of, samples_of, start_with, re_of, im_of}

-- ---- the filter reads the newest 32 and no other

term_cong : {f g : ℕ → Float} → Agree 32 f g → (k : ℕ) → k < 16 → term_of f k ≡ term_of g k
unfolding term_of
term_cong a k h = rw (a (15 - k) (omega arith), a (16 + k) (omega arith))

lane_cong : {f g : ℕ → Float} → Agree 32 f g → (v t : ℕ) → v < 4 → t ≤ 4 → lane_up_to f v t ≡ lane_up_to g v t
unfolding lane_up_to
lane_cong a v zero h k = refl
lane_cong a v (suc t) h k = rw (lane_cong a v t h (omega arith), term_cong a (v + 4 * t) (omega arith))

pub fir_cong : {f g : ℕ → Float} → Agree 32 f g → fir_of f ≡ fir_of g
unfolding fir_of lane_of
fir_cong a =
    rw (
      lane_cong a 0 4 (omega arith) (omega arith),
      lane_cong a 1 4 (omega arith) (omega arith),
      lane_cong a 2 4 (omega arith) (omega arith),
      lane_cong a 3 4 (omega arith) (omega arith),
    )

pub filter_cong : {f g : ℕ → ComplexSample} → Agree 32 f g → filter_of f ≡ filter_of g
unfolding filter_of
filter_cong a =
    λ i. record {
      re = fir_cong (λ d k. ap (λ (s : ComplexSample). s.re) (a d k)) i;
      im = fir_cong (λ d k. ap (λ (s : ComplexSample). s.im) (a d k)) i;
    }

-- ---- blocks of samples

pub line_append : (line xs ys : List ComplexSample) → line_after line (xs ++ ys) ≡ line_after (line_after line xs) ys
unfolding line_after
line_append line [] ys = refl
line_append line (x ∷ xs) ys = line_append (take 32 (x ∷ line)) xs ys

pub outs_append : (line xs ys : List ComplexSample) → outs_of line (xs ++ ys) ≡ outs_of line xs ++ outs_of (line_after line xs) ys
unfolding outs_of line_after
outs_append line [] ys = refl
outs_append line (x ∷ xs) ys = ap (λ (l : List ComplexSample). filter_of (ago silence (x ∷ line)) ∷ l) (outs_append (take 32 (x ∷ line)) xs ys)

pub length_outs : (line xs : List ComplexSample) → length (outs_of line xs) ≡ length xs
unfolding outs_of
length_outs line [] = refl
length_outs line (x ∷ xs) = ap suc (length_outs (take 32 (x ∷ line)) xs)

-- the samples of their parts
pub samples_parts : (xs : List ComplexSample) → samples_of (re_of xs) (im_of xs) ≡ xs
unfolding samples_of
samples_parts [] = refl
samples_parts (x ∷ xs) = ap (λ (l : List ComplexSample). x ∷ l) (samples_parts xs)

-- ---- the start of a buffer

-- a piece more
pub start_part : (xs ys out : List Float) (i : ℕ) → length xs ≡ i
    → take i (start_with xs out) ++ start_with ys (drop i (start_with xs out)) ≡ start_with (xs ++ ys) out
unfolding start_with
start_part xs ys out i e =
    rw (take_at xs (drop (length xs) out) i e, drop_at xs (drop (length xs) out) i e, drop-drop (length ys) (length xs) out, length-append xs ys)
    (sym (append_assoc xs ys (drop (length xs + length ys) out)))
