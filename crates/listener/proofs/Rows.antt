-- A block of samples, filtered and stored at once, is the samples one by one. Assumes nothing.
use mathlib.Core.Path.{◌≡◌, refl, ap, ◌∙◌}
use mathlib.Core.List.{List, [], ◌∷◌, map}
use Prim.Native.Nat.{ℕ, suc, ◌≤◌, min}
use native.Mathlib.Omega.{arith}
use lib.ListN.{length, take, drop, length-take}
use lib.Seq.{take_at}
use lib.Ieee.{Float}
use Rattle.fir.proofs.Blocks.{length_samples}
use Rattle.fir.proofs.Laws.{length_outs, samples_parts}
use Rattle.dsp_types.specs.declared.ComplexSample.{ComplexSample}
use Rattle.fir.specs.Fir.{line_after, outs_of, samples_of, block_of, start_with, re_of, im_of}
use Rattle.magnitude.specs.Magnitude.{magnitude_of, magnitudes_in}
use Rattle.history.specs.History.{held_in, held_after}
use Rattle.history.proofs.Laws.{samples_after}
use Rattle.listener.specs.Signal.{Signal, filtered, hear, hear_all}
use Rattle.listener.specs.View.{signal_from}

-- ---- magnitudes

unfoldable pub magnitudes_of : List ComplexSample → List Float
magnitudes_of = map (λ s. magnitude_of s.re s.im)

pub sized : (re im out : List Float) → length re ≡ length im → length re ≤ length out → take (length re) (magnitudes_in re im out) ≡ magnitudes_of (samples_of re im)
unfolding magnitudes_in magnitudes_of samples_of
sized [] im out e h = refl
sized (x ∷ re) [] out e h = absurd (omega (arith, e))
sized (x ∷ re) (y ∷ im) [] e h = absurd (omega arith)
sized (x ∷ re) (y ∷ im) (o ∷ out) e h = ap (λ (t : List Float). magnitude_of x y ∷ t) (sized re im out (omega (arith, e)) (omega arith))

-- ---- the block that is filtered

pub block_long : (re im : List Float) → length (take 512 (samples_of re im)) ≡ min (min (length re) (length im)) 512
block_long re im = omega (arith, length-take 512 (samples_of re im), length_samples re im)

pub whole_block : (re im out_re out_im : List Float) → length out_re ≡ 512 → length out_im ≡ 512 → block_of re im out_re out_im ≡ take 512 (samples_of re im)
unfolding block_of
whole_block re im out_re out_im a b =
    let m : min 1024 (min (length out_re) (length out_im)) ≡ 512 = omega arith in
    rw m

re_long : (ys : List ComplexSample) → length (re_of ys) ≡ length ys
re_long [] = refl
re_long (y ∷ ys) = ap suc (re_long ys)

im_long : (ys : List ComplexSample) → length (im_of ys) ≡ length ys
im_long [] = refl
im_long (y ∷ ys) = ap suc (im_long ys)

-- what a block of n samples writes, read back
module _ (line xs : List ComplexSample) (n : ℕ) (u : length xs ≡ n) where
  abbrev ys : List ComplexSample
  ys = outs_of line xs

  long : length ys ≡ n
  long = length_outs line xs ∙ u

  pub re_count : length (re_of ys) ≡ n
  re_count = re_long ys ∙ long

  pub im_count : length (im_of ys) ≡ n
  im_count = im_long ys ∙ long

  pub abs_count : length (magnitudes_of ys) ≡ n
  unfolding magnitudes_of
  abs_count = go ys ∙ long
    where
      go : (zs : List ComplexSample) → length (magnitudes_of zs) ≡ length zs
      go [] = refl
      go (z ∷ zs) = ap suc (go zs)

  pub re_out : (out out' : List Float) → out' ≡ start_with (re_of ys) out → take n out' ≡ re_of ys
  unfolding start_with
  re_out out out' e = rw e (take_at (re_of ys) (drop (length (re_of ys)) out) n (re_long ys ∙ long))

  pub im_out : (out out' : List Float) → out' ≡ start_with (im_of ys) out → take n out' ≡ im_of ys
  unfolding start_with
  im_out out out' e = rw e (take_at (im_of ys) (drop (length (im_of ys)) out) n (im_long ys ∙ long))

  pub abs_out : (r i m : List Float) → r ≡ re_of ys → i ≡ im_of ys → m ≡ magnitudes_of (samples_of r i) → m ≡ magnitudes_of ys
  abs_out r i m a b e = e ∙ rw (a, b) (ap magnitudes_of (samples_parts ys))

-- ---- the signal after a block

heard_all : (s : Signal) (xs : List ComplexSample)
    → record { inputs = line_after s.inputs xs; past = held_after s.past (outs_of s.inputs xs); magnitudes = held_after s.magnitudes (magnitudes_of (outs_of s.inputs xs)) }
    ≡ hear_all s xs
unfolding line_after held_after outs_of magnitudes_of hear_all hear filtered
heard_all s [] = refl
heard_all s (x ∷ xs) = heard_all (hear s x) xs

pub heard_rows : (line line' xs : List ComplexSample) (re im abs re' im' abs' : List Float) (at i j k : ℕ) → line' ≡ line_after line xs
    → held_in re' i ≡ held_after (held_in re at) (re_of (outs_of line xs)) → held_in im' j ≡ held_after (held_in im at) (im_of (outs_of line xs))
    → held_in abs' k ≡ held_after (held_in abs at) (magnitudes_of (outs_of line xs)) → i ≡ k → j ≡ k
    → signal_from line' re' im' abs' k ≡ hear_all (signal_from line re im abs at) xs
unfolding signal_from
heard_rows line line' xs re im abs re' im' abs' at i j k l a b c p q =
    let s = samples_after re im re' im' at k (outs_of line xs) (rw p at a) (rw q at b) in
    (λ t. record { inputs = l t; past = s t; magnitudes = c t }) ∙ heard_all (signal_from line re im abs at) xs
