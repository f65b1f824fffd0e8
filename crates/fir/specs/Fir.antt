-- The filter (01, "Samples and the filter line"): f j is one part of in(j), the sample j calls ago.
use Rattle.std.specs.Prelude.{List, [], ◌∷◌, ◌++◌, map, ℕ, zero, suc, ◌+◌, ◌-◌, ◌*◌, min, get_or, length, take, drop, Float}
use Rattle.std.specs.Float.{binary32, nan}
use Rattle.std.specs.Float.Ieee.{add, mul, of_bits}
use Rattle.dsp_types.specs.declared.ComplexSample.{ComplexSample}
use Rattle.dsp_types.specs.Samples.{zero_f, silence, ago}
use Rattle.dsp_types.specs.Ring.{newest}
use Rattle.fir.specs.declared.FirComplexSym.{FirComplexSym}

-- the sixteen taps (modem_common.rs, CHANNEL_FILTER_TAPS), as f32 bit patterns
unfoldable pub taps : List Float
taps =
    of_bits binary32 0x3e87aa62 ∷ of_bits binary32 0x3e4cd25b ∷ of_bits binary32 0x3dce1d53 ∷ of_bits binary32 0x3c238d99
    ∷ of_bits binary32 0xbd246b21 ∷ of_bits binary32 0xbd3474d7 ∷ of_bits binary32 0xbca26c91 ∷ of_bits binary32 0x3bd284c8
    ∷ of_bits binary32 0x3c8ee5f2 ∷ of_bits binary32 0x3c46cf32 ∷ of_bits binary32 0x3a3ab39b ∷ of_bits binary32 0xbbc7bb56
    ∷ of_bits binary32 0xbba011d9 ∷ of_bits binary32 0x39960bc6 ∷ of_bits binary32 0x3b625dae ∷ of_bits binary32 0x3b10b61b
    ∷ []

-- what tap k adds: tap k times (in(15 − k) + in(16 + k))
unfoldable pub term_of : (ℕ → Float) → ℕ → Float
term_of f k = mul binary32 (add binary32 (f (15 - k)) (f (16 + k))) (get_or taps k nan)

-- lane v with t of its taps: from +0.0, taps v, v + 4, v + 8, ..
unfoldable pub lane_up_to : (ℕ → Float) → ℕ → ℕ → Float
lane_up_to f v zero = zero_f
lane_up_to f v (suc t) = add binary32 (lane_up_to f v t) (term_of f (v + 4 * t))

-- lane v with its four taps
unfoldable pub lane_of : (ℕ → Float) → ℕ → Float
lane_of f v = lane_up_to f v 4

-- the lanes, added left to right
unfoldable pub fir_of : (ℕ → Float) → Float
fir_of f = add binary32 (add binary32 (add binary32 (lane_of f 0) (lane_of f 1)) (lane_of f 2)) (lane_of f 3)

-- a filtered sample: each part by itself
unfoldable pub filter_of : (ℕ → ComplexSample) → ComplexSample
filter_of f = record { re = fir_of (λ j. (f j).re); im = fir_of (λ j. (f j).im) }

-- ---- the line: its newest 32 inputs, newest first

-- in(j) of one part that is kept oldest first, with the newest sample at 31
unfoldable pub in_row : List Float → ℕ → Float
in_row row j = get_or row (31 - j) nan

unfoldable pub line_of : FirComplexSym → List ComplexSample
line_of l = newest 32 (λ j. record { re = in_row l.re j; im = in_row l.im j })

-- ---- a block: xs are its samples, oldest first

-- the line after it
unfoldable pub line_after : List ComplexSample → List ComplexSample → List ComplexSample
line_after line [] = line
line_after line (x ∷ xs) = line_after (take 32 (x ∷ line)) xs

-- what comes out, sample by sample
unfoldable pub outs_of : List ComplexSample → List ComplexSample → List ComplexSample
outs_of line [] = []
outs_of line (x ∷ xs) = filter_of (ago silence (x ∷ line)) ∷ outs_of (take 32 (x ∷ line)) xs

-- the samples of two slices of parts, as far as both go
unfoldable pub samples_of : List Float → List Float → List ComplexSample
samples_of [] im = []
samples_of (x ∷ re) [] = []
samples_of (x ∷ re) (y ∷ im) = record { re = x; im = y } ∷ samples_of re im

-- the block that is taken of two slices: at most 1,024 samples, and as many as both buffers have room for
unfoldable pub block_of : List Float → List Float → List Float → List Float → List ComplexSample
block_of re im out_re out_im = take (min 1024 (min (length out_re) (length out_im))) (samples_of re im)

-- a buffer with xs at its start
unfoldable pub start_with : List Float → List Float → List Float
start_with xs buffer = xs ++ drop (length xs) buffer

-- the parts of samples
abbrev pub re_of : List ComplexSample → List Float
re_of = map (λ s. s.re)

abbrev pub im_of : List ComplexSample → List Float
im_of = map (λ s. s.im)

-- ---- one part of a block, as a row: 31 old samples and the block, oldest first

-- n outputs: the first over the row's first 32 elements, each next one over those that start one later
unfoldable pub row_outs : ℕ → List Float → List Float
row_outs zero row = []
row_outs (suc n) row = fir_of (in_row row) ∷ row_outs n (drop 1 row)

-- a buffer with as many outputs of a row at its start as both have room for
unfoldable pub filter_row : List Float → List Float → List Float
filter_row row buffer = start_with (row_outs (min (length row - 31) (length buffer)) row) buffer
