-- What a receiver keeps of the samples it heard, newest first, and the bits it reads from them (01, "Samples and the filter line",
-- "The past", "Symbol timing", "Slot bits and burst views"). Definitions only.
use Rattle.std.specs.Prelude.{ℕ, List, [], ◌∷◌, take, replicate, Float}
use Rattle.dsp_types.specs.declared.ComplexSample.{ComplexSample}
use Rattle.dsp_types.specs.Samples.{zero_f, silence, ago}
use Rattle.fir.specs.Fir.{filter_of}
use Rattle.magnitude.specs.Magnitude.{magnitude_of}
use Rattle.timing.specs.Turns.{whole_of, fract_of}
use Rattle.timing.specs.Estimate.{estimate_timing}
use Rattle.slot_bits.specs.SlotBits.{slot_bits}

pub record Signal : Type 0 where
  -- the newest 32 samples
  pub inputs : List ComplexSample
  -- the newest 2,048 filtered samples, and beside each its magnitude
  pub past : List ComplexSample
  pub magnitudes : List Float

-- before any sample: zeros
unfoldable pub unheard : Signal
unheard = record { inputs = replicate 32 silence; past = replicate 2048 silence; magnitudes = replicate 2048 zero_f }

-- the filter's answer to one more sample
unfoldable pub filtered : Signal → ComplexSample → ComplexSample
filtered s x = filter_of (ago silence (x ∷ s.inputs))

-- one more sample: it is the newest input, its filtered sample the newest of the past
unfoldable pub hear : Signal → ComplexSample → Signal
hear s x =
    record {
      inputs = take 32 (x ∷ s.inputs);
      past = take 2048 (filtered s x ∷ s.past);
      magnitudes = take 2048 (magnitude_of (filtered s x).re (filtered s x).im ∷ s.magnitudes);
    }

-- samples one by one, oldest first
unfoldable pub hear_all : Signal → List ComplexSample → Signal
hear_all s [] = s
hear_all s (x ∷ xs) = hear_all (hear s x) xs

-- `estimate_timing` of a window of n symbols that starts d samples ago
unfoldable pub timing_of : Signal → ℕ → ℕ → Float
timing_of s d n = estimate_timing (ago zero_f s.magnitudes) d n

-- the bits of a window of n symbols that starts d samples ago: 2 (n − 1) of them
unfoldable pub bits_of : Signal → ℕ → ℕ → List ℕ
bits_of s d n = slot_bits (ago silence s.past) d (whole_of (timing_of s d n)) (fract_of (timing_of s d n)) n

-- the window of a whole slot: its timing, and its 510 bits
unfoldable pub slot_timing : Signal → Float
slot_timing s = timing_of s 1024 256

abbrev pub window_bits : Signal → List ℕ
window_bits s = bits_of s 1024 256
