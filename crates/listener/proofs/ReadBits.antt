-- A window of the past as the rings hold it is that window of the signal. Assumes nothing.
use mathlib.Core.Path.{◌≡◌, ◌∙◌}
use mathlib.Core.List.{List, ◌++◌}
use Prim.Native.Nat.{ℕ, ◌*◌, ◌-◌, ◌%◌, ◌<◌, ◌≤◌, min}
use native.Mathlib.Nat.{mod-eq_of_lt, min-eq_left}
use lib.ListN.{take, replicate}
use lib.Ieee.{Float}
use lib.Dec.{lit<, lit≤}
use Rattle.dsp_types.specs.Samples.{zero_f, silence, ago}
use Rattle.history.specs.History.{held_in, samples_in}
use Rattle.timing.specs.Estimate.{estimate_timing}
use Rattle.timing.specs.Turns.{whole_of, fract_of}
use Rattle.timing.proofs.Window.{estimate_held}
use Rattle.timing.proofs.Parts.{whole_lt}
use Rattle.slot_bits.specs.SlotBits.{slot_bits}
use Rattle.slot_bits.proofs.Laws.{bits_front}
use Rattle.listener.specs.Signal.{Signal, timing_of, bits_of}
use Rattle.dsp_types.specs.declared.ComplexSample.{ComplexSample}
use Rattle.listener.specs.declared.window.Reading.{Reading}
use Rattle.listener.specs.declared.window.Window.{Window}
use Rattle.listener.specs.declared.window.Window.TheVariants.{Slot, FirstHalf, SecondHalf}
use Rattle.listener.specs.View.{start_of, symbols_of, signal_from, Reads}

module _ (inputs : List ComplexSample) (re im abs : List Float) (index d n : ℕ) (starts : d < 2048) (symbols : n ≤ 256) where
  pub timed : estimate_timing (λ k. ago zero_f (held_in abs index) (k % 2048)) d n ≡ timing_of (signal_from inputs re im abs index) d n
  unfolding timing_of signal_from
  timed = estimate_held (held_in abs index) d n starts

  pub decided : (t : Float) (w : ℕ) (f : Float) (bits : List ℕ) → t ≡ timing_of (signal_from inputs re im abs index) d n → w ≡ whole_of t → f ≡ fract_of t
      → bits ≡ slot_bits (ago silence (samples_in re im index)) (d % 2048) (w % 4) f (min n 256) ++ replicate (510 - 2 * (min n 256 - 1)) 0
      → bits ≡ bits_of (signal_from inputs re im abs index) d n ++ replicate (510 - 2 * (n - 1)) 0
  unfolding bits_of signal_from
  decided t w f bits e g h b =
      let a : d % 2048 ≡ d = mod-eq_of_lt starts in
      let m : min n 256 ≡ n = min-eq_left symbols in
      let q : whole_of t % 4 ≡ whole_of t = mod-eq_of_lt (whole_lt t) in
      b ∙ rw (a, m, g, q, h, e)

-- the window's bits without the zeros
pub read_bits : {s : Signal} {d n : ℕ} {w : Reading} → Reads s d n w → take (2 * (n - 1)) w.bits ≡ bits_of s d n
unfolding bits_of
read_bits {s} {d} {n} read = rw read.bits (bits_front _ _ _ _ n _)

-- a window starts within the past and has at most a slot's symbols
pub starts_within : (w : Window) → start_of w < 2048
starts_within Slot = lit< tt
starts_within FirstHalf = lit< tt
starts_within SecondHalf = lit< tt

pub symbols_within : (w : Window) → symbols_of w ≤ 256
symbols_within Slot = lit≤ tt
symbols_within FirstHalf = lit≤ tt
symbols_within SecondHalf = lit≤ tt
