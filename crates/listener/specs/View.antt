-- How a listener and the rings of its past stand for a signal: above history, timing and slot_bits the one place that knows of rings. Definitions only.
use Rattle.std.specs.Prelude.{◌≡◌, ℕ, ◌*◌, ◌-◌, List, ◌++◌, replicate, Float}
use Rattle.dsp_types.specs.declared.ComplexSample.{ComplexSample}
use Rattle.fir.specs.Fir.{line_of}
use Rattle.history.specs.History.{held_in, samples_in}
use Rattle.listener.specs.declared.Listener.{Listener}
use Rattle.listener.specs.declared.window.Past.{Past}
use Rattle.listener.specs.declared.window.Reading.{Reading}
use Rattle.listener.specs.declared.window.Window.{Window}
use Rattle.listener.specs.declared.window.Window.TheVariants.{Slot, FirstHalf, SecondHalf}
use Rattle.listener.specs.Signal.{Signal, timing_of, bits_of}

-- the lists that rings hold, newest first: any stored index counts modulo 2,048
unfoldable pub signal_from : List ComplexSample → List Float → List Float → List Float → ℕ → Signal
signal_from inputs re im abs index = record { inputs = inputs; past = samples_in re im index; magnitudes = held_in abs index }

-- .. as they are lent to be read
abbrev pub signal_in : List ComplexSample → Past → Signal
signal_in inputs past = signal_from inputs past.re.now past.im.now past.abs.now past.index

unfoldable pub signal_of : Listener → List Float → List Float → List Float → Signal
signal_of l re im abs = signal_from (line_of l.matched_filter) re im abs l.past_index

-- how many samples ago a window starts, and how many symbols it has: that of the second half starts 510 samples later
abbrev pub start_of : Window → ℕ
start_of Slot = 1024
start_of FirstHalf = 1024
start_of SecondHalf = 514

abbrev pub symbols_of : Window → ℕ
symbols_of Slot = 256
symbols_of FirstHalf = 128
symbols_of SecondHalf = 128

-- w is the window of n symbols that starts d samples ago: its timing, and its bits with zeros behind them
pub record Reads (s : Signal) (d n : ℕ) (w : Reading) : Type 0 where
  pub timing : w.timing ≡ timing_of s d n
  pub bits : w.bits ≡ bits_of s d n ++ replicate (510 - 2 * (n - 1)) 0
