-- Samples that are only kept, between windows: for the private functions of `sample` and `feed`. Definitions only.
use Rattle.std.specs.Prelude.{◌≡◌, Bool, false, ◌||◌, List, [], ◌∷◌, ℕ, ◌<◌, ℤ, take, Float}
use Rattle.dsp_types.specs.declared.ComplexSample.{ComplexSample}
use Rattle.dsp_types.specs.Refusals.{beyond}
use Rattle.fir.specs.Fir.{samples_of}
use Rattle.listener.specs.Signal.{hear_all}
use Rattle.slot_receiver.specs.Receiver.{Clock, Receiver, with_next, with_signal}
use Rattle.slot_receiver.specs.Quiet.{quiet_samples}

-- they are kept, and the next counter is c
unfoldable pub keep_all : Receiver → List ComplexSample → ℤ → Receiver
keep_all r xs c = with_next (with_signal r (hear_all r.signal xs)) c

unfoldable pub any_beyond : List ComplexSample → Bool
any_beyond [] = false
any_beyond (x ∷ xs) = (beyond x.re || beyond x.im) || any_beyond xs

-- the first n samples of two rows of parts
abbrev pub first_of : ℕ → List Float → List Float → List ComplexSample
first_of n re im = samples_of (take n re) (take n im)

-- none is missing before the counter c, and n samples from there on are only kept
pub record OnlyKept (k : Clock) (misses : ℕ) (next c : ℤ) (n : ℕ) : Type 0 where
  pub follows : next ≡ c
  pub quiet : n ≡ quiet_samples k misses c

-- the sample x is only kept: it is not too large either
pub record Keeps (k : Clock) (misses : ℕ) (next : ℤ) (x : ComplexSample) (c : ℤ) : Type 0 where
  pub count : ℕ
  pub some : 0 < count
  pub only : OnlyKept k misses next c count
  pub fine : (beyond x.re || beyond x.im) ≡ false
