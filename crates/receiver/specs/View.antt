-- How the stored state and the rings of its past stand for a receiver. Definitions only.
use Rattle.std.specs.Prelude.{◌≡◌, List, Float}
use Rattle.listener.specs.View.{signal_of}
use Rattle.slot_receiver.specs.Receiver.{Receiver}
use Rattle.slot_receiver.specs.View.{receiver_from}
use Rattle.receiver.specs.declared.State.{State}

unfoldable pub receiver_of : State → List Float → List Float → List Float → Receiver
receiver_of s re im abs = receiver_from s.slots s.next_input_sample_count.0 (signal_of s.listener re im abs)

-- a call on a state and the rings of its past left all as it was
pub record Untouched (before after : State) (re re' im im' abs abs' : List Float) : Type 0 where
  pub state : after ≡ before
  pub past_re : re' ≡ re
  pub past_im : im' ≡ im
  pub past_abs : abs' ≡ abs
