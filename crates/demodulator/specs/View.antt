-- The receiver by value: its state, and the rings of its past. Definitions only.
use Rattle.slot_receiver.specs.Receiver.{Receiver}
use Rattle.receiver.specs.View.{receiver_of}
use Rattle.demodulator.specs.declared.Demodulator.{Demodulator}

unfoldable pub view_of : Demodulator → Receiver
view_of d = receiver_of d.state d.past.re d.past.im d.past.abs
