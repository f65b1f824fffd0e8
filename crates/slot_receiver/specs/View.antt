-- How the stored numbers stand for a receiver. Definitions only.
use Rattle.std.specs.Prelude.{ℕ, cond, eqb, ℤ}
use Rattle.listener.specs.Signal.{Signal}
use Rattle.rx_slot.specs.Views.{stored_view}
use Rattle.slot_receiver.specs.declared.Mode.{Mode}
use Rattle.slot_receiver.specs.declared.Mode.TheVariants.{Idle, DlUnsynchronized, Dl, Ul}
use Rattle.slot_receiver.specs.declared.SlotReceiver.{SlotReceiver}
use Rattle.slot_receiver.specs.Receiver.{Clock, Receiver}

-- the mode of a stored number; any other is an idle receiver's
unfoldable pub mode_of : ℕ → Mode
mode_of n = cond (eqb n 1) DlUnsynchronized (cond (eqb n 2) Dl (cond (eqb n 3) Ul Idle))

-- the number that is stored for a mode
unfoldable pub mode_number : Mode → ℕ
mode_number Idle = 0
mode_number DlUnsynchronized = 1
mode_number Dl = 2
mode_number Ul = 3

-- the number stored by a receiver that follows one in this mode: that of the mode that it takes
unfoldable pub mode_following : Mode → ℕ → ℕ
mode_following Idle own = own
mode_following DlUnsynchronized own = mode_number Idle
mode_following Dl own = mode_number Ul
mode_following Ul own = own

abbrev pub clock_of : SlotReceiver → Clock
clock_of s = record { reference_time = s.reference_time.0; slot_ready_time = s.slot_ready_time.0; current_slot = s.current_slot.0 }

-- the receiver of stored numbers, with the counter that it expects next and what it heard. A slot's window has 510 bits, that of half
-- a slot 254
unfoldable pub receiver_from : SlotReceiver → ℤ → Signal → Receiver
receiver_from s next signal =
    record {
      mode = mode_of s.mode;
      clock = clock_of s;
      lock = record { timing_error = s.averaged_timing_error; misses = s.slots_since_last_valid_burst };
      waits = s.demodulated_slot_available;
      slot =
          record {
            time = s.demodulated_slot.time.0;
            closing_counter = s.demodulated_slot.closing_counter.0;
            full = stored_view 510 s.full_bits s.demodulated_slot.full;
            subslot1 = stored_view 254 s.subslot1_bits s.demodulated_slot.subslot1;
            subslot2 = stored_view 254 s.subslot2_bits s.demodulated_slot.subslot2;
          };
      next = next;
      signal = signal;
    }
