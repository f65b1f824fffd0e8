-- The receiver's calls from C: the numbers that stand for each answer (01, "Refusals", "The receiver"). Definitions only.
use Rattle.std.specs.Prelude.{Bool, true, false, ℕ, pos}
use Rattle.dsp_types.specs.Refusals.{accepted}
use Rattle.rx_slot.specs.declared.RxBurst.{RxBurst}
use Rattle.rx_slot.specs.declared.RxSlot.{RxSlot}
use Rattle.receiver.specs.Feed.{Stopped, at_end, at_slot, at_refusal}
use Rattle.slot_receiver.specs.Calls.{Reply, refused, done, took}

-- 01, "Refusals": the refusal's number, or 0
unfoldable pub reply_number : {Slot : Type 0} → Reply Slot → ℕ
reply_number (refused n) = n
reply_number done = accepted
reply_number (took s) = accepted

-- 01, "Refusals": a refusal returns its number alone, so the slot beside it is all zeros
abbrev pub zero_burst : RxBurst
zero_burst = record { train_type = 0; train_errs = 0; burst_pos = 0; burst_len = 0 }

abbrev pub empty_slot : RxSlot
empty_slot =
    record {
      time = record { 0 = 0 };
      closing_counter = record { 0 = pos 0 };
      full = zero_burst;
      subslot1 = zero_burst;
      subslot2 = zero_burst;
    }

-- the slot that was taken
unfoldable pub slot_taken : Reply RxSlot → RxSlot
slot_taken (refused n) = empty_slot
slot_taken done = empty_slot
slot_taken (took s) = s

-- 01, "The receiver": whether a block ended with a sample that handed a slot over
abbrev pub hands_slot : Stopped → Bool
hands_slot at_end = false
hands_slot at_slot = true
hands_slot (at_refusal n) = false

-- 01, "Refusals": the number by which the next sample is refused, or 0
abbrev pub stop_refusal : Stopped → ℕ
stop_refusal at_end = accepted
stop_refusal at_slot = accepted
stop_refusal (at_refusal n) = n
