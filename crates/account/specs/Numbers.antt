-- Slot numbers. 01: "a slot number from 0 to 283,115,519". Definitions only; proofs/Numbers.antt proves `Numbered r` for EVERY receiver r,
-- in any mode and whatever is stored in it: so it holds after every list of calls too.
use Rattle.std.specs.Prelude.{◌≡◌, ℕ, ◌<◌, ℤ}
use mathlib.Core.List.{List, Memᴰ}
use Rattle.dsp_types.specs.declared.ComplexSample.{ComplexSample}
use Rattle.dsp_types.specs.Times.{slots}
use Rattle.rx_slot.specs.Slots.{HandedSlot}
use Rattle.slot_receiver.specs.Receiver.{Receiver}
use Rattle.slot_receiver.specs.Windows.{slot, Window}
use Rattle.slot_receiver.specs.Calls.{took, sample_outcome, take_outcome}
use Rattle.receiver.specs.Feed.{at_slot, feed_of}

-- every slot number that a call on r tells is below the number of slots, 283,115,520
pub record Numbered (r : Receiver) : Type 0 where
  -- the number of the slot that a take gives
  pub take : (slot subslot1 subslot2 : List ℕ) (h : HandedSlot) → (take_outcome r slot subslot1 subslot2).reply ≡ took h → h.time < slots
  -- the number of each slot that a sample, or a zero fed before it, hands over
  pub sample : (x : ComplexSample) (c : ℤ) (w : Window) (h : HandedSlot) → Memᴰ w (sample_outcome r x c).windows → w.kind ≡ slot h → h.time < slots
  -- the number of the slot that a block of samples stops at
  pub feed : (xs : List ComplexSample) (c : ℤ) → (feed_of r xs c).stop ≡ at_slot → (feed_of r xs c).receiver.slot.time < slots
