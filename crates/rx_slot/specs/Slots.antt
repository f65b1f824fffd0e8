-- A slot that was handed over (01, "Slot bits and burst views", "The receiver"). Definitions only.
use Rattle.std.specs.Prelude.{ℕ, ◌%◌, cond, List, [], ◌∷◌, ℤ, pos}
use Rattle.dsp_types.specs.Refusals.{out_of_count}
use Rattle.dsp_types.specs.Times.{slots}
use Rattle.rx_slot.specs.declared.RxSlot.{RxSlot}
use Rattle.rx_slot.specs.Views.{BurstView, no_view, valid_view, burst_shown, padded}

-- `RxSlotBits`: its number, and the views of the full slot and of its halves. 02, point 2: "the sample counter at which its window closed,
-- before the filter delay is taken off"
pub record HandedSlot : Type 0 where
  pub time : ℕ
  pub closing_counter : ℤ
  pub full : BurstView
  pub subslot1 : BurstView
  pub subslot2 : BurstView

-- a slot with its number and its views anew, and all else as it was
unfoldable pub with_views : HandedSlot → ℕ → (full subslot1 subslot2 : BurstView) → HandedSlot
with_views h n v v1 v2 = record { time = n; closing_counter = h.closing_counter; full = v; subslot1 = v1; subslot2 = v2 }

-- that of a new receiver
unfoldable pub no_slot : HandedSlot
no_slot = record { time = 0; closing_counter = pos 0; full = no_view; subslot1 = no_view; subslot2 = no_view }

-- a counter that no sample can have counts as 0
unfoldable pub valid_closing : ℤ → ℤ
valid_closing c = cond (out_of_count c) (pos 0) c

-- as it is taken: slot numbers count modulo their range, and a view that no window could have left counts as none
unfoldable pub valid_slot : HandedSlot → HandedSlot
valid_slot h =
    record {
      time = h.time % slots;
      closing_counter = valid_closing h.closing_counter;
      full = valid_view h.full;
      subslot1 = valid_view h.subslot1;
      subslot2 = valid_view h.subslot2;
    }

-- in numbers
unfoldable pub shown : HandedSlot → RxSlot
shown h =
    record {
      time = record { 0 = h.time };
      closing_counter = record { 0 = h.closing_counter };
      full = burst_shown h.full;
      subslot1 = burst_shown h.subslot1;
      subslot2 = burst_shown h.subslot2;
    }

-- 01: a take "fills 510, 254 and 254 lent bytes with the three views"
unfoldable pub filled : HandedSlot → List (List ℕ)
filled h = padded 510 h.full.bits ∷ padded 254 h.subslot1.bits ∷ padded 254 h.subslot2.bits ∷ []
