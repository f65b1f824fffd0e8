-- A list of calls on a receiver: what each comes to, by the definitions that the public contracts cite. Definitions only.
-- Calls stand THE LAST FIRST.
use Rattle.std.specs.Prelude.{ℕ, List, [], ◌∷◌, ◌++◌, ℤ}
use Rattle.dsp_types.specs.declared.ComplexSample.{ComplexSample}
use Rattle.slot_receiver.specs.declared.Mode.TheVariants.{DlUnsynchronized}
use Rattle.rx_slot.specs.Slots.{HandedSlot}
use Rattle.slot_receiver.specs.Receiver.{Receiver, new}
use Rattle.slot_receiver.specs.Windows.{Window}
use Rattle.slot_receiver.specs.Calls.{Reply, Outcome, sample_outcome, take_outcome, follow_outcome}

-- a sample with its counter, a take with three lent slices, an order to follow another receiver
pub data Call : Type 0 where
  sample : ComplexSample → ℤ → Call
  take : (slot subslot1 subslot2 : List ℕ) → Call
  follow : Receiver → Call

-- the slices that a call lends
unfoldable pub lent : Call → List (List ℕ)
lent (sample x c) = []
lent (take s a b) = s ∷ a ∷ b ∷ []
lent (follow other) = []

-- what a call on a receiver comes to: its answer, the receiver after it, the windows that it closes and the lent slices after it
unfoldable pub outcome : Receiver → Call → Outcome
outcome r (sample x c) = sample_outcome r x c
outcome r (take s a b) = take_outcome r s a b
outcome r (follow other) = follow_outcome r other

-- ---- a list of calls from a new searching downlink receiver on

-- the receiver after them
unfoldable pub after : List Call → Receiver
after [] = new DlUnsynchronized
after (c ∷ cs) = (outcome (after cs) c).receiver

-- their answers
unfoldable pub answers : List Call → List (Reply HandedSlot)
answers [] = []
answers (c ∷ cs) = (outcome (after cs) c).reply ∷ answers cs

-- the windows that they closed, the last first
unfoldable pub closed : List Call → List Window
closed [] = []
closed (c ∷ cs) = (outcome (after cs) c).windows ++ closed cs

-- the slices that they lent, after each
unfoldable pub lent_after : List Call → List (List (List ℕ))
lent_after [] = []
lent_after (c ∷ cs) = (outcome (after cs) c).lent ∷ lent_after cs
