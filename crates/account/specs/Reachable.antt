-- The receivers that calls can leave: `reachable_valid` of proofs/Bounds.antt shows that to read one as valid changes nothing. Definitions only.
use Rattle.std.specs.Prelude.{ℕ, List, ℤ}
use Rattle.dsp_types.specs.declared.ComplexSample.{ComplexSample}
use Rattle.slot_receiver.specs.declared.Mode.{Mode}
use Rattle.slot_receiver.specs.Receiver.{Receiver, new}
use Rattle.slot_receiver.specs.Calls.{sample_outcome, take_outcome, follow_outcome}

-- a new receiver, and what a sample, a take or an order to follow another such receiver makes of one
pub data Reachable : Receiver → Type 0 where
  anew : (m : Mode) → Reachable (new m)
  sampled : {r : Receiver} → Reachable r → (x : ComplexSample) (c : ℤ) → Reachable (sample_outcome r x c).receiver
  taken : {r : Receiver} → Reachable r → (slot subslot1 subslot2 : List ℕ) → Reachable (take_outcome r slot subslot1 subslot2).receiver
  told : {r other : Receiver} → Reachable r → Reachable other → Reachable (follow_outcome r other).receiver
