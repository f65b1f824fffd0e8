-- No two answers of a call tell the same. Assumes nothing.
use mathlib.Core.Path.{◌≡◌, refl, sym, ap, ◌∙◌}
use Rattle.std.specs.Prelude.{Result, Ok, Err}
use Rattle.dsp_types.specs.declared.refusals.Refusal.{Refusal}
use Rattle.dsp_types.proofs.Numbers.{refusal_of, refusal_back}
use Rattle.rx_slot.specs.declared.RxSlot.{RxSlot}
use Rattle.rx_slot.specs.Slots.{HandedSlot}
use Rattle.slot_receiver.specs.Calls.{Reply, refused, done, took, reply_of, take_reply_of}

-- a sample's, or an order's to follow
pub told_apart : (a b : Result (Unit {0}) Refusal) → reply_of a ≡ reply_of b → a ≡ b
unfolding reply_of
told_apart a b e = sym (back a) ∙ ap answer e ∙ back b
  where
    answer : Reply HandedSlot → Result (Unit {0}) Refusal
    answer (refused n) = Err (refusal_of n)
    answer done = Ok tt
    answer (took slot) = Ok tt

    back : (a : Result (Unit {0}) Refusal) → answer (reply_of a) ≡ a
    back (Ok x) = refl
    back (Err r) = ap Err (refusal_back r)

-- a take's
pub take_told_apart : (a b : Result RxSlot Refusal) → take_reply_of a ≡ take_reply_of b → a ≡ b
unfolding take_reply_of
take_told_apart a b e = sym (back a) ∙ ap answer e ∙ back b
  where
    answer : Reply RxSlot → Result RxSlot Refusal
    answer (refused n) = Err (refusal_of n)
    answer done = Err (refusal_of 0)
    answer (took slot) = Ok slot

    back : (a : Result RxSlot Refusal) → answer (take_reply_of a) ≡ a
    back (Ok slot) = refl
    back (Err r) = ap Err (refusal_back r)
