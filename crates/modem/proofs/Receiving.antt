-- The receiver's calls from C: an answer by its number. Assumes nothing.
use mathlib.Core.Path.{◌≡◌, refl}
use Rattle.std.specs.Prelude.{Result, Ok, Err}
use Rattle.std.specs.Result.{result_unwrap_or}
use Rattle.dsp_types.specs.declared.refusals.Refusal.{Refusal}
use Rattle.dsp_types.specs.Answers.{answer_number}
use Rattle.rx_slot.specs.declared.RxSlot.{RxSlot}
use Rattle.slot_receiver.specs.Calls.{reply_of, take_reply_of}
use Rattle.modem.specs.Receive.{reply_number, slot_taken, empty_slot}

-- an answer has the number that it tells
pub answered : (a : Result (Unit {0}) Refusal) → answer_number a ≡ reply_number (reply_of a)
unfolding reply_number reply_of
answered (Ok x) = refl
answered (Err refusal) = refl

pub taken : (a : Result RxSlot Refusal) → answer_number a ≡ reply_number (take_reply_of a)
unfolding reply_number take_reply_of
taken (Ok slot) = refl
taken (Err refusal) = refl

-- the slot that was taken, or the empty one
pub slot_or_empty : (a : Result RxSlot Refusal) → result_unwrap_or a empty_slot ≡ slot_taken (take_reply_of a)
unfolding slot_taken take_reply_of
slot_or_empty (Ok s) = refl
slot_or_empty (Err refusal) = refl
