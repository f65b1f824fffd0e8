-- What an answer is in 01's terms (01, "Refusals"): 0 for a call that was accepted, or the refusal's number. No two refusals have one
-- number, and none has 0. Definitions only.
use Rattle.std.specs.Prelude.{ℕ, Option, None, Some, Result, Ok, Err}
use Rattle.dsp_types.specs.declared.refusals.Refusal.{Refusal}
use Rattle.dsp_types.specs.declared.refusals.Refusal.TheVariants.{BadSample, BadCounter, BadLength, BadBit, BadTraining, BadSlot, BadKind, PastCounter, NoSlot, NeedMoreData, NotFollowing}
use Rattle.dsp_types.specs.Refusals.{accepted, bad_sample, bad_counter, bad_length, bad_bit, bad_training, bad_slot, bad_kind, past_counter, no_slot_waits, need_more_data, not_following}

-- the number of each refusal
abbrev pub number_of : Refusal → ℕ
number_of BadSample = bad_sample
number_of BadCounter = bad_counter
number_of BadLength = bad_length
number_of BadBit = bad_bit
number_of BadTraining = bad_training
number_of BadSlot = bad_slot
number_of BadKind = bad_kind
number_of PastCounter = past_counter
number_of NoSlot = no_slot_waits
number_of NeedMoreData = need_more_data
number_of NotFollowing = not_following

-- the number of an answer, whatever an accepted call gives
abbrev pub answer_number : {T : Type 0} → Result T Refusal → ℕ
answer_number (Ok x) = accepted
answer_number (Err refusal) = number_of refusal

-- the number by which what was done piece by piece ended: of the refusal that ended it, or 0
abbrev pub end_number : Option Refusal → ℕ
end_number None = accepted
end_number (Some refusal) = number_of refusal
