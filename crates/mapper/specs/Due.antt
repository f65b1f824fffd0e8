-- What is due in a call of the sender (01, "The sender", "Refusals"; modulator.rs, `Modulator::sample`): its refusal, or what it feeds. Definitions only.
use Rattle.std.specs.Prelude.{ℕ, zero, suc, ◌+◌, ◌*◌, ◌/◌, ◌%◌, Bool, not, cond, List, ltb, eqb, ℤ, pos, negsuc, ◌+ℤ◌, ◌-ℤ◌, get_or, Option, Some, None, Result, Ok, Err}
use Rattle.dsp_types.specs.Refusals.{accepted, bad_counter, bad_length, bad_bit, bad_slot, need_more_data, out_of_count, wrong_length, not_bits}
use Rattle.dsp_types.specs.Times.{slots}
use Rattle.dsp_types.specs.declared.refusals.Refusal.{Refusal}
use Rattle.dsp_types.specs.Answers.{number_of}
use Rattle.mapper.specs.declared.Due.{Due}
use Rattle.mapper.specs.declared.Due.TheVariants.{Silence, Symbol}

-- ---- refusals from the input

-- bits, where a slot has any, are 510 bytes that are 0 or 1
unfoldable pub bits_refusal : Option (List ℕ) → ℕ
bits_refusal None = accepted
bits_refusal (Some bits) = cond (wrong_length 510 bits) bad_length (cond (not_bits bits) bad_bit accepted)

-- a refusal of the bits has a smaller number than one of the slot
unfoldable pub slot_refusal : ℕ → ℕ → ℕ
slot_refusal slot zero = cond (ltb slot slots) accepted bad_slot
slot_refusal slot (suc n) = suc n

-- the smallest number that holds of a call's input
unfoldable pub input_refusal : ℤ → ℕ → Option (List ℕ) → ℕ
input_refusal counter slot bits = cond (out_of_count counter) bad_counter (slot_refusal slot (bits_refusal bits))

-- ---- what is due

-- the counter of a slot's first sample (01, "Times": a slot has 1,020; modulator.rs, `slot_begin`)
unfoldable pub start_of : ℕ → ℕ
start_of slot = slot * 1020

-- where in the slot that starts there the sample stands: the filter's delay is 16 samples (modulator.rs, `sample_in_slot`)
unfoldable pub place_in : ℤ → ℕ → ℤ
place_in counter start = counter +ℤ pos 16 -ℤ pos start

-- whether bit i of a slot is 1
unfoldable pub bit_at : List ℕ → ℕ → Bool
bit_at bits i = not (eqb (get_or bits i 0) 0)

-- the symbol that starts at place n of a slot, at every fourth sample
unfoldable pub symbol_due : List ℕ → ℕ → Due
symbol_due bits n = Symbol (bit_at bits (2 * (n / 4))) (bit_at bits (2 * (n / 4) + 1))

-- within a slot: a symbol, where the slot has bits and one starts here
unfoldable pub due_in : Option (List ℕ) → ℕ → Due
due_in None n = Silence
due_in (Some bits) n = cond (eqb (n % 4) 0) (symbol_due bits n) Silence

-- a slot in the future feeds silence, one in the past needs the next
unfoldable pub due_at : Option (List ℕ) → ℤ → Result Due ℕ
due_at bits (negsuc n) = Ok Silence
due_at bits (pos n) = cond (ltb n 1020) (Ok (due_in bits n)) (Err need_more_data)

-- a refusal from the input comes before one from the state
unfoldable pub due_if : ℕ → Result Due ℕ → Result Due ℕ
due_if zero due = due
due_if (suc n) due = Err (suc n)

-- what is due in a call
unfoldable pub due_of : ℤ → ℕ → Option (List ℕ) → Result Due ℕ
due_of counter slot bits = due_if (input_refusal counter slot bits) (due_at bits (place_in counter (start_of slot)))

-- an answer of the code, with its refusal as a number
abbrev pub numbered : {T : Type 0} → Result T Refusal → Result T ℕ
numbered (Ok x) = Ok x
numbered (Err refusal) = Err (number_of refusal)

-- the number by which a call is refused, or 0
unfoldable pub due_refusal : Result Due ℕ → ℕ
due_refusal (Err n) = n
due_refusal (Ok due) = accepted
