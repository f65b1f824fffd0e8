-- The logger's call, which has kept bits judged again (01, "Slot bits and burst views", "Refusals"). Definitions only.
use Rattle.std.specs.Prelude.{Bool, false, cond, ◌||◌, List, [], ◌∷◌, ℕ, ◌/◌, ◌%◌, ltb, eqb}
use Rattle.dsp_types.specs.Refusals.{accepted, bad_length, bad_bit, bad_kind, wrong_length, not_bits}
use Rattle.burst_finder.specs.declared.Finding.{Finding}
use Rattle.burst_finder.specs.declared.SlotType.{SlotType}
use Rattle.burst_finder.specs.declared.SlotType.TheVariants.{Dl, UlFull, UlSub}
use Rattle.burst_finder.specs.Slots.{type_number, slot_type_of, check_slot}

-- 01: 510 bytes for kinds 0 and 1, 254 for 2
unfoldable pub window_length : SlotType → ℕ
window_length Dl = 510
window_length UlFull = 510
window_length UlSub = 254

-- 01: the bits are no window of their kind; for a kind above 2 only the answer's length counts
unfoldable pub wrong_window : ℕ → List ℕ → Bool
wrong_window kind bits = cond (ltb 2 kind) false (wrong_length (window_length (slot_type_of kind)) bits)

-- 01, "Refusals": the smallest number that holds, or 0
unfoldable pub judge_refusal : ℕ → List ℕ → List ℕ → ℕ
judge_refusal kind bits answer =
    cond (wrong_length 6 answer || wrong_window kind bits) bad_length (cond (not_bits bits) bad_bit (cond (ltb 2 kind) bad_kind accepted))

-- 01: type, errors, then place and length of the view, two bytes each, low byte first
unfoldable pub finding_bytes : Finding → List ℕ
finding_bytes f =
    type_number f.train_type ∷ f.train_errs ∷ f.burst_pos % 256 ∷ f.burst_pos / 256 ∷ f.burst_len % 256 ∷ f.burst_len / 256 ∷ []

-- 01: what the answer bytes hold after a call; a refused one changes nothing
unfoldable pub judge_answer : ℕ → List ℕ → List ℕ → List ℕ
judge_answer kind bits answer = cond (eqb (judge_refusal kind bits answer) accepted) (finding_bytes (check_slot (slot_type_of kind) bits)) answer
