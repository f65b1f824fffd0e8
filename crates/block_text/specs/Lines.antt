-- What a line of `tetra_tx` asks for (man/tetra_tx.1). Definitions only.
use Rattle.std.specs.Prelude.{ℕ, Bool, true, false, cond, ◌&&◌, ◌||◌, List, [], ◌∷◌, eqb, length, drop, Option, None, Some, Result, Ok, Err}
use Rattle.text.specs.Text.{ascii, trimmed}
use Rattle.dsp_types.specs.Refusals.{accepted, bad_bit, wrong_length}
use Rattle.slotter.specs.Bursts.{BuilderReply}
use Rattle.block_text.specs.declared.line.Asked.{Asked}
use Rattle.block_text.specs.BlockText.{downlink_type, not_characters, answer_of}
use Rattle.block_text.specs.UplinkLines.{uplink_type, first_word, after_word, offset_of, not_offset, uplink_wanted, uplink_slot}
use Rattle.block_text.specs.declared.line.Asked.TheVariants.{Nothing, Empty, Burst, Uplink, Unknown}
use Rattle.block_text.specs.declared.slot.Complaint.{Complaint}
use Rattle.block_text.specs.declared.slot.Complaint.TheVariants.{NotBits, SyncLength, NormalLength, UplinkLength, ControlLength, Offset}
use Rattle.block_text.specs.declared.slot.LineSlot.{LineSlot}
use Rattle.block_text.specs.declared.slot.LineSlot.TheVariants.{Bits}

-- no slot, one without a burst, a burst of a type from its blocks' characters, an uplink's burst from its offset and its blocks' characters, or what is reported and sent without a burst
pub data Wish : Type 0 where
  none : Wish
  silence : Wish
  burst : ℕ → List ℕ → Wish
  uplink : ℕ → List ℕ → Wish
  unknown : Wish

unfoldable pub asked_of : Asked → Wish
asked_of Nothing = none
asked_of Empty = silence
asked_of (Burst type characters) = burst (downlink_type type) characters.now
asked_of (Uplink type text) = uplink (uplink_type type) text.now
asked_of Unknown = unknown

-- a line starts with a word
unfoldable pub starts_with : List ℕ → List ℕ → Bool
starts_with [] line = true
starts_with (w ∷ word) [] = false
starts_with (w ∷ word) (b ∷ line) = eqb b w && starts_with word line

-- an uplink's burst: of type 1 or 2, its training sequence, or 3 for a control burst
unfoldable pub asked_uplink : List ℕ → Wish
asked_uplink line =
    cond (starts_with (ascii "uplink1 ") line) (uplink 1 (drop 8 line))
    (cond (starts_with (ascii "uplink2 ") line) (uplink 2 (drop 8 line))
    (cond (starts_with (ascii "control ") line) (uplink 3 (drop 8 line)) unknown))

-- an empty line and a remark ask for nothing
unfoldable pub asked : List ℕ → Wish
asked line =
    cond (eqb (length line) 0 || starts_with (ascii "#") line) none
    (cond (starts_with (ascii "sync ") line) (burst 4 (drop 5 line))
    (cond (starts_with (ascii "normal1 ") line) (burst 1 (drop 8 line))
    (cond (starts_with (ascii "normal2 ") line) (burst 2 (drop 8 line))
    (cond (starts_with (ascii "empty") line && eqb (length line) 5) silence (asked_uplink line)))))

-- what a wish comes to: the blocks of a burst are answered, and an uplink's burst is refused or has a slot's bits
pub data Sent : Type 0 where
  passed empty reported : Sent
  answered : ℕ → BuilderReply → Sent
  refused : Complaint → Sent
  placed : List ℕ → Sent

-- too few or too many bits of an uplink's burst of that type
unfoldable pub length_complaint : ℕ → Complaint
length_complaint type = cond (eqb type 3) ControlLength UplinkLength

-- an uplink's burst: its offset is judged, then the number of its bits, then these
unfoldable pub uplink_sent : (type offset : ℕ) → List ℕ → Sent
uplink_sent type offset characters =
    cond (not_offset offset) (refused Offset)
    (cond (wrong_length (uplink_wanted type) characters) (refused (length_complaint type))
    (cond (not_characters characters) (refused NotBits) (placed (uplink_slot type offset characters))))

unfoldable pub sent_for : Wish → Sent
sent_for none = passed
sent_for silence = empty
sent_for (burst type characters) = answered type (answer_of type characters)
sent_for (uplink type text) = uplink_sent type (offset_of (first_word text)) (after_word text)
sent_for unknown = reported

-- what a line comes to, of which one closing carriage return is dropped
unfoldable pub sent_of : List ℕ → Sent
sent_of line = sent_for (asked (trimmed 13 line))

-- ---- what goes out for it, and what is said of it

-- the slots that are sent, each with the bits of its burst: a slot without one has none
unfoldable pub slots_for : Sent → List (List ℕ)
slots_for passed = []
slots_for empty = [] ∷ []
slots_for reported = [] ∷ []
slots_for (answered type reply) = cond (eqb reply.number accepted) reply.bits [] ∷ []
slots_for (refused complaint) = [] ∷ []
slots_for (placed bits) = bits ∷ []

-- blocks of that type, answered with that number
unfoldable pub complaint_of : ℕ → ℕ → Option Complaint
complaint_of type number =
    cond (eqb number accepted) None (cond (eqb number bad_bit) (Some NotBits) (cond (eqb type 4) (Some SyncLength) (Some NormalLength)))

unfoldable pub complaint_for : Sent → Option Complaint
complaint_for passed = None
complaint_for empty = None
complaint_for reported = Some Complaint.Unknown
complaint_for (answered type reply) = complaint_of type reply.number
complaint_for (refused complaint) = Some complaint
complaint_for (placed bits) = None

-- a slot as the code hands it on
abbrev pub slots_of : LineSlot → List (List ℕ)
slots_of LineSlot.Nothing = []
slots_of LineSlot.Empty = [] ∷ []
slots_of (Bits bits) = bits ∷ []

-- .. and what is sent for a line by how the code judges it
abbrev pub judged_slots : Result LineSlot Complaint → List (List ℕ)
judged_slots (Ok slot) = slots_of slot
judged_slots (Err complaint) = [] ∷ []

-- .. and what is said of the line
abbrev pub complaint_in : Result LineSlot Complaint → Option Complaint
complaint_in (Ok slot) = None
complaint_in (Err complaint) = Some complaint

-- what is said, of a line of `tetra_tx`
unfoldable pub complaint_text : Complaint → List ℕ
complaint_text NotBits = ascii "a bit is neither 0 nor 1"
complaint_text SyncLength = ascii "sync takes 366 bits"
complaint_text NormalLength = ascii "a normal burst takes 462 bits"
complaint_text UplinkLength = ascii "an uplink burst takes 432 bits"
complaint_text ControlLength = ascii "a control burst takes 168 bits"
complaint_text Offset = ascii "the offset is no even number from 0 to 48"
complaint_text Complaint.Unknown = ascii "not sync, normal1, normal2, uplink1, uplink2 or control with bits, nor empty"
