-- A burst's blocks written as characters (01, "Checked figures"), of any number. Definitions only.
use Rattle.std.specs.Prelude.{ℕ, zero, suc, Bool, false, not, cond, ◌&&◌, ◌||◌, List, [], ◌∷◌, map, eqb, take, drop, Option, None, Some}
use Rattle.dsp_types.specs.Refusals.{accepted, bad_length, bad_bit, bad_training, wrong_length}
use Rattle.slotter.specs.Bursts.{BuilderReply, refusal, sync_burst, normal_burst}
use Rattle.block_text.specs.declared.BurstType.{BurstType}
use Rattle.block_text.specs.declared.BurstType.TheVariants.{Normal1, Normal2, Sync}

-- a burst type's number (01, "Slot bits and burst views")
abbrev pub downlink_type : BurstType → ℕ
downlink_type Normal1 = 1
downlink_type Normal2 = 2
downlink_type Sync = 4

-- .. and 0 for none
abbrev pub type_or_0 : Option BurstType → ℕ
type_or_0 None = 0
type_or_0 (Some type) = downlink_type type

-- the burst type that a letter asks for (01, "Slot bits and burst views"): S 4, N 1, P 2, another letter 0
unfoldable pub letter_type : ℕ → ℕ
letter_type letter = cond (eqb letter 83) 4 (cond (eqb letter 78) 1 (cond (eqb letter 80) 2 0))

-- how many characters the blocks of a type have
unfoldable pub wanted : ℕ → ℕ
wanted type = cond (eqb type 4) 366 462

-- a character is other than 0 and 1
unfoldable pub not_character : ℕ → Bool
not_character c = not (eqb c 48 || eqb c 49)

-- some character is
unfoldable pub not_characters : List ℕ → Bool
not_characters [] = false
not_characters (c ∷ rest) = not_character c || not_characters rest

-- the characters behind a letter of that type are too few or too many: for type 0, another letter, no length is judged
unfoldable pub wrong_count : ℕ → List ℕ → Bool
wrong_count type characters = not (eqb type 0) && wrong_length (wanted type) characters

-- their refusal
unfoldable pub characters_refusal : ℕ → List ℕ → ℕ
characters_refusal type characters =
    cond (wrong_count type characters) bad_length
    (cond (not_characters characters) bad_bit
    (cond (eqb type 0) bad_training accepted))

-- the bit that a character stands for
unfoldable pub character_bit : ℕ → ℕ
character_bit c = cond (eqb c 49) 1 0

-- the burst of a type, from its blocks' bits in burst order
unfoldable pub burst_of : ℕ → List ℕ → BuilderReply
burst_of type bits =
    cond (eqb type 4) (sync_burst (take 120 bits) (take 30 (drop 120 bits)) (drop 150 bits))
    (normal_burst type (take 216 bits) (take 30 (drop 216 bits)) (drop 246 bits))

-- the answer to a letter of that type and its characters
unfoldable pub answer_of : ℕ → List ℕ → BuilderReply
answer_of type characters = pick (characters_refusal type characters)
  where
    pick : ℕ → BuilderReply
    pick zero = burst_of type (map character_bit characters)
    pick (suc n) = refusal (suc n)
