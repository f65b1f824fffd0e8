-- The offset and the bits in an uplink line of `tetra_tx`, and the slot with its burst (man/tetra_tx.1). Definitions only.
use Rattle.std.specs.Prelude.{ℕ, ◌+◌, ◌-◌, ◌*◌, ◌%◌, Bool, not, cond, ◌||◌, List, [], ◌∷◌, map, ltb, eqb, take, drop}
use Rattle.slotter.specs.Uplink.{UplinkReply, normal_uplink, control_uplink, uplink_bits, placed}
use Rattle.block_text.specs.BlockText.{character_bit}
use Rattle.block_text.specs.declared.uplink.UplinkType.{UplinkType}
use Rattle.block_text.specs.declared.uplink.UplinkType.TheVariants.{Normal1, Normal2, Control}

-- the number of an uplink burst's type: of a normal burst its training sequence, of a control burst 3
abbrev pub uplink_type : UplinkType → ℕ
uplink_type Normal1 = 1
uplink_type Normal2 = 2
uplink_type Control = 3

-- the bytes before the first blank
unfoldable pub first_word : List ℕ → List ℕ
first_word [] = []
first_word (c ∷ rest) = cond (eqb c 32) [] (c ∷ first_word rest)

-- .. and those behind it
unfoldable pub after_word : List ℕ → List ℕ
after_word [] = []
after_word (c ∷ rest) = cond (eqb c 32) rest (after_word rest)

-- a digit's value; 99, which is above every offset, for another character
unfoldable pub digit_of : ℕ → ℕ
digit_of c = cond (ltb c 48) 99 (cond (ltb 57 c) 99 (c - 48))

-- the number that one or two digits are; above every offset for what is no such number
unfoldable pub offset_of : List ℕ → ℕ
offset_of [] = 99
offset_of (c ∷ []) = digit_of c
offset_of (c ∷ d ∷ []) = 10 * digit_of c + digit_of d
offset_of (c ∷ d ∷ e ∷ rest) = 99

-- an offset is even, and at most 48
unfoldable pub not_offset : ℕ → Bool
not_offset n = not (eqb (n % 2) 0) || ltb 48 n

-- how many bits both blocks have, by type: 1 and 2 a normal burst with that training sequence, 3 a control burst
unfoldable pub uplink_wanted : ℕ → ℕ
uplink_wanted type = cond (eqb type 3) 168 432

-- the burst of these bits
unfoldable pub uplink_burst : ℕ → List ℕ → UplinkReply
uplink_burst type bits =
    cond (eqb type 3) (control_uplink (take 84 bits) (drop 84 bits))
    (normal_uplink type (take 216 bits) (drop 216 bits))

-- a slot's 510 bits with the burst at the offset, from the bits' characters
unfoldable pub uplink_slot : (type offset : ℕ) → List ℕ → List ℕ
uplink_slot type offset characters = placed 510 offset (uplink_bits (uplink_burst type (map character_bit characters)))
