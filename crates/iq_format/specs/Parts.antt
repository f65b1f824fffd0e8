-- Samples as radio programs have them: a complex sample is two parts, re and im, each a few bytes, lowest first (01, "Samples and the filter line"). Definitions only.
use Rattle.std.specs.Prelude.{ℕ, zero, suc, ◌+◌, ◌*◌, ◌/◌, ◌%◌, List, [], ◌∷◌, ◌++◌, cond, ltb, ℤ, pos, ◌-ℤ◌, length, take, drop, Float}
use Rattle.std.specs.Float.{binary32}
use Rattle.std.specs.Float.Ieee.{of_bits, to_bits, of_int, sub, div}
use Rattle.iq_format.specs.declared.Format.{Format}
use Rattle.iq_format.specs.declared.Format.TheVariants.{Cf32, Cs16, Cu8}

-- the word of bytes, lowest first
unfoldable pub word_of : List ℕ → ℕ
word_of [] = 0
word_of (b ∷ bytes) = b + 0x100 * word_of bytes

-- how many bytes a part has
abbrev pub width : Format → ℕ
width Cf32 = 4
width Cs16 = 2
width Cu8 = 1

-- a word of 16 bits in two's complement
unfoldable pub signed16 : ℕ → ℤ
signed16 w = cond (ltb w 0x8000) (pos w) (pos w -ℤ pos 0x1_0000)

-- the part of a word: an f32's bit pattern; a signed number over 32,768; a byte less 127.5, over 128. No step of these rounds.
unfoldable pub part_of : Format → ℕ → Float
part_of Cf32 w = of_bits binary32 w
part_of Cs16 w = div binary32 (of_int binary32 (signed16 w)) (of_int binary32 (pos 32768))
part_of Cu8 w = div binary32 (sub binary32 (of_int binary32 (pos w)) (div binary32 (of_int binary32 (pos 255)) (of_int binary32 (pos 2)))) (of_int binary32 (pos 128))

-- the first so many parts of bytes
unfoldable pub first_parts : Format → ℕ → List ℕ → List Float
first_parts format zero bytes = []
first_parts format (suc n) bytes = part_of format (word_of (take (width format) bytes)) ∷ first_parts format n (drop (width format) bytes)

-- the parts of bytes; those left over that are less than a part are none
unfoldable pub parts_in : Format → List ℕ → List Float
parts_in format bytes = first_parts format (length bytes / width format) bytes

-- the bytes of a word of 32 bits
unfoldable pub word_bytes : ℕ → List ℕ
word_bytes w = w % 0x100 ∷ w / 0x100 % 0x100 ∷ w / 0x1_0000 % 0x100 ∷ w / 0x100_0000 ∷ []

-- the bytes of parts
unfoldable pub part_bytes : List Float → List ℕ
part_bytes [] = []
part_bytes (x ∷ xs) = word_bytes (to_bits binary32 x) ++ part_bytes xs
