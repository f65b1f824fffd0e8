-- The listing of a burst (01, "Checked figures"): from the bytes of the input to those of the output, for inputs of any length. Definitions only.
use Rattle.std.specs.Prelude.{ℕ, suc, List, [], ◌∷◌, ◌++◌, map, ℤ, pos, negsuc, get_or}
use Rattle.std.proofs.Math.Seq.{slice}
use Rattle.dsp_types.specs.Refusals.{bad_length}
use Rattle.text.specs.Text.{ascii, decimal, character_of, type_name, trimmed}
use Rattle.slotter.specs.Bursts.{BuilderReply}
use Rattle.block_text.specs.BlockText.{letter_type, answer_of}

-- a whole number in decimal
unfoldable pub signed_decimal : ℤ → List ℕ
signed_decimal (pos n) = decimal 20 n
signed_decimal (negsuc n) = ascii "-" ++ decimal 20 (suc n)

-- what is printed of a refusal
unfoldable pub refusal_line : ℕ → List ℕ
refusal_line n = ascii "refused=" ++ decimal 20 n ++ ascii "\n"

-- what is printed of a burst of that type, with these sums and bits
unfoldable pub burst_lines : ℕ → ℤ → ℤ → List ℕ → List ℕ
burst_lines type first last bits =
    ascii "kind=" ++ type_name type
    ++ ascii "\nsum_first=" ++ signed_decimal first
    ++ ascii "\nadj_first=" ++ map character_of (slice 12 14 bits)
    ++ ascii "\nsum_last=" ++ signed_decimal last
    ++ ascii "\nadj_last=" ++ map character_of (slice 498 500 bits)
    ++ ascii "\n"

-- what is printed of an answer: a refusal has no sums
unfoldable pub listed_answer : ℕ → BuilderReply → List ℕ
listed_answer type told = go told.number told.sums told.bits
  where
    go : ℕ → List ℤ → List ℕ → List ℕ
    go n [] bits = refusal_line n
    go n (first ∷ rest) bits = burst_lines type first (get_or rest 0 (pos 0)) bits

-- the listing of an input without its closing newline
unfoldable pub listed : List ℕ → List ℕ
listed [] = refusal_line bad_length
listed (letter ∷ characters) = listed_answer (letter_type letter) (answer_of (letter_type letter) characters)

-- the listing of an input, of which one closing newline is dropped
unfoldable pub listing : List ℕ → List ℕ
listing input = listed (trimmed 10 input)
