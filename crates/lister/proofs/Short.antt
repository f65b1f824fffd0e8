-- A listing is short: nothing of it is cut.
use mathlib.Core.Path.{◌≡◌}
use mathlib.Core.List.{List, [], ◌∷◌, map}
use Prim.Native.Nat.{ℕ, suc, ◌≤◌, ◌+◌}
use native.Mathlib.Omega.{arith}
use lib.IntN.{ℤ, pos, negsuc}
use lib.ListN.{length, take, drop, length-append, length-map, length-drop, length-take, get_or}
use lib.Seq.{slice, take-add, drop_at, length-take-le}
use Rattle.slotter.specs.Bursts.{BuilderReply}
use Rattle.text.specs.Text.{ascii, character_of, trimmed}
use Rattle.text.proofs.Decimal.{length_decimal}
use Rattle.text.proofs.Names.{length_name}
use Rattle.block_text.specs.BlockText.{letter_type, answer_of}
use Rattle.lister.specs.Listing.{signed_decimal, refusal_line, burst_lines, listed_answer, listed, listing}

length_signed : (z : ℤ) → length (signed_decimal z) ≤ 21
unfolding signed_decimal ascii
length_signed (pos n) = omega (arith, length_decimal 20 n)
length_signed (negsuc n) = omega (arith, length_decimal 20 (suc n))

length_two : (f : ℕ) (bits : List ℕ) → length (map character_of (slice f (f + 2) bits)) ≤ 2
length_two f bits = simp (length-map, length-drop, length-take) (omega arith)

length_refusal : (n : ℕ) → length (refusal_line n) ≤ 2048
unfolding refusal_line ascii
length_refusal n = simp length-append (omega (arith, length_decimal 20 n))

length_burst : (type : ℕ) (first last : ℤ) (bits : List ℕ) → length (burst_lines type first last bits) ≤ 2048
unfolding burst_lines ascii
length_burst type first last bits =
    simp length-append
    (omega (arith, length_name type, length_signed first, length_two 12 bits, length_signed last, length_two 498 bits))

length_answer : (type : ℕ) (told : BuilderReply) → length (listed_answer type told) ≤ 2048
unfolding listed_answer
length_answer type told = go told.number told.sums told.bits
  where
    go : (n : ℕ) (sums : List ℤ) (bits : List ℕ) → length (listed_answer type (record { number = n; sums = sums; bits = bits })) ≤ 2048
    go n [] bits = length_refusal n
    go n (first ∷ rest) bits = length_burst type first (get_or rest 0 (pos 0)) bits

pub length_listing : (input : List ℕ) → length (listing input) ≤ 2048
unfolding listing listed
length_listing input = go (trimmed 10 input)
  where
    go : (l : List ℕ) → length (listed l) ≤ 2048
    go [] = length_refusal 3
    go (letter ∷ characters) = length_answer (letter_type letter) (answer_of (letter_type letter) characters)

-- a part by its place and its length
pub part : (f n : ℕ) (l : List ℕ) → f ≤ length l → slice f (f + n) l ≡ take n (drop f l)
part f n l h = rw (take-add f n l) (drop_at (take f l) (take n (drop f l)) f (length-take-le f l h))
