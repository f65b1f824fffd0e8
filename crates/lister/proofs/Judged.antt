-- The listing of an input by its letter and characters.
use mathlib.Core.Path.{◌≡◌}
use mathlib.Core.List.{List, [], ◌∷◌}
use Prim.Native.Nat.{ℕ}
use native.Mathlib.Omega.{arith}
use lib.ListN.{length}
use Rattle.text.specs.Text.{trimmed}
use Rattle.std.specs.Prelude.{Option, None, Some, MatchOption}
use Rattle.block_text.specs.declared.BurstType.{BurstType}
use Rattle.block_text.specs.BlockText.{downlink_type, type_or_0, letter_type, answer_of}
use Rattle.lister.specs.Listing.{refusal_line, listed_answer, listed, listing}

pub none : (l line : List ℕ) → line ≡ trimmed 10 l → length line ≡ 0 → refusal_line 3 ≡ listing l
unfolding listing listed
none l [] e z = rw (← e)
none l (x ∷ line) e z = absurd (omega arith)

pub prints : (l : List ℕ) (letter : ℕ) (characters : List ℕ) → letter ∷ characters ≡ trimmed 10 l
    → listed_answer (letter_type letter) (answer_of (letter_type letter) characters) ≡ listing l
unfolding listing listed
prints l letter characters e = rw (← e)

-- the number of a type, or 0
pub number_is : (type : Option BurstType) (n : ℕ) → MatchOption type (n ≡ 0) (λ t. n ≡ downlink_type t) → n ≡ type_or_0 type
number_is None n e = e
number_is (Some t) n e = e
