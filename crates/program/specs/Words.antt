-- What a word of the command line is. Definitions only.
use Rattle.std.specs.Prelude.{ℕ, Bool, true, false, cond, ◌&&◌, List, [], ◌∷◌, ◌==◌}
use Rattle.text.specs.Text.{ascii}
use Rattle.program.specs.declared.words.Kind.{Kind}
use Rattle.program.specs.declared.words.Kind.TheVariants.{Ends, Help, Version, Option, Name}
use Rattle.program.specs.declared.words.Named.{Named}
use Rattle.program.specs.declared.words.Named.TheVariants.{Input, Argument}
use Rattle.program.specs.declared.Wrong.{Wrong}
use Rattle.program.specs.declared.Wrong.TheVariants.{UnknownOption, TwoNames}

-- two words are the same
unfoldable pub same_word : List ℕ → List ℕ → Bool
same_word [] [] = true
same_word [] (c ∷ other) = false
same_word (b ∷ word) [] = false
same_word (b ∷ word) (c ∷ other) = b == c && same_word word other

-- it starts with a minus and does not end there
unfoldable pub is_option : List ℕ → Bool
is_option [] = false
is_option (b ∷ []) = false
is_option (b ∷ c ∷ rest) = b == 45

-- where options may stand
unfoldable pub kind_of_word : List ℕ → Kind
kind_of_word word =
    cond (same_word word (ascii "--")) Ends
    (cond (same_word word (ascii "--help")) Help
    (cond (same_word word (ascii "--version")) Version
    (cond (is_option word) Option Name)))

-- behind `--` each word is a name
unfoldable pub kind_of_word_at : Bool → List ℕ → Kind
kind_of_word_at ended word = cond ended Name (kind_of_word word)

-- the file that the word at a place names
unfoldable pub named_at : ℕ → List ℕ → Named
named_at at word = cond (same_word word (ascii "-")) Input (Argument at)

-- what is said of words that are wrong
unfoldable pub wrong_text : Wrong → List ℕ
wrong_text UnknownOption = ascii "unknown option"
wrong_text TwoNames = ascii "more than one file name"
