-- The tests of words are those of the definitions.
use Rattle.std.proofs.Common.{◌≡◌, ℕ, ◌<◌, ◌≤◌, Bool, false, ◌&&◌, eqb, List, [], ◌∷◌, length, ap, refl, ◌∙◌, arith}
use lib.Pointwise.{pointwise}
use Rattle.std.specs.List.{starts_with}
use Rattle.std.proofs.Math.Bool.{and-true}
use Rattle.std.proofs.lemmas.Grind.{common_steps}
use Rattle.program.specs.Words.{same_word, is_option}

-- the test of two slices is `same_word`
pub same_is : (word other : List ℕ) → pointwise eqb word other ≡ same_word word other
unfolding same_word
same_is [] [] = refl
same_is [] (c ∷ other) = refl
same_is (b ∷ word) [] = refl
same_is (b ∷ word) (c ∷ other) = ap (λ (s : Bool). eqb b c && s) (same_is word other)

pub short : (word : List ℕ) → length word ≤ 1 → false ≡ is_option word
unfolding is_option
short [] h = refl
short (b ∷ []) h = refl
short (b ∷ c ∷ rest) h = absurd (omega arith)

eqb_sym : (a b : ℕ) → eqb a b ≡ eqb b a
eqb_sym a b = grind (arith, common_steps)

pub long : (word : List ℕ) → 1 < length word → starts_with eqb word (45 ∷ []) ≡ is_option word
unfolding is_option
long [] h = absurd (omega arith)
long (b ∷ []) h = absurd (omega arith)
long (b ∷ c ∷ rest) h = and-true _ ∙ eqb_sym 45 b
