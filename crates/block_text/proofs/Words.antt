-- A line that starts with a word: the definition is that its first bytes are the word's.
use mathlib.Core.Path.{◌≡◌, refl, ap}
use mathlib.Core.Bool.{Bool, true, false, ◌&&◌}
use mathlib.Core.List.{List, [], ◌∷◌}
use Prim.Native.Nat.{ℕ}
use Prim.Native.Nat.compare
use native.Mathlib.Omega.{arith}
use lib.Dec.{eqb}
use lib.ListN.{length, take}
use lib.Pointwise.{pointwise}
use borrow.Author.Tests.{ne_eqb}
use Rattle.block_text.specs.Lines.{starts_with}

-- the first bytes are compared with the word
pub same_start : (word line : List ℕ) → pointwise eqb (take (length word) line) word ≡ starts_with word line
unfolding starts_with
same_start [] line = refl
same_start (w ∷ word) [] = refl
same_start (w ∷ word) (b ∷ line) = ap (λ (x : Bool). eqb b w && x) (same_start word line)

-- a line that is the word
pub is_word : (word line : List ℕ) → pointwise eqb line word ≡ (starts_with word line && eqb (length line) (length word))
unfolding starts_with
is_word [] [] = refl
is_word [] (b ∷ line) = rw (ne_eqb (length (b ∷ line)) 0 (λ e. omega (arith, e)))
is_word (w ∷ word) [] = refl
is_word (w ∷ word) (b ∷ line) = rw (compare.suc-suc (length line) (length word)) (go (eqb b w) (is_word word line))
  where
    go : (x : Bool) → pointwise eqb line word ≡ (starts_with word line && eqb (length line) (length word))
        → (x && pointwise eqb line word) ≡ ((x && starts_with word line) && eqb (length line) (length word))
    go true e = e
    go false e = refl
