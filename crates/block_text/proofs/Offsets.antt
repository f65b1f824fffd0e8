-- The first word of a text and what stands behind it, as the code finds them; the offset that a word is.
use mathlib.Core.Path.{◌≡◌, refl, sym, ap, ◌∙◌}
use mathlib.Core.Bool.{Bool, true, false, cond}
use mathlib.Core.List.{List, [], ◌∷◌, ◌++◌}
use Prim.Native.Nat.{ℕ, suc, ◌+◌, ◌≤◌, ◌<◌}
use native.Mathlib.Omega.{arith}
use lib.Dec.{eqb, ltb}
use lib.ListN.{length, take, drop, drop_of_length-le}
use lib.Seq.{drop-drop, take_all}
use borrow.Author.Tests.{ltb-true, ltb-false}
use Rattle.std.specs.Prelude.{Option, None, Some, MatchOption}
use Rattle.std.specs.List.{position, position_or_len}
use Rattle.std.proofs.lemmas.List.Recursion.{is_position_or_len}
use Rattle.block_text.specs.UplinkLines.{first_word, after_word, offset_of, not_offset}

-- ---- the word and the rest, by the word's length

pub word : (text : List ℕ) → take (length (first_word text)) text ≡ first_word text
unfolding first_word
word [] = refl
word (c ∷ text) = go (word text) (eqb c 32)
  where
    go : take (length (first_word text)) text ≡ first_word text → (b : Bool) → take (length (cond b [] (c ∷ first_word text))) (c ∷ text) ≡ cond b [] (c ∷ first_word text)
    go e true = refl
    go e false = ap (λ (l : List ℕ). c ∷ l) e

pub rest : (text : List ℕ) → drop 1 (drop (length (first_word text)) text) ≡ after_word text
unfolding first_word after_word
rest [] = refl
rest (c ∷ text) = go (rest text) (eqb c 32)
  where
    go : drop 1 (drop (length (first_word text)) text) ≡ after_word text → (b : Bool) → drop 1 (drop (length (cond b [] (c ∷ first_word text))) (c ∷ text)) ≡ cond b text (after_word text)
    go e true = refl
    go e false = e

-- ---- the search for the first blank

unfoldable pub blank : ℕ → Bool
blank c = eqb c 32

place : (text : List ℕ) → length (first_word text) ≡ position_or_len blank text
unfolding first_word blank
place text = is_position_or_len (λ t. length (first_word t)) blank refl step text
  where
    step : (c : ℕ) (text : List ℕ) → length (first_word (c ∷ text)) ≡ cond (blank c) 0 (1 + length (first_word text))
    step c text = go (eqb c 32)
      where
        go : (b : Bool) → length (cond b [] (c ∷ first_word text)) ≡ cond b 0 (1 + length (first_word text))
        go true = refl
        go false = omega arith

-- what the place of the first blank says of the word and the rest
pub parted : (text : List ℕ) (r : Option ℕ) → r ≡ position blank text
    → MatchOption r ((first_word text ≡ text) × (after_word text ≡ [])) (λ at. (at < length text) × (take at text ≡ first_word text) × (drop (at + 1) text ≡ after_word text))
unfolding blank
parted text r e = rw e (go (ltb (position_or_len blank text) (length text)) refl)
  where
    go : (b : Bool) → ltb (position_or_len blank text) (length text) ≡ b
        → MatchOption (cond b (Some (position_or_len blank text)) None) ((first_word text ≡ text) × (after_word text ≡ [])) (λ at. (at < length text) × (take at text ≡ first_word text) × (drop (at + 1) text ≡ after_word text))
    go true h = (ltb-true _ _ h, rw (← place text) (word text), rw (← drop-drop 1 (position_or_len blank text) text, ← place text) (rest text))
    go false h =
        let k : length text ≤ (position_or_len blank text) = ltb-false (position_or_len blank text) (length text) h in
        let w = place text in (
          sym (rw w at (word text)) ∙ take_all (position_or_len blank text) text k,
          sym (rw w at (rest text)) ∙ rw (drop_of_length-le text {i = (position_or_len blank text)} k) refl,
        )

-- ---- a long text

-- three bytes decide on the offset
pub same_offset : (l r : List ℕ) → 3 ≤ length l → offset_of (first_word (l ++ r)) ≡ offset_of (first_word l)
unfolding first_word offset_of
same_offset [] r h = absurd (omega arith)
same_offset (a ∷ []) r h = absurd (omega arith)
same_offset (a ∷ b ∷ []) r h = absurd (omega arith)
same_offset (a ∷ b ∷ c ∷ l) r h = go (eqb a 32) (eqb b 32) (eqb c 32)
  where
    go : (x y z : Bool) → offset_of (cond x [] (a ∷ cond y [] (b ∷ cond z [] (c ∷ first_word (l ++ r))))) ≡ offset_of (cond x [] (a ∷ cond y [] (b ∷ cond z [] (c ∷ first_word l))))
    go true y z = refl
    go false true z = refl
    go false false true = refl
    go false false false = refl

-- behind an offset and its blank three bytes are missing at most
pub left : (l : List ℕ) → 3 ≤ length l → not_offset (offset_of (first_word l)) ≡ false → length l ≤ 3 + length (after_word l)
unfolding first_word after_word offset_of not_offset
left [] h e = absurd (omega arith)
left (a ∷ []) h e = absurd (omega arith)
left (a ∷ b ∷ []) h e = absurd (omega arith)
left (a ∷ b ∷ c ∷ l) h e = go (eqb a 32) (eqb b 32) (eqb c 32) e
  where
    go : (x y z : Bool) → not_offset (offset_of (cond x [] (a ∷ cond y [] (b ∷ cond z [] (c ∷ first_word l))))) ≡ false
        → suc (suc (suc (length l))) ≤ 3 + length (cond x (b ∷ c ∷ l) (cond y (c ∷ l) (cond z l (after_word l))))
    go true y z e = omega arith
    go false true z e = omega arith
    go false false true e = omega arith
    go false false false e = absurd (let k : ◌≡◌ {A = ℕ} 0 1 = cc in omega arith)
