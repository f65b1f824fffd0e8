-- Inputs with the same listing, whatever follows: too many characters are too many, and behind another letter only a wrong character counts.
use mathlib.Core.Path.{◌≡◌, refl, sym, ap, ◌∙◌, subst}
use mathlib.Core.Bool.{Bool, true, false, cond, ◌||◌, or_assoc, or-true}
use mathlib.Core.List.{List, [], ◌∷◌, ◌++◌}
use Prim.Native.Nat.{ℕ, ◌+◌, ◌≤◌, ◌<◌}
use native.Mathlib.Numerals.{add-one}
use native.Mathlib.Omega.{arith}
use lib.Dec.{eqb}
use lib.ListN.{length, take, drop, get_or, set, length-append, length-drop, drop_of_length-le}
use lib.Seq.{append_snoc, take-suc-set, set_at, split_at, length-take-le, take_all}
use borrow.Author.Tests.{ne_eqb}
use Rattle.dsp_types.specs.Refusals.{wrong_length}
use Rattle.slotter.specs.Bursts.{refusal}
use Rattle.text.specs.Text.{trimmed}
use Rattle.text.proofs.Trimming.{trimmed_append, trimmed_length}
use Rattle.block_text.specs.BlockText.{letter_type, wanted, not_character, not_characters, wrong_count, characters_refusal, answer_of}
use Rattle.block_text.proofs.Blocks.{wanted_most}
use Rattle.lister.specs.Listing.{listed_answer, listed, listing}

-- room for one more
pub one_more : (B : List ℕ) (n b : ℕ) → n < length B → (t : List ℕ) → listing (take (n + 1) (set B n b) ++ t) ≡ listing (take n B ++ (b ∷ t))
one_more B n b h t = ap listing (rw (add-one n, take-suc-set B n b h) (append_snoc (take n B) b t))

-- ---- a letter and more characters than any type has

-- the answer by the letter, and by whether a character is wrong
long_answer : (k : ℕ) (cs : List ℕ) → 463 ≤ length cs → answer_of k cs ≡ refusal (cond (eqb k 0) (cond (not_characters cs) 4 5) 3)
unfolding answer_of characters_refusal wrong_count wrong_length
long_answer k cs h =
    go (eqb k 0) (not_characters cs) refl refl (ne_eqb (length cs) (wanted k) (λ (e : length cs ≡ wanted k). omega (arith, e, wanted_most k)))
  where
    go : (a b : Bool) → eqb k 0 ≡ a → not_characters cs ≡ b → eqb (length cs) (wanted k) ≡ false → answer_of k cs ≡ refusal (cond a (cond b 4 5) 3)
    go true true e f w = rw (e, f)
    go true false e f w = rw (e, f)
    go false b e f w = rw (w, e)

judged : (l : ℕ) (xs : List ℕ) → 464 ≤ length xs → listing (l ∷ xs) ≡ listed_answer (letter_type l) (refusal (cond (eqb (letter_type l) 0) (cond (not_characters (trimmed 10 xs)) 4 5) 3))
unfolding listing listed trimmed
judged l [] h = absurd (omega arith)
judged l (x ∷ xs) h = ap (listed_answer (letter_type l)) (long_answer (letter_type l) (trimmed 10 (x ∷ xs)) (omega (arith, trimmed_length 10 (x ∷ xs))))

same : (l : ℕ) (xs ys : List ℕ) → 464 ≤ length xs → 464 ≤ length ys → not_characters (trimmed 10 xs) ≡ not_characters (trimmed 10 ys) → listing (l ∷ xs) ≡ listing (l ∷ ys)
same l xs ys h k e = judged l xs h ∙ rw e (sym (judged l ys k))

not_append : (xs ys : List ℕ) → not_characters (xs ++ ys) ≡ (not_characters xs || not_characters ys)
unfolding not_characters
not_append [] ys = refl
not_append (x ∷ xs) ys = ap (λ (b : Bool). not_character x || b) (not_append xs ys) ∙ sym (or_assoc (not_character x) (not_characters xs) (not_characters ys))

-- the last character p, and then b: what is kept is b and whether p counts
module _ (l x p b : ℕ) (ys t : List ℕ) (n : length ys ≡ 462) where
  abbrev T : List ℕ
  T = trimmed 10 (b ∷ t)

  before : not_characters (trimmed 10 ((x ∷ ys) ++ (p ∷ b ∷ t))) ≡ (not_characters (x ∷ ys) || (not_character p || not_characters T))
  unfolding trimmed not_characters
  before = ap not_characters (trimmed_append 10 (x ∷ ys) p (b ∷ t)) ∙ not_append (x ∷ ys) (p ∷ T)

  after : (c : ℕ) → not_characters (trimmed 10 ((c ∷ ys) ++ (b ∷ t))) ≡ (not_characters (c ∷ ys) || not_characters T)
  after c = ap not_characters (trimmed_append 10 (c ∷ ys) b t) ∙ not_append (c ∷ ys) T

  kept : (c : ℕ) → not_characters (trimmed 10 ((c ∷ ys) ++ (b ∷ t))) ≡ not_characters (trimmed 10 ((x ∷ ys) ++ (p ∷ b ∷ t)))
      → listing (l ∷ c ∷ (ys ++ (b ∷ [])) ++ t) ≡ listing (l ∷ x ∷ (ys ++ (p ∷ [])) ++ (b ∷ t))
  kept c e =
      ap (λ (r : List ℕ). listing (l ∷ c ∷ r)) (append_snoc ys b t)
      ∙ same l ((c ∷ ys) ++ (b ∷ t)) ((x ∷ ys) ++ (p ∷ b ∷ t)) (omega (arith, length-append ys (b ∷ t))) (omega (arith, length-append ys (p ∷ b ∷ t))) e
      ∙ sym (ap (λ (r : List ℕ). listing (l ∷ x ∷ r)) (append_snoc ys p (b ∷ t)))

  fine : not_character p ≡ false → listing (l ∷ x ∷ (ys ++ (b ∷ [])) ++ t) ≡ listing (l ∷ x ∷ (ys ++ (p ∷ [])) ++ (b ∷ t))
  fine e = kept x (after x ∙ sym (before ∙ rw e))

  wrong : not_character p ≡ true → listing (l ∷ p ∷ (ys ++ (b ∷ [])) ++ t) ≡ listing (l ∷ x ∷ (ys ++ (p ∷ [])) ++ (b ∷ t))
  unfolding not_characters
  wrong e = kept p (after p ∙ rw e (sym (before ∙ rw e (or-true (not_characters (x ∷ ys))))))

-- a list of 465 bytes by its ends
ends : (B : List ℕ) → length B ≡ 465 → B ≡ get_or B 0 0 ∷ get_or B 1 0 ∷ (take 462 (drop 2 B) ++ (get_or B 464 0 ∷ []))
ends [] n = absurd (omega arith)
ends (x ∷ []) n = absurd (omega arith)
ends (x ∷ y ∷ zs) n =
    ap (λ (r : List ℕ). x ∷ y ∷ r)
    (split_at zs 462 0 (omega arith) ∙ ap (λ (r : List ℕ). take 462 zs ++ (get_or zs 462 0 ∷ r)) (drop_of_length-le zs {i = 463} (omega arith)))

pub last_fine : (B : List ℕ) (b : ℕ) → length B ≡ 465 → not_character (get_or B 464 0) ≡ false → (t : List ℕ)
    → listing (set B 464 b ++ t) ≡ listing (B ++ (b ∷ t))
last_fine B b n e t =
    let ys : List ℕ = take 462 (drop 2 B) in
    let k : length ys ≡ 462 = length-take-le 462 (drop 2 B) (omega (arith, length-drop 2 B)) in
    subst (λ (L : List ℕ). listing (set L 464 b ++ t) ≡ listing (L ++ (b ∷ t))) (sym (ends B n))
    (rw (set_at ys (get_or B 464 0) [] b 462 k) (fine (get_or B 0 0) (get_or B 1 0) (get_or B 464 0) b ys t k e))

pub last_wrong : (B : List ℕ) (b : ℕ) → length B ≡ 465 → not_character (get_or B 464 0) ≡ true → (t : List ℕ)
    → listing (set (set B 1 (get_or B 464 0)) 464 b ++ t) ≡ listing (B ++ (b ∷ t))
last_wrong B b n e t =
    let ys : List ℕ = take 462 (drop 2 B) in
    let p : ℕ = get_or B 464 0 in
    let k : length ys ≡ 462 = length-take-le 462 (drop 2 B) (omega (arith, length-drop 2 B)) in
    subst (λ (L : List ℕ). listing (set (set L 1 (get_or B 464 0)) 464 b ++ t) ≡ listing (L ++ (b ∷ t))) (sym (ends B n))
    (rw (set_at ys (get_or B 464 0) [] b 462 k) (wrong (get_or B 0 0) (get_or B 1 0) (get_or B 464 0) b ys t k e))

-- the same of what is kept, where that is all
pub whole : (B W : List ℕ) (n b : ℕ) → length B ≤ n → length W ≤ n → ((t : List ℕ) → listing (W ++ t) ≡ listing (B ++ (b ∷ t)))
    → (t : List ℕ) → listing (take n W ++ t) ≡ listing (take n B ++ (b ∷ t))
whole B W n b h k e t = rw (take_all n W k, take_all n B h) (e t)
