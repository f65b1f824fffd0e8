-- A text with bytes behind it, cut to 2,048. Assumes nothing.
use mathlib.Core.Path.{◌≡◌, sym, ap, ◌∙◌}
use mathlib.Core.Logic.{⊎_elim}
use mathlib.Core.List.{List, [], ◌∷◌, ◌++◌, map}
use Prim.Native.Nat.{ℕ, ◌+◌, ◌-◌, ◌≤◌, ◌<◌, min}
use native.Mathlib.Omega.{arith}
use native.Mathlib.Numerals.{add-one}
use lib.ListN.{get_or, length, set, take, drop, replicate, length-map, get_or-map}
use lib.Seq.{drop-drop, take_all, take-suc, take-suc-set, take-take, take-append-le, take-append-add, length-take-le}
use Rattle.std.proofs.lemmas.List.{drop-replicate}
use Rattle.dsp_types.proofs.RingLaws.{le_or_lt}
use Rattle.text.specs.Text.{cut, character_of}

-- no more than a list has
take_least : {A : Type 0} (l : List A) (n : ℕ) → take (min (length l) n) l ≡ take n l
take_least l n =
    ⊎_elim
    (λ (h : length l ≤ n). let e : min (length l) n ≡ length l = omega arith in rw e (take_all (length l) l (omega arith) ∙ sym (take_all n l h)))
    (λ (h : n < length l). let e : min (length l) n ≡ n = omega arith in rw e)
    (le_or_lt (length l) n)

pub appended : {w t : List ℕ} (bytes s : List ℕ) (len count : ℕ) → len ≤ length bytes → count ≡ min (length s) (2048 - len) → len ≤ 2048 → take len bytes ≡ t
    → w ≡ take len bytes ++ take count s → w ≡ cut (t ++ s)
unfolding cut
appended bytes s len count h c l k e =
    let m : 2048 ≡ length (take len bytes) + (2048 - len) = omega (arith, length-take-le len bytes h) in
    e ∙ rw (c, take_least s (2048 - len), ← k) (sym (ap (λ (x : ℕ). take x (take len bytes ++ s)) m ∙ take-append-add (take len bytes) s (2048 - len)))

-- what is behind is 0 still
pub zeros_behind : {w : List ℕ} (bytes : List ℕ) (len count : ℕ) → drop len bytes ≡ replicate (2048 - len) 0 → w ≡ drop (len + count) bytes → w ≡ replicate (2048 - (len + count)) 0
zeros_behind bytes len count z e =
    let m : 2048 - len - count ≡ 2048 - (len + count) = omega arith in
    e ∙ rw (← drop-drop count len bytes, z, drop-replicate {X = ℕ} count (2048 - len) 0) (ap (λ (n : ℕ). replicate n 0) m)

-- bytes that are cut off need not be there
pub cut_least : (t s : List ℕ) (n : ℕ) → n ≡ min (length s) 2048 → cut (t ++ take n s) ≡ cut (t ++ s)
unfolding cut
cut_least t s n e =
    rw (e, take_least s 2048)
    (⊎_elim
    (λ (h : length t ≤ 2048). seam (take 2048 s) h ∙ ap (λ (r : List ℕ). t ++ r) (take-take (2048 - length t) 2048 s (omega arith)) ∙ sym (seam s h))
    (λ (h : 2048 < length t). take-append-le 2048 t (take 2048 s) (omega arith) ∙ sym (take-append-le 2048 t s (omega arith)))
    (le_or_lt (length t) 2048))
  where
    seam : (r : List ℕ) → length t ≤ 2048 → take 2048 (t ++ r) ≡ t ++ take (2048 - length t) r
    seam r h =
        let m : 2048 ≡ length t + (2048 - length t) = omega arith in
        ap (λ (x : ℕ). take x (t ++ r)) m ∙ take-append-add t r (2048 - length t)

-- a character more
pub character_turn : (bits w : List ℕ) (i x : ℕ) → i < length bits → i < length w → x ≡ character_of (get_or bits i 0) → take i w ≡ take i (map character_of bits)
    → take (i + 1) (set w i x) ≡ take (i + 1) (map character_of bits)
unfolding character_of
character_turn bits w i x h k e inv =
    rw (add-one i, take-suc-set w i x k, take-suc (map character_of bits) i 48 (omega (arith, length-map bits character_of)), inv, e)
    (ap (λ (c : ℕ). take i (map character_of bits) ++ (c ∷ [])) (sym (get_or-map character_of bits i 0)))
