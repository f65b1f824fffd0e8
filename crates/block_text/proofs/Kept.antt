-- What a long line comes to is decided by its first bytes. Assumes nothing.
use Prim.Native.Nat.{ℕ, ◌+◌, ◌-◌, ◌≤◌}
use mathlib.Core.Path.{◌≡◌, refl, sym, ap, ◌∙◌}
use mathlib.Core.Bool.{Bool, true, false, not, cond, ◌&&◌}
use mathlib.Core.List.{List, [], ◌∷◌, ◌++◌, append_assoc}
use native.Mathlib.Omega.{arith}
use lib.Dec.{eqb}
use lib.ListN.{length, take, drop, get_or, length-append, length-drop}
use lib.Seq.{append_snoc, split_at, length-take-le, drop-append-le}
use borrow.Author.Tests.{ne_eqb}
use Rattle.dsp_types.specs.Refusals.{wrong_length}
use Rattle.slotter.specs.Bursts.{refusal}
use Rattle.text.specs.Text.{ascii, trimmed}
use Rattle.text.proofs.Trimming.{trimmed_append}
use Rattle.block_text.specs.BlockText.{wanted, not_characters, wrong_count, characters_refusal, answer_of}
use Rattle.block_text.specs.UplinkLines.{first_word, after_word, offset_of, not_offset, uplink_wanted, uplink_slot}
use Rattle.block_text.specs.declared.slot.Complaint.TheVariants.{NotBits, Offset}
use Rattle.block_text.specs.Lines.{Wish, starts_with, none, silence, burst, uplink, unknown, asked_uplink, asked, Sent, passed, reported, answered, refused, placed, length_complaint, uplink_sent, sent_for, sent_of}
use Rattle.block_text.proofs.Blocks.{wanted_most, uplink_most}
use Rattle.block_text.proofs.Offsets.{same_offset, left}

starts : (word line rest : List ℕ) → length word ≤ length line → starts_with word (line ++ rest) ≡ starts_with word line
unfolding starts_with
starts [] line rest h = refl
starts (w ∷ word) [] rest h = absurd (omega arith)
starts (w ∷ word) (b ∷ line) rest h = ap (λ (x : Bool). eqb b w && x) (starts word line rest (omega arith))

-- more characters than a burst has are refused for their number
too_many : (type : ℕ) (cs : List ℕ) → eqb type 0 ≡ false → 463 ≤ length cs → answer_of type cs ≡ refusal 3
unfolding answer_of characters_refusal wrong_count wrong_length
too_many type cs e h = rw (ne_eqb (length cs) (wanted type) (λ (w : length cs ≡ wanted type). omega (arith, w, wanted_most type)), e)

-- .. and those of an uplink's burst behind its offset, if that is one
too_long : (type : ℕ) (text : List ℕ) → 436 ≤ length text → sent_for (uplink type text) ≡ cond (not_offset (offset_of (first_word text))) (refused Offset) (refused (length_complaint type))
unfolding sent_for uplink_sent wrong_length
too_long type text h = go (not_offset (offset_of (first_word text))) refl
  where
    go : (b : Bool) → not_offset (offset_of (first_word text)) ≡ b → cond b (refused Offset) (cond (not (eqb (length (after_word text)) (uplink_wanted type))) (refused (length_complaint type))
        (cond (not_characters (after_word text)) (refused NotBits) (placed (uplink_slot type (offset_of (first_word text)) (after_word text))))) ≡ cond b (refused Offset) (refused (length_complaint type))
    go true e = refl
    go false e = rw (ne_eqb (length (after_word text)) (uplink_wanted type) (λ (w : length (after_word text) ≡ uplink_wanted type). omega (arith, w, uplink_most type, left text (omega arith) e)))

by_words : (a b c d e : Bool) (x y z : List ℕ) (w : Wish) → answer_of 4 x ≡ refusal 3 → answer_of 1 y ≡ refusal 3 → answer_of 2 z ≡ refusal 3
    → sent_for (cond a none (cond b (burst 4 x) (cond c (burst 1 y) (cond d (burst 2 z) (cond (e && false) silence w)))))
    ≡ cond a passed (cond b (answered 4 (refusal 3)) (cond c (answered 1 (refusal 3)) (cond d (answered 2 (refusal 3)) (sent_for w))))
unfolding sent_for
by_words true b c d e x y z w p q r = refl
by_words false true c d e x y z w p q r = ap (answered 4) p
by_words false false true d e x y z w p q r = ap (answered 1) q
by_words false false false true e x y z w p q r = ap (answered 2) r
by_words false false false false true x y z w p q r = refl
by_words false false false false false x y z w p q r = refl

-- an uplink line of 511 bytes and more, by these
module _ (line : List ℕ) (h : 511 ≤ length line) where
  abbrev told_of : ℕ → Sent
  told_of type = cond (not_offset (offset_of (first_word (drop 8 line)))) (refused Offset) (refused (length_complaint type))

  abbrev uplink_told : Sent
  uplink_told =
      cond (starts_with (ascii "uplink1 ") line) (told_of 1)
      (cond (starts_with (ascii "uplink2 ") line) (told_of 2)
      (cond (starts_with (ascii "control ") line) (told_of 3) reported))

  long_of : (rest : List ℕ) (type : ℕ) → sent_for (uplink type (drop 8 (line ++ rest))) ≡ told_of type
  long_of rest type =
      let n : length (drop 8 line) ≡ length line - 8 = length-drop 8 line in
      rw (drop-append-le 8 line rest (omega arith))
      (too_long type (drop 8 line ++ rest) (omega (arith, length-append (drop 8 line) rest)) ∙ rw (same_offset (drop 8 line) rest (omega arith)))

  long_uplink : (rest : List ℕ) → sent_for (asked_uplink (line ++ rest)) ≡ uplink_told
  unfolding asked_uplink sent_for ascii
  long_uplink rest = rw (
    starts (ascii "uplink1 ") line rest (omega arith),
    starts (ascii "uplink2 ") line rest (omega arith),
    starts (ascii "control ") line rest (omega arith),
  )
      (go (starts_with (ascii "uplink1 ") line) (starts_with (ascii "uplink2 ") line) (starts_with (ascii "control ") line))
    where
      go : (a b c : Bool) → sent_for (cond a (uplink 1 (drop 8 (line ++ rest))) (cond b (uplink 2 (drop 8 (line ++ rest))) (cond c (uplink 3 (drop 8 (line ++ rest))) unknown)))
          ≡ cond a (told_of 1) (cond b (told_of 2) (cond c (told_of 3) reported))
      go true b c = long_of rest 1
      go false true c = long_of rest 2
      go false false true = long_of rest 3
      go false false false = refl

-- any line of so many
module _ (line : List ℕ) (h : 511 ≤ length line) where
  abbrev told : Sent
  told =
      cond (starts_with (ascii "#") line) passed
      (cond (starts_with (ascii "sync ") line) (answered 4 (refusal 3))
      (cond (starts_with (ascii "normal1 ") line) (answered 1 (refusal 3))
      (cond (starts_with (ascii "normal2 ") line) (answered 2 (refusal 3)) (uplink_told line h))))

  long_told : (rest : List ℕ) → sent_for (asked (line ++ rest)) ≡ told
  unfolding asked sent_for ascii
  long_told rest =
      let n : length (line ++ rest) ≡ length line + length rest = length-append line rest in
      rw (
        ne_eqb (length (line ++ rest)) 0 (λ e. omega (arith, n, e)),
        ne_eqb (length (line ++ rest)) 5 (λ e. omega (arith, n, e)),
        starts (ascii "#") line rest (omega arith),
        starts (ascii "sync ") line rest (omega arith),
        starts (ascii "normal1 ") line rest (omega arith),
        starts (ascii "normal2 ") line rest (omega arith),
        starts (ascii "empty") line rest (omega arith),
      )
      (rw (← long_uplink line h rest) (by_words (starts_with (ascii "#") line) (starts_with (ascii "sync ") line) (starts_with (ascii "normal1 ") line) (starts_with (ascii "normal2 ") line) (starts_with (ascii "empty") line) _ _ _ (asked_uplink (line ++ rest))
      (too_many 4 (drop 5 (line ++ rest)) refl (omega (arith, n, length-drop 5 (line ++ rest))))
      (too_many 1 (drop 8 (line ++ rest)) refl (omega (arith, n, length-drop 8 (line ++ rest))))
      (too_many 2 (drop 8 (line ++ rest)) refl (omega (arith, n, length-drop 8 (line ++ rest))))))

-- of 512 bytes and more, whatever follows: the last may be the one that is dropped
long_line : (line : List ℕ) → 512 ≤ length line → (s t : List ℕ) → sent_of (line ++ s) ≡ sent_of (line ++ t)
unfolding sent_of
long_line line h s t = with_tail s ∙ sym (with_tail t)
  where
    with_tail : (r : List ℕ) → sent_for (asked (trimmed 13 (line ++ r))) ≡ told (take 511 line) (rw (length-take-le 511 line (omega arith)) (omega arith))
    with_tail r =
        ap (λ (l : List ℕ). sent_for (asked (trimmed 13 (l ++ r)))) (split_at line 511 0 (omega arith))
        ∙ ap (λ (l : List ℕ). sent_for (asked (trimmed 13 l))) (append_assoc (take 511 line) (get_or line 511 0 ∷ drop 512 line) r)
        ∙ ap (λ (l : List ℕ). sent_for (asked l)) (trimmed_append 13 (take 511 line) (get_or line 511 0) (drop 512 line ++ r))
        ∙ long_told (take 511 line) (rw (length-take-le 511 line (omega arith)) (omega arith)) (trimmed 13 (get_or line 511 0 ∷ (drop 512 line ++ r)))

-- a byte more, where there is room and where there is none
pub room : (kept : List ℕ) (b : ℕ) (t : List ℕ) → sent_of ((kept ++ (b ∷ [])) ++ t) ≡ sent_of (kept ++ (b ∷ t))
room kept b t = ap sent_of (append_snoc kept b t)

pub no_room : (kept : List ℕ) (b : ℕ) → length kept ≡ 512 → (t : List ℕ) → sent_of (kept ++ t) ≡ sent_of (kept ++ (b ∷ t))
no_room kept b h t = long_line kept (omega (arith, h)) t (b ∷ t)
