-- A slot's line is short: nothing of it is cut. Assumes nothing.
use Prim.Native.Nat.{ℕ, ◌+◌, ◌*◌, ◌≤◌}
use lib.Signed.{mag}
use mathlib.Core.Path.{◌≡◌}
use mathlib.Core.Bool.{Bool, true, false, cond}
use mathlib.Core.List.{List, [], ◌∷◌, ◌++◌, map}
use native.Mathlib.Omega.{arith}
use lib.Dec.{eqb}
use lib.ListN.{length, length-append, length-map}
use Rattle.text.specs.Text.{ascii, cut, character_of, type_name}
use Rattle.text.proofs.Decimal.{length_decimal}
use Rattle.text.proofs.Cutting.{short}
use Rattle.text.proofs.Names.{length_name}
use Rattle.rx_slot.specs.Views.{BurstView}
use Rattle.rx_slot.specs.Slots.{HandedSlot}
use Rattle.slot_text.specs.declared.Form.{Form}
use Rattle.slot_text.specs.declared.Form.TheVariants.{Plain, Json}
use Rattle.slot_text.specs.declared.Link.{Link}
use Rattle.slot_text.specs.declared.Link.TheVariants.{Alone, Down, Up}
use Rattle.slot_text.specs.Fields.{Field, number_field, word_field, by_form, quote, equals, separator, opening, closing, quoted, value_text, field_text, fields_text, field_line}
use Rattle.slot_text.specs.Lines.{link_fields, bits_fields, burst_fields, half_fields, slot_line}
use Rattle.slot_text.proofs.Pieces.{fields_append}

-- so long a name and a value at most
record Marks (form : Form) : Type 0 where
  pub quotes : length (quote form) ≤ 1
  pub equal : length (equals form) ≤ 1
  pub apart : length (separator form) ≤ 1
  pub before : length (opening form) ≤ 1
  pub behind : length (closing form) ≤ 2

marks : (form : Form) → Marks form
unfolding by_form ascii
marks Plain = record { quotes = omega arith; equal = omega arith; apart = omega arith; before = omega arith; behind = omega arith }
marks Json = record { quotes = omega arith; equal = omega arith; apart = omega arith; before = omega arith; behind = omega arith }

length_quoted : (form : Form) (w : List ℕ) → length (quoted form w) ≤ 2 + length w
unfolding quoted
length_quoted form w = simp length-append (omega (arith, marks form))

length_number : (form : Form) (name : List ℕ) (n : ℕ) → length (field_text form (number_field name n)) ≤ 23 + length name
unfolding field_text value_text
length_number form name n = simp length-append (omega (arith, marks form, length_quoted form name, length_decimal 20 n))

length_word : (form : Form) (name w : List ℕ) → length (field_text form (word_field name w)) ≤ 5 + length name + length w
unfolding field_text value_text
length_word form name w = simp length-append (omega (arith, marks form, length_quoted form name, length_quoted form w))

length_behind : (form : Form) (f : Field) (fs : List Field) {n m : ℕ} → length (field_text form f) ≤ n → length (fields_text form fs) ≤ m → length (fields_text form (f ∷ fs)) ≤ 1 + n + m
unfolding fields_text
length_behind form f fs h k = simp length-append (omega (arith, marks form))

none : (form : Form) → length (fields_text form []) ≤ 0
unfolding fields_text
none form = omega arith

length_link : (form : Form) (link : Link) → length (fields_text form (link_fields link)) ≤ 14
unfolding link_fields ascii
length_link form Alone = omega (arith, none form)
length_link form Down = omega (arith, length_behind form _ [] (length_word form (ascii "link") (ascii "down")) (none form))
length_link form Up = omega (arith, length_behind form _ [] (length_word form (ascii "link") (ascii "up")) (none form))

length_bits : (form : Form) (has_bits : Bool) (prefix bits : List ℕ) → length (fields_text form (bits_fields has_bits prefix bits)) ≤ 10 + length prefix + length bits
unfolding bits_fields ascii
length_bits form has_bits prefix bits = go (eqb (length bits) 0) has_bits
  where
    go : (b c : Bool) → length (fields_text form (cond b [] (cond c (word_field (prefix ++ ascii "bits") (map character_of bits) ∷ []) []))) ≤ 10 + length prefix + length bits
    go true c = omega (arith, none form)
    go false false = omega (arith, none form)
    go false true =
        omega
        (arith, length_behind form _ [] (length_word form (prefix ++ ascii "bits") (map character_of bits)) (none form), length-append prefix (ascii "bits"), length-map bits character_of)

length_burst : (form : Form) (has_bits : Bool) (prefix : List ℕ) (v : BurstView) → length (fields_text form (burst_fields has_bits prefix v)) ≤ 64 + 3 * length prefix + length v.bits
unfolding burst_fields ascii
length_burst form has_bits prefix v =
    omega (
      arith,
      length_behind form _ _ (length_word form (prefix ++ ascii "type") (type_name v.type)) (length_behind form _ _ (length_number form (prefix ++ ascii "errors") v.errors) (length_bits form has_bits prefix v.bits)),
      length-append prefix (ascii "type"),
      length-append prefix (ascii "errors"),
      length_name v.type,
    )

length_halves : (form : Form) (has_bits : Bool) (link : Link) (v w : BurstView) → length (fields_text form (half_fields has_bits link v w)) ≤ 164 + length v.bits + length w.bits
unfolding half_fields ascii
length_halves form has_bits Alone v w = omega (arith, none form)
length_halves form has_bits Down v w = omega (arith, none form)
length_halves form has_bits Up v w =
    rw (← fields_append form (burst_fields has_bits (ascii "half1_") v) (burst_fields has_bits (ascii "half2_") w), length-append)
    (omega (arith, length_burst form has_bits (ascii "half1_") v, length_burst form has_bits (ascii "half2_") w))

length_slot : (form : Form) (has_bits : Bool) (link : Link) (h : HandedSlot)
    → length (fields_text form (link_fields link ++ burst_fields has_bits [] h.full ++ half_fields has_bits link h.subslot1 h.subslot2))
    ≤ 242 + length h.full.bits + length h.subslot1.bits + length h.subslot2.bits
length_slot form has_bits link h =
    rw (← fields_append form (link_fields link ++ burst_fields has_bits [] h.full) (half_fields has_bits link h.subslot1 h.subslot2), ← fields_append form (link_fields link) (burst_fields has_bits [] h.full))
    (simp length-append (omega (arith, length_link form link, length_burst form has_bits [] h.full, length_halves form has_bits link h.subslot1 h.subslot2)))

-- a slot's line is not cut
pub not_cut : (form : Form) (has_bits : Bool) (link : Link) (h : HandedSlot) → length h.full.bits ≤ 510 → length h.subslot1.bits ≤ 254 → length h.subslot2.bits ≤ 254
    → cut (slot_line form has_bits link h) ≡ slot_line form has_bits link h
unfolding slot_line field_line ascii
not_cut form has_bits link h b b₁ b₂ =
    short _
    (simp length-append
    (omega (
      arith,
      marks form,
      length_number form (ascii "slot") h.time,
      length_behind form _ _ (length_number form (ascii "sample") (mag h.closing_counter)) (length_slot form has_bits link h),
    )))
