-- The pieces of a line, one behind the other, are its fields. Assumes nothing.
use Prim.Native.Nat.{ℕ}
use mathlib.Core.Path.{◌≡◌, refl, ap, ◌∙◌}
use mathlib.Core.List.{List, [], ◌∷◌, ◌++◌, append_assoc, append-nil}
use Rattle.text.specs.Text.{cut, ascii, decimal}
use Rattle.text.proofs.Cutting.{onto}
use Rattle.slot_text.specs.declared.Form.{Form}
use Rattle.slot_text.specs.declared.Form.TheVariants.{Plain, Json}
use Rattle.slot_text.specs.Fields.{Field, number_field, word_field, by_form, quote, equals, separator, opening, closing, quoted, value_text, field_text, fields_text, field_line}

-- a piece behind what stands behind t, where both come to d
pub pieces : {u v d : List ℕ} (t a b : List ℕ) → u ≡ cut (t ++ a) → v ≡ cut (u ++ b) → a ++ b ≡ d → v ≡ cut (t ++ d)
pieces t a b e f g = onto t a b e f ∙ ap (λ (l : List ℕ). cut (t ++ l)) g

pub name_piece : (form : Form) (p n : List ℕ) → ((quote form ++ p) ++ n) ++ by_form form (ascii "=") (ascii "\":") ≡ quoted form (p ++ n) ++ equals form
unfolding by_form quoted ascii
name_piece Plain p n = simp append-nil
name_piece Json p n = simp append_assoc

pub lead_piece : (form : Form) (name : List ℕ) → (separator form ++ (quoted form name ++ equals form)) ++ quote form ≡ separator form ++ (quoted form name ++ equals form ++ quote form)
lead_piece form name = simp append_assoc

pub number_piece : (form : Form) (name : List ℕ) (n : ℕ) → (quoted form name ++ equals form) ++ decimal 20 n ≡ field_text form (number_field name n)
unfolding field_text value_text
number_piece form name n = append_assoc (quoted form name) (equals form) (decimal 20 n)

pub word_piece : (form : Form) (name w : List ℕ) → ((separator form ++ (quoted form name ++ equals form ++ quote form)) ++ w) ++ quote form ≡ fields_text form (word_field name w ∷ [])
unfolding fields_text field_text value_text quoted
word_piece form name w = simp (append_assoc, append-nil)

-- a word behind what leads up to it
pub worded : {u v w : List ℕ} (form : Form) (t name word : List ℕ) → u ≡ cut (t ++ (separator form ++ (quoted form name ++ equals form ++ quote form))) → v ≡ cut (u ++ word)
    → w ≡ cut (v ++ quote form) → w ≡ cut (t ++ fields_text form (word_field name word ∷ []))
worded form t name word e f g = pieces t _ _ (onto t _ _ e f) g (word_piece form name word)

pub next_piece : (form : Form) (f : Field) → separator form ++ field_text form f ≡ fields_text form (f ∷ [])
unfolding fields_text
next_piece form f = simp append-nil

pub fields_append : (form : Form) (fs gs : List Field) → fields_text form fs ++ fields_text form gs ≡ fields_text form (fs ++ gs)
unfolding fields_text
fields_append form [] gs = refl
fields_append form (f ∷ fs) gs = simp append_assoc (ap (λ (l : List ℕ). separator form ++ (field_text form f ++ l)) (fields_append form fs gs))

pub whole_line : (form : Form) (f g : Field) (fs gs hs : List Field)
    → (((((opening form ++ field_text form f) ++ fields_text form (g ∷ [])) ++ fields_text form fs) ++ fields_text form gs) ++ fields_text form hs) ++ closing form
    ≡ field_line form f (g ∷ (fs ++ gs ++ hs))
unfolding field_line
whole_line form f g fs gs hs = rw (← fields_append form (g ∷ []) (fs ++ gs ++ hs), ← fields_append form (fs ++ gs) hs, ← fields_append form fs gs) (simp append_assoc)
