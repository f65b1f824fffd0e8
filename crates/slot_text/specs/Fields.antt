-- A line of named values, as text or as an object of JSON (RFC 8259). Definitions only.
use Rattle.std.specs.Prelude.{ℕ, List, [], ◌∷◌, ◌++◌}
use Rattle.text.specs.Text.{ascii, decimal}
use Rattle.slot_text.specs.declared.Form.{Form}
use Rattle.slot_text.specs.declared.Form.TheVariants.{Plain, Json}

-- a value: a number, or the characters of a word
pub data FieldValue : Type 0 where
  number : ℕ → FieldValue
  word : List ℕ → FieldValue

pub record Field : Type 0 where
  pub name : List ℕ
  pub value : FieldValue

abbrev pub number_field : List ℕ → ℕ → Field
number_field name n = record { name = name; value = number n }

abbrev pub word_field : List ℕ → List ℕ → Field
word_field name w = record { name = name; value = word w }

-- one of two, by the form
unfoldable pub by_form : {A : Type 0} → Form → A → A → A
by_form Plain plain json = plain
by_form Json plain json = json

-- what stands around names and words
abbrev pub quote : Form → List ℕ
quote form = by_form form [] (ascii "\"")

-- between a name and its value
abbrev pub equals : Form → List ℕ
equals form = by_form form (ascii "=") (ascii ":")

-- between two fields
abbrev pub separator : Form → List ℕ
separator form = by_form form (ascii " ") (ascii ",")

-- before the first field and behind the last
abbrev pub opening : Form → List ℕ
opening form = by_form form [] (ascii "{")

abbrev pub closing : Form → List ℕ
closing form = by_form form (ascii "\n") (ascii "}\n")

unfoldable pub quoted : Form → List ℕ → List ℕ
quoted form w = quote form ++ (w ++ quote form)

unfoldable pub value_text : Form → FieldValue → List ℕ
value_text form (number n) = decimal 20 n
value_text form (word w) = quoted form w

unfoldable pub field_text : Form → Field → List ℕ
field_text form f = quoted form f.name ++ (equals form ++ value_text form f.value)

-- fields behind another
unfoldable pub fields_text : Form → List Field → List ℕ
fields_text form [] = []
fields_text form (f ∷ fs) = separator form ++ (field_text form f ++ fields_text form fs)

-- the line of a field and those behind it
unfoldable pub field_line : Form → Field → List Field → List ℕ
field_line form f fs = opening form ++ (field_text form f ++ (fields_text form fs ++ closing form))
