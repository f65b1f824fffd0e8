-- The line that is printed of a slot (man/tetra_rx.1). Definitions only.
use Rattle.std.specs.Prelude.{ℕ, Bool, cond, List, [], ◌∷◌, ◌++◌, map, eqb, length}
use Rattle.std.specs.Int.Signed.{mag}
use Rattle.text.specs.Text.{ascii, character_of, type_name}
use Rattle.rx_slot.specs.declared.RxBurst.{RxBurst}
use Rattle.rx_slot.specs.declared.RxSlot.{RxSlot}
use Rattle.rx_slot.specs.Views.{BurstView}
use Rattle.rx_slot.specs.Slots.{HandedSlot}
use Rattle.slot_text.specs.declared.Form.{Form}
use Rattle.slot_text.specs.declared.Link.{Link}
use Rattle.slot_text.specs.declared.Link.TheVariants.{Alone, Down, Up}
use Rattle.slot_text.specs.Fields.{Field, number_field, word_field, field_line}

-- which link it is of, where there are two
unfoldable pub link_fields : Link → List Field
link_fields Alone = []
link_fields Down = word_field (ascii "link") (ascii "down") ∷ []
link_fields Up = word_field (ascii "link") (ascii "up") ∷ []

-- a burst's bits, where they are wanted and there is a burst
unfoldable pub bits_fields : Bool → List ℕ → List ℕ → List Field
bits_fields has_bits prefix bits = cond (eqb (length bits) 0) [] (cond has_bits (word_field (prefix ++ ascii "bits") (map character_of bits) ∷ []) [])

-- a burst's type, wrong training bits and bits, each name behind a prefix
unfoldable pub burst_fields : Bool → List ℕ → BurstView → List Field
burst_fields has_bits prefix v =
    word_field (prefix ++ ascii "type") (type_name v.type)
    ∷ number_field (prefix ++ ascii "errors") v.errors
    ∷ bits_fields has_bits prefix v.bits

-- the bursts in the halves of an uplink slot
unfoldable pub half_fields : Bool → Link → BurstView → BurstView → List Field
half_fields has_bits Alone v w = []
half_fields has_bits Down v w = []
half_fields has_bits Up v w = burst_fields has_bits (ascii "half1_") v ++ burst_fields has_bits (ascii "half2_") w

-- a slot's line. The counter of a slot that was taken is 0 or more, and `mag` gives it as it is
unfoldable pub slot_line : Form → Bool → Link → HandedSlot → List ℕ
slot_line form has_bits link h =
    field_line form (number_field (ascii "slot") h.time)
    (number_field (ascii "sample") (mag h.closing_counter) ∷ (link_fields link ++ burst_fields has_bits [] h.full ++ half_fields has_bits link h.subslot1 h.subslot2))

-- ---- a slot in numbers, with the bits of its bursts

unfoldable pub burst_read : RxBurst → List ℕ → BurstView
burst_read b bits = record { type = b.train_type; errors = b.train_errs; place = b.burst_pos; bits = bits }

unfoldable pub slot_read : RxSlot → (full subslot1 subslot2 : List ℕ) → HandedSlot
slot_read s full subslot1 subslot2 =
    record {
      time = s.time.0;
      closing_counter = s.closing_counter.0;
      full = burst_read s.full full;
      subslot1 = burst_read s.subslot1 subslot1;
      subslot2 = burst_read s.subslot2 subslot2;
    }
