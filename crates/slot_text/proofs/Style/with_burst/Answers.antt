-- Three fields, one behind the other.
use Rattle.std.proofs.Common.{[], ◌∷◌}
use Rattle.text.specs.Text.{ascii}
use Rattle.text.proofs.Cutting.{onto}
use Rattle.slot_text.proofs.Pieces.{pieces, fields_append}
use Rattle.slot_text.specs.Lines.{burst_fields, burst_read}
use Rattle.slot_text.proofs.Style.with_burst.Goals as goal

pub returns : goal.returns
unfolding burst_fields burst_read ascii
returns c =
    let t = c.args.text in
    let f = c.args.self.form in
    pieces t _ _ (onto t _ _ c.with_type-typed.ensures c.with_next_number-judged.ensures) c.with_bits.ensures (rw (fields_append f (_ ∷ []) (_ ∷ [])) (fields_append f (_ ∷ _ ∷ []) _))
