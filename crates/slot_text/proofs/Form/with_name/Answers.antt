-- Piece by piece.
use Rattle.text.specs.Text.{ascii}
use Rattle.text.proofs.Cutting.{onto}
use Rattle.slot_text.proofs.Pieces.{pieces, name_piece}
use Rattle.slot_text.proofs.Form.with_name.Goals as goal

pub returns : goal.returns
unfolding ascii
returns c =
    let a = c.args in
    let t = a.text in
    let p = onto t _ _ (onto t _ _ c.quote.ensures c.append.ensures) c.append-named.ensures in
    pieces t _ _ p c.by_form.ensures (name_piece a.self a.prefix.now a.name.now)
