-- The characters are too many, and what counts of the last one is kept.
use Rattle.std.proofs.Common.{sym, ◌∙◌}
use Rattle.lister.proofs.Pieces.{last_fine, last_wrong}
use Rattle.lister.proofs.replace_last.Goals as goal
use Rattle.lister.proofs.replace_last.Goals.{then-not_character, else-not_character}

pub returns : goal.returns
returns c =
    let B = c.args.bytes.now in
    let b = c.args.b in
    elim c.if-not_character.branch [
      | then-not_character w ↦ rw w.bytes-is (last_wrong B b c.requires (sym c.not_character.ensures ∙ w.if-not_character.true))
      | else-not_character w ↦ rw w.bytes-is (last_fine B b c.requires (sym c.not_character.ensures ∙ w.if-not_character.false))
    ]
