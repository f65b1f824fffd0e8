-- The trimmed input is nothing, or a letter and its characters.
use Rattle.std.proofs.Common.{ap, sym, ◌∙◌}
use Rattle.text.specs.Text.{cut}
use Rattle.lister.proofs.Judged.{none, number_is, prints}
use Rattle.lister.proofs.listing.Goals as goal

pub returns-in_default : goal.returns-in_default
returns-in_default c =
    c.refused.ensures ∙ ap cut (none c.args.input.now _ c.trimmed.ensures c.in_default.ensures.cases)

pub returns : goal.returns
returns c =
    let x = c.in-Some in
    let k = number_is c.of_letter-burst_type.result c.map_or.result c.map_or.ensures in
    c.print.ensures
    ∙ ap cut (rw (c.answer.ensures, k, c.of_letter-burst_type.ensures) (prints c.args.input.now x.letter.now x.characters.now (sym x.ensures.cases.0 ∙ c.trimmed.ensures)))
