-- A piece behind the other.
use Rattle.std.proofs.Common.{◌≡◌}
use Rattle.dsp_types.specs.Answers.{number_of}
use Rattle.text.specs.Text.{cut, ascii, decimal}
use Rattle.text.proofs.Cutting.{then}
use Rattle.replay.proofs.answer.refused.Goals as goal

pub returns : goal.returns
unfolding ascii
returns c =
    let start : c.append.result ≡ cut (ascii "refused ") = rw c.new.ensures at c.append.ensures in
    let number = then _ (decimal 20 (number_of c.args.refusal)) start (rw (c.from.ensures, c.number.ensures) at c.decimal.ensures) in
    then _ _ number c.append-2.ensures
