-- By the sign.
use Rattle.std.proofs.Common.{ap, ◌∙◌}
use mir.Syntax.{w32}
use mir.ValLaws.{to_z-of_z}
use Rattle.text.specs.Text.{cut, ascii, decimal}
use Rattle.text.proofs.Cutting.{then}
use Rattle.lister.proofs.Sign.{below_signed, above_signed}
use Rattle.lister.proofs.with_signed.Goals as goal
use Rattle.lister.proofs.with_signed.Goals.{then-n-lt0, else-n-lt0}

pub returns : goal.returns
unfolding ascii
returns c =
    let a = c.args in
    let z = to_z-of_z w32 a.n c.ranges.n in
    let d = rw (c.unsigned_abs.ensures.value, z) at c.decimal.ensures in
    elim c.if-n-lt0.branch [
      | then-n-lt0 w ↦ then _ (decimal 20 _) (w.signed-is ∙ w.append-signed.ensures) d ∙ ap cut (below_signed a.text a.n (rw z at w.if-n-lt0.true))
      | else-n-lt0 w ↦ rw (w.signed-is, above_signed a.n (rw z at w.if-n-lt0.false)) at d
    ]
