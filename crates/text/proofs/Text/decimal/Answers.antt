-- What `io::decimal` writes are the definition's digits.
use Rattle.std.proofs.Common.{ap, ◌∙◌, List, ℕ, ◌++◌}
use Rattle.text.specs.Text.{cut}
use Rattle.text.proofs.Decimal.{digits_decimal}
use Rattle.text.proofs.Text.decimal.Goals as goal

pub returns : goal.returns
returns c =
    let few = digits_decimal _ _ c.decimal-k.ensures.len c.ranges.n.fits in
    c.append.ensures ∙ ap (λ (s : List ℕ). cut (c.args.self ++ s)) (c.decimal-k.ensures.digits ∙ few.1)
