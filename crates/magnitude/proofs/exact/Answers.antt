-- The sizes of finite parts are those of the definition.
use Rattle.std.proofs.Common.{T, sym, ◌∙◌, subst}
use Rattle.magnitude.proofs.Parts.{finite_is, two_sizes}
use Rattle.magnitude.proofs.exact.Goals as goal

pub returns-then-is_finite-2 : goal.returns-then-is_finite-2
returns-then-is_finite-2 c =
    two_sizes c.args.re c.args.im c.size.result c.size-then-is_finite-2.result c.pattern.result (subst T (sym c.well_formed.0.1) tt) (subst T (sym c.well_formed.1.0.1) tt)
    (sym (finite_is c.args.re) ∙ sym c.is_finite.ensures.value ∙ c.if-is_finite.true)
    (sym (finite_is c.args.im) ∙ sym c.is_finite-then-is_finite.ensures.value ∙ c.if-is_finite-2.true)
    c.size.ensures c.size-then-is_finite-2.ensures c.pattern.ensures
