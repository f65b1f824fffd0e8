-- A guess that passes the test is the magnitude.
use Rattle.std.proofs.Common.{T, sym, subst, arith}
use Rattle.magnitude.proofs.Squares.{squares_pattern}
use Rattle.magnitude.proofs.Passed.{at_most_large, passed}
use Rattle.magnitude.proofs.quick.Goals as goal

pub rough_root-requires : goal.rough_root-requires
rough_root-requires c =
    squares_pattern _ _ (at_most_large c.args.re c.min-x.result c.min-x.ensures.value).0 (at_most_large c.args.im c.min-y.result c.min-y.ensures.value).0

pub returns-then-s-high : goal.returns-then-s-high
returns-then-s-high c =
    passed c.args.re c.args.im c.min-x.result c.min-y.result c.min-p.result (subst T (sym c.well_formed.0.1) tt) (subst T (sym c.well_formed.1.0.1) tt)
    (at_most_large c.args.re c.min-x.result c.min-x.ensures.value).1 (at_most_large c.args.im c.min-y.result c.min-y.ensures.value).1
    (omega arith) c.if-low-s.true c.if-s-high.true
