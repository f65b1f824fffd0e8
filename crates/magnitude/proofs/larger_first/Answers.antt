-- The larger part has 24 digits at most, and the smaller one's square 48.
use Rattle.std.proofs.Common.{rules, ◌^◌, ◌<◌, ◌∙◌}
use Rattle.magnitude.proofs.Numbers.{sum_lt_49}
use Rattle.magnitude.proofs.Aligned.{root_lt_25, small_square_lt, aligned_at}
use Rattle.magnitude.proofs.larger_first.Goals as goal

pub root-requires : goal.root-requires
root-requires c = (search rules, rw (c.shifted_square-z.ensures, c.significand.ensures) (small_square_lt _ _))

pub packed-requires : goal.packed-requires
packed-requires c =
    let z : c.shifted_square-z.result < 2 ^ 48 = rw (c.shifted_square-z.ensures, c.significand.ensures) (small_square_lt _ _) in
    let m : c.significand-m.result < 2 ^ 24 = search rules in
    (search rules, root_lt_25 _ c.root.result (sum_lt_49 _ _ m z) c.root.ensures.0)

pub returns : goal.returns
returns c =
    c.packed.ensures
    ∙ aligned_at c.args.a c.args.b c.exponent-e.result c.significand-m.result c.significand.result c.exponent.result c.shifted_square-z.result c.root.result
    c.requires.0 c.requires.1 c.exponent-e.ensures c.significand-m.ensures c.significand.ensures c.exponent.ensures c.shifted_square-z.ensures c.root.ensures
