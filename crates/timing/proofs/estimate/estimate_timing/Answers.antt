-- At the end the sums are those of all symbols.
use Rattle.std.proofs.Common.{◌≡◌, arith}
use Rattle.timing.specs.Estimate.{estimate_timing}
use Rattle.timing.proofs.estimate.estimate_timing.Goals as goal

pub returns : goal.returns
unfolding estimate_timing
returns c =
    let e : c.loop.counter ≡ c.args.n_symbols = omega arith in
    rw (c.quarter_turns.ensures, c.loop.invariant.sum_i, c.loop.invariant.sum_q, e)
