-- After n turns the sums are those of n symbols, and `delay` is that of the next one.
use Rattle.std.proofs.Common.{◌≡◌, ℕ, ◌-◌, ◌*◌, ◌%◌, List}
use lib.Ieee.{Float}
use Rattle.dsp_types.specs.Samples.{ago, zero_f}
use Rattle.history.specs.History.{held_in}
use Rattle.timing.specs.Estimate.{sum_i, sum_q}
use Rattle.timing.proofs.estimate.estimate_timing.Given as goal

-- what `recall` gives
abbrev pub delayed_in : List Float → ℕ → ℕ → Float
delayed_in abs at k = ago zero_f (held_in abs at) (k % 2048)

abbrev pub invariant-loop : goal.invariant-loop
invariant-loop l = record {
  delay : l.delay ≡ l.d - 4 * l.counter;
  sum_i : l.sum_i ≡ sum_i (delayed_in l.abs l.at) l.d l.counter;
  sum_q : l.sum_q ≡ sum_q (delayed_in l.abs l.at) l.d l.counter;
}
