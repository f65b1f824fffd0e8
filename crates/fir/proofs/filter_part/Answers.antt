-- Each turn gives one lane one tap more; at the end all four have four.
use Rattle.std.proofs.Common.{arith, refl}
use Rattle.fir.specs.Fir.{taps}
use Rattle.fir.proofs.Rows.{lanes_start, lanes_step, lanes_end}
use Rattle.fir.proofs.filter_part.Goals as goal

pub loop-t-init : goal.loop-t-init
loop-t-init c = lanes_start c.args.row.now

pub loop-v-preserved : goal.loop-v-preserved
unfolding taps
loop-v-preserved c = lanes_step c.args.row.now c.loop-t.t c.loop-v.v c.loop-v.sum c.loop-t-test.true c.loop-v-test.true c.loop-v.invariant

pub returns : goal.returns
returns c = lanes_end c.args.row.now c.loop-t.t 0 c.loop-t.sum (omega arith) refl c.loop-t.invariant
