-- Each turn writes one output more, of the row from there on; at the end there is room for none.
use Rattle.std.proofs.Common.{◌≡◌, ◌-◌, length, min, arith, refl}
use Rattle.fir.specs.Fir.{row_outs, filter_row, start_with}
use Rattle.fir.proofs.Rows.{rest, length_row, block_step}
use Rattle.fir.proofs.filter_block.Goals as goal

pub loop-n-init : goal.loop-n-init
unfolding row_outs
loop-n-init c = refl

pub loop-n-preserved : goal.loop-n-preserved
loop-n-preserved c =
    rw c.loop-n.invariant
    (block_step c.args.row.now c.args.out.now c.loop-n.n c.filter_part.result (omega arith) (rw (← rest c.args.row.now c.loop-n.n) c.filter_part.ensures))

pub returns : goal.returns
unfolding filter_row start_with
returns c =
    let e : c.loop-n.n ≡ min (length c.args.row.now - 31) (length c.args.out.now) = omega arith in
    rw (← e, length_row) c.loop-n.invariant
