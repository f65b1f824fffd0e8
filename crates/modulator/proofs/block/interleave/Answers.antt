-- A turn writes the parts of one sample more.
use Rattle.std.proofs.Common.{arith}
use Rattle.modulator.proofs.Filled.{row_turn, rest_turn, row_end}
use Rattle.modulator.proofs.block.interleave.Goals as goal

pub loop-n-preserved : goal.loop-n-preserved
loop-n-preserved c =
    let a = c.args in
    let l = c.loop-n in
    record {
      row = row_turn a.re.now a.im.now l.n l.out _ (omega arith) (omega (arith, c.requires)) (omega (arith, c.requires)) l.invariant.row;
      behind = rest_turn l.n l.out a.out.now _ _ l.invariant.behind;
    }

pub returns : goal.returns
returns c =
    let a = c.args in
    let l = c.loop-n in
    row_end a.re.now a.im.now l.n l.out a.out.now _ (omega arith) (omega (arith, c.requires)) l.invariant.row l.invariant.behind
