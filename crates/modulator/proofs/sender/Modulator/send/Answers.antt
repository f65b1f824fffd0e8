-- A piece behind those that were sent makes one block with them.
use Rattle.std.proofs.Common.{refl, arith}
use Rattle.modulator.proofs.Blocks.{wrote_later, wrote_none}
use Rattle.modulator.proofs.sender.Modulator.send.Goals as goal

pub loop-done-init : goal.loop-done-init
loop-done-init c = record { in_range = omega arith; wrote = wrote_none _ _ _ _; kept = λ e. (refl, refl) }

-- a whole piece
pub loop-done-preserved : goal.loop-done-preserved
loop-done-preserved c =
    record {
      in_range = omega arith;
      wrote = wrote_later _ _ _ _ (omega arith) c.loop-done.invariant.wrote c.piece.ensures;
      kept = λ e. absurd (omega arith);
    }

-- the last piece
pub returns-2-clause-wrote : goal.returns-2-clause-wrote
returns-2-clause-wrote c = wrote_later _ _ _ _ (omega arith) c.loop-done.invariant.wrote c.piece.ensures
