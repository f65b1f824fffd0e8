-- A turn takes one symbol from those left.
use Rattle.std.proofs.Common.{◌∙◌, [], get_or, arith}
use mir.Syntax.{w32}
use mir.Val.{to_z}
use mir.ValLaws.{to_z-of_z}
use Rattle.slotter.proofs.Phase.{one_more, no_more, small_more, small_fits}
use Rattle.slotter.proofs.sum_up_phase.Goals as goal

pub overflow_add-sum : goal.overflow_add-sum
overflow_add-sum c =
    let p = to_z-of_z w32 _ (record { sfits = c.phase_of-sum.type_inv }) ∙ c.phase_of-sum.ensures in
    rw p (small_fits (small_more _ _ _ c.loop-first.first-index c.loop-first.invariant.small) (omega arith))

pub loop-first-preserved : goal.loop-first-preserved
loop-first-preserved c =
    let p = to_z-of_z w32 _ (record { sfits = c.phase_of-sum.type_inv }) ∙ c.phase_of-sum.ensures in
    let l = c.loop-first in
    let symbol = get_or c.as_chunks.result.0.now l.first-index [] in
    let s = small_more (to_z w32 l.sum-bits) (get_or symbol 0 0) (get_or symbol 1 0) l.first-index l.invariant.small in
    rw (p, to_z-of_z w32 _ (small_fits s (omega arith)))
    (record { small = s; whole = one_more c.args.bits.now _ (to_z w32 l.sum-bits) l.first-index c.as_chunks.ensures.front l.invariant.whole (omega arith) })

pub returns : goal.returns
returns c = no_more _ _ c.loop-first.first-index (omega arith) c.loop-first.invariant.whole
