-- Each placing lies within the bits; a placing that is left has no fewer differences than the best, and one that is counted to its end is compared with it.
use Rattle.std.proofs.Common.{◌*◌, length, arith, rules}
use Rattle.burst_finder.proofs.Turns.{counted_none, counted_same, counted_differs, counted_all, abandoned, no_fewer, fewer, within, no_placing, all_placings}
use Rattle.burst_finder.proofs.find_sequence.Goals as goal
use Rattle.burst_finder.proofs.find_sequence.Goals.{then-bits-position, else-bits-position, then-dist-min_dist-2, else-dist-min_dist-2}

pub placing-init : goal.placing-init
placing-init c = record {
  count = search rules;
  best = no_placing c.args.limit c.args.bits.now c.args.sequence.now c.requires;
}

pub overflow_mul-position : goal.overflow_mul-position
overflow_mul-position c = omega (arith, within (length c.args.bits.now) (length c.args.sequence.now) c.placing.half (omega arith))

pub loop-i-init : goal.loop-i-init
loop-i-init c = record {
  inside = within (length c.args.bits.now) (length c.args.sequence.now) c.placing.half (omega arith);
  passed = search rules;
  no_more = search rules;
  counted = counted_none c.args.bits.now c.args.sequence.now (2 * c.placing.half);
}

pub placing-preserved-then-dist-min_dist : goal.placing-preserved-then-dist-min_dist
placing-preserved-then-dist-min_dist c = record {
  count = search rules;
  best = abandoned c.args.limit c.args.bits.now c.args.sequence.now c.placing.half c.placing.min_pos c.placing.min_dist c.placing.half c.loop-i.i c.loop-i.dist
      (search rules) c.if-dist-min_dist.true c.loop-i.invariant.counted c.placing.invariant.best;
}

pub loop-i-preserved : goal.loop-i-preserved
loop-i-preserved c =
    let bits = c.args.bits.now in
    let sequence = c.args.sequence.now in
    let p = 2 * c.placing.half in
    let l = c.loop-i in
    elim c.if-bits-position.branch [
      | then-bits-position w ↦ record {
        inside = search rules;
        passed = omega arith;
        no_more = omega arith;
        counted = counted_differs bits sequence p l.i l.dist c.if-bits-position.dist (omega arith) (omega arith) l.invariant.counted w.if-bits-position.true w.dist-is;
      }
      | else-bits-position w ↦ record {
        inside = search rules;
        passed = omega arith;
        no_more = omega arith;
        counted = counted_same bits sequence p l.i l.dist c.if-bits-position.dist (omega arith) (omega arith) l.invariant.counted w.if-bits-position.false w.dist-is;
      }
    ]

pub placing-preserved : goal.placing-preserved
placing-preserved c =
    let o = c.placing in
    let bits = c.args.bits.now in
    let sequence = c.args.sequence.now in
    let d = counted_all bits sequence (2 * o.half) c.loop-i.i c.loop-i.dist (omega arith) c.loop-i.invariant.counted in
    let j = c.if-dist-min_dist-2 in
    elim j.branch [
      | then-dist-min_dist-2 w ↦ record {
        count = search rules;
        best = fewer c.args.limit bits sequence o.half o.min_pos o.min_dist o.half c.loop-i.dist (search rules) d w.if-dist-min_dist-2.true o.invariant.best j.min_pos j.min_dist w.min_pos-is w.min_dist-is;
      }
      | else-dist-min_dist-2 w ↦ record {
        count = search rules;
        best = no_fewer c.args.limit bits sequence o.half o.min_pos o.min_dist o.half (search rules) (omega (arith, d, w.if-dist-min_dist-2.false)) o.invariant.best j.min_pos j.min_dist w.min_pos-is w.min_dist-is;
      }
    ]

pub returns : goal.returns
returns c = all_placings c.args.limit c.args.bits.now c.args.sequence.now c.placing.half c.placing.min_pos c.placing.min_dist (omega arith) c.placing.invariant.best
