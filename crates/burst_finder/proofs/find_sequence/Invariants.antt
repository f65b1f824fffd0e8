-- The outer loop: the best of the placings passed. The inner one: the differences of the bits passed and of those to come are all of them, and no more than
-- the best have been passed.
use Rattle.std.proofs.Common.{◌≡◌, ◌+◌, ◌≤◌, length}
use Rattle.burst_finder.specs.Search.{placings}
use Rattle.burst_finder.proofs.Turns.{Counted, BestSoFar}
use Rattle.burst_finder.proofs.find_sequence.Given as goal

abbrev pub invariant-loop-i : goal.invariant-loop-i
invariant-loop-i l = record {
  inside : l.position + length l.sequence ≤ length l.bits;
  passed : l.dist ≤ l.i;
  no_more : l.dist ≤ l.min_dist;
  counted : Counted l.bits l.sequence l.position l.i l.dist;
}

abbrev pub invariant-placing : goal.invariant-placing
invariant-placing l = record {
  count : l.count ≡ placings (length l.bits) (length l.sequence);
  best : BestSoFar l.limit l.bits l.sequence l.half l.min_pos l.min_dist;
}
