-- What is left, fed from here, ends where all of it would.
use Rattle.std.proofs.Common.{◌≡◌, ◌-◌, ◌*◌, ◌/◌, ◌≤◌, length, drop}
use Rattle.receiver.specs.Feed.{interleaved, feed_of}
use Rattle.receiver.specs.View.{receiver_of, Untouched}
use Rattle.receiver.proofs.Feeding.{ahead}
use Rattle.receiver.proofs.State.feed.Given as goal

abbrev pub invariant-loop-taken : goal.invariant-loop-taken
invariant-loop-taken l = record {
  within : l.taken ≤ length l.samples / 2;
  x_long : length l.x ≡ 512;
  y_long : length l.y ≡ 512;
  fed :
      feed_of (receiver_of l.fn.self l.fn.re l.fn.im l.fn.abs) (interleaved l.samples) l.fn.first.0
      ≡ ahead l.taken (feed_of (receiver_of l.self l.re l.im l.abs) (interleaved (drop (2 * l.taken) l.samples)) l.counter.0);
  untouched : l.taken ≡ 0 → Untouched l.fn.self l.self l.fn.re l.re l.fn.im l.im l.fn.abs l.abs;
}

abbrev pub decreases-loop-taken : goal.decreases-loop-taken
decreases-loop-taken l = length l.samples / 2 - l.taken
