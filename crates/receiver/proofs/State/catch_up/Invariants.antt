-- The zeros left, fed from here, come to what all of them would; what was handed over so far is told.
use Rattle.std.proofs.Common.{◌≡◌, ◌||◌}
use Rattle.slot_receiver.specs.Receiver.{feed_zeros}
use Rattle.slot_receiver.specs.Windows.{hands_over, zeros_windows}
use Rattle.receiver.specs.View.{receiver_of}
use Rattle.receiver.proofs.State.catch_up.Given as goal

abbrev pub invariant-loop-left : goal.invariant-loop-left
invariant-loop-left l = record {
  fed : feed_zeros l.count (receiver_of l.fn.self l.fn.re l.fn.im l.fn.abs) l.counter.0 ≡ feed_zeros l.left (receiver_of l.self l.re l.im l.abs) l.counter.0;
  windows :
      hands_over (zeros_windows l.count (receiver_of l.fn.self l.fn.re l.fn.im l.fn.abs) l.counter.0)
      ≡ (l.handed || hands_over (zeros_windows l.left (receiver_of l.self l.re l.im l.abs) l.counter.0));
}
