-- What is stored and the rest, one by one, are all of `from`; what is left begins where the ring does.
use Rattle.std.proofs.Common.{length, ◌≡◌, ◌+◌, ◌<◌, ◌%◌}
use Rattle.std.specs.Slice.Iter.{chunks_rest, chunks_size}
use Rattle.history.specs.History.{held_in, held_after}
use Rattle.history.proofs.store.Given as goal

abbrev pub invariant-loop-run : goal.invariant-loop-run
invariant-loop-run l = record {
  size : chunks_size l.run-iterator ≡ 2048;
  place : (l.newest + length (chunks_rest l.run-iterator)) % 2048 ≡ (l.at % 2048 + length l.from) % 2048;
  within : l.newest < 2048;
  starts : 0 < length (chunks_rest l.run-iterator) → l.newest ≡ 2047;
  held : held_after (held_in l.ring l.newest) (chunks_rest l.run-iterator) ≡ held_after (held_in l.fn.ring l.at) l.from;
}
