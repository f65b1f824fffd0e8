-- What was sent is a block that ends where the next piece starts.
use Rattle.std.proofs.Common.{◌≡◌, ◌-◌, ◌≤◌}
use Rattle.modulator.specs.Sender.{sender_of}
use Rattle.modulator.specs.Blocks.{Wrote, slot_due, fed_block}
use Rattle.modulator.proofs.sender.Modulator.send.Given as goal

abbrev pub invariant-loop-done : goal.invariant-loop-done
invariant-loop-done l = record {
  in_range : l.done ≤ l.stretch.count;
  wrote :
      Wrote (fed_block (slot_due l.stretch.counter l.stretch.slot) l.done 0 (sender_of l.initial.self l.initial.mapper)) l.done 0
      (sender_of l.self l.mapper) l.initial.out l.out;
  kept : l.done ≡ 0 → (l.self ≡ l.initial.self) × (l.mapper ≡ l.initial.mapper);
}

abbrev pub decreases-loop-done : goal.decreases-loop-done
decreases-loop-done l = l.stretch.count - l.done
