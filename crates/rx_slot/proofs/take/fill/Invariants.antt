-- The first i bytes are filled.
use Rattle.std.proofs.Common.{◌≡◌, ◌++◌, map, drop}
use Rattle.rx_slot.specs.Views.{padded}
use Rattle.rx_slot.proofs.Laws.{bit}
use Rattle.rx_slot.proofs.take.fill.Given as goal

abbrev pub invariant-loop-i : goal.invariant-loop-i
invariant-loop-i l = l.out ≡ padded l.i (map bit l.bits) ++ drop l.i l.initial.out
