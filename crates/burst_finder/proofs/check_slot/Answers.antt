-- Kind by kind: the first training sequence of the kind that is found.
use Rattle.std.proofs.Common.{rules}
use Rattle.train_consts.specs.Training.{extended, synchronization}
use Rattle.burst_finder.specs.Slots.{check_slot, IsChecked}
use Rattle.burst_finder.proofs.Steps.{either_checked, checked_value}
use Rattle.burst_finder.proofs.check_slot.Goals as goal
use Rattle.burst_finder.proofs.check_slot.Goals.{in-Dl, in-UlFull, in-UlSub}

pub returns : goal.returns
unfolding check_slot synchronization extended
returns c = checked_value c.match-slot_type.found _ _ checked c.unwrap_or_else.ensures
  where
    checked : IsChecked c.match-slot_type.found (check_slot c.args.slot_type c.args.bits.now)
    checked =
        elim c.match-slot_type.branch [
          | in-Dl w ↦ rw (w.found-is, w.in-Dl.is) (either_checked _ _ _ _ w.check_sequence.ensures (search rules))
          | in-UlFull w ↦ rw (w.found-is, w.in-UlFull.is) w.check_normal-found.ensures
          | in-UlSub w ↦ rw (w.found-is, w.in-UlSub.is) w.check_sequence-found.ensures
        ]
