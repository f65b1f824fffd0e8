-- What a finding has at most: it fits the six bytes.
use mathlib.Core.Path.{◌≡◌}
use mathlib.Core.List.{List}
use Prim.Native.Nat.{ℕ, ◌≤◌, ◌<◌}
use native.Mathlib.Omega.{arith}
use lib.ListN.{length}
use Rattle.burst_finder.specs.declared.Finding.{Finding}
use Rattle.burst_finder.specs.declared.SlotType.{SlotType}
use Rattle.burst_finder.specs.Slots.{check_slot}
use Rattle.burst_finder.proofs.Findings.{slot_judged, slot_errors}

pub room : (k : SlotType) (bits : List ℕ) (f : Finding) → f ≡ check_slot k bits → length bits ≤ 510
    → (f.train_errs < 256) × (f.burst_pos < 65536) × (f.burst_len < 65536)
room k bits f e h = rw e (omega (arith, slot_errors k bits), omega (arith, (slot_judged k bits).fits), omega (arith, (slot_judged k bits).fits))
