-- A take's slices. Assumes nothing.
use mathlib.Core.Path.{◌≡◌, refl}
use mathlib.Core.Bool.{Bool, true, false, cond, ◌||◌}
use mathlib.Core.List.{List}
use Prim.Native.Nat.{ℕ}
use native.Mathlib.Omega.{arith}
use lib.ListN.{length}
use Rattle.dsp_types.specs.Refusals.{wrong_length}
use Rattle.dsp_types.proofs.Laws.{right_length}
use Rattle.slot_receiver.specs.Calls.{take_refusal}

-- an answered take has slices of the right lengths
pub right_lengths : (slot first second : List ℕ) (available : Bool) → take_refusal slot first second available ≡ 0
    → (length slot ≡ 510) × (length first ≡ 254) × (length second ≡ 254)
unfolding take_refusal
right_lengths slot first second available e =
    let w = go (wrong_length 510 slot) (wrong_length 254 first) (wrong_length 254 second) available e in
    (right_length 510 slot w.0, right_length 254 first w.1, right_length 254 second w.2)
  where
    go : (x y z w : Bool) → ◌≡◌ {A = ℕ} (cond (x || (y || z)) 3 (cond w 0 11)) 0 → (x ≡ false) × (y ≡ false) × (z ≡ false)
    go true y z w e = absurd (omega (arith, e))
    go false true z w e = absurd (omega (arith, e))
    go false false true w e = absurd (omega (arith, e))
    go false false false w e = (refl, refl, refl)
