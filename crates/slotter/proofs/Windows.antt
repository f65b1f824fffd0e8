-- The two windows of a burst: each has an odd number of symbols, and so an odd sum.
use mathlib.Core.Path.{◌≡◌, ◌∙◌}
use mathlib.Core.List.{List}
use Prim.Native.Nat.{ℕ, ◌-◌, ◌*◌, ◌%◌, ◌≤◌}
use native.Mathlib.Omega.{arith}
use lib.ListN.{length, take, drop, length-drop}
use lib.Seq.{length-take-le}
use Rattle.dsp_types.specs.Phases.{modulo8}
use Rattle.slotter.specs.Phases.{phase_sum}
use Rattle.slotter.specs.Bursts.{first_window, last_window}
use Rattle.slotter.proofs.Adjustment.{sum_parity}

pub first_odd : (fields : List ℕ) (last : ℕ) → length fields ≡ 484 → 7 ≤ last → last ≤ 249 → last % 2 ≡ 0 → modulo8 (phase_sum (first_window last fields)) % 2 ≡ 1
unfolding first_window
first_odd fields last l h k even =
    sum_parity (take (2 * (last - 7)) fields) (last - 7) (length-take-le (2 * (last - 7)) fields (omega arith)) ∙ omega arith

pub last_odd : (fields : List ℕ) (last : ℕ) → length fields ≡ 484 → 7 ≤ last → last ≤ 249 → last % 2 ≡ 0 → modulo8 (phase_sum (last_window last fields)) % 2 ≡ 1
unfolding last_window
last_odd fields last l h k even =
    sum_parity (drop (2 * (last - 7)) fields) (249 - last) (length-drop (2 * (last - 7)) fields ∙ omega arith) ∙ omega arith
