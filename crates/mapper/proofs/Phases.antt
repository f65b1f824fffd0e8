-- Phases stay below 8. Assumes nothing.
use mathlib.Core.Path.{◌≡◌}
use mathlib.Core.Bool.{Bool, true, false}
use Prim.Native.Nat.{ℕ, ◌+◌, ◌%◌, ◌≤◌}
use native.Mathlib.Omega.{arith}
use Rattle.dsp_types.specs.Phases.{phase_of, modulo8}
use Rattle.mapper.specs.Dqpsk.{turn_of, next_phase}

pub turn_small : (bit0 bit1 : Bool) → turn_of bit0 bit1 ≤ 7
unfolding phase_of modulo8 turn_of
turn_small true true = omega arith
turn_small true false = omega arith
turn_small false true = omega arith
turn_small false false = omega arith

pub next_phase_lem : (phase turn : ℕ) (bit0 bit1 : Bool) → turn ≡ turn_of bit0 bit1 → (phase % 8 + turn) % 8 ≡ next_phase phase bit0 bit1
unfolding next_phase
next_phase_lem phase turn bit0 bit1 e = omega (arith, e)
