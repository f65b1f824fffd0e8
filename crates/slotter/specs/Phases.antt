-- The sum of a window's phases and the phase adjustment symbol (01, "Burst bits"; EN 300 392-2, clause 9.4.4.3), in eighths of a turn.
use Rattle.std.specs.Prelude.{ℕ, Bool, cond, List, [], ◌∷◌, ℤ, pos, ◌+ℤ◌, eqb}
use Rattle.dsp_types.specs.Phases.{phase_of, modulo8}

-- the sum of the phases of a window's symbols; a last bit alone is no symbol
unfoldable pub phase_sum : List ℕ → ℤ
phase_sum [] = pos 0
phase_sum (a ∷ []) = pos 0
phase_sum (a ∷ b ∷ bits) = phase_of a b +ℤ phase_sum bits

-- whether a symbol's phase plus a window's sum is 0 modulo 8
unfoldable pub cancels : ℤ → ℕ → ℕ → Bool
cancels sum a b = eqb (modulo8 (phase_of a b +ℤ sum)) 0

-- the adjustment bits of a window with that sum: of the four symbols, the one whose phase cancels it (no window's sum is even)
unfoldable pub adjustment : ℤ → List ℕ
adjustment sum =
    cond (cancels sum 0 0) (0 ∷ 0 ∷ [])
    (cond (cancels sum 0 1) (0 ∷ 1 ∷ [])
    (cond (cancels sum 1 0) (1 ∷ 0 ∷ [])
    (1 ∷ 1 ∷ [])))
