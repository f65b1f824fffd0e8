-- The mapper (01, "Burst bits", "The sender"; modulator.rs, `DqpskMapper::symbol`): phases in eighths of a turn, and their points. Definitions only.
use Rattle.std.specs.Prelude.{ℕ, ◌+◌, ◌%◌, Bool, List, [], ◌∷◌, get_or, Result, Ok, Err, Float}
use Rattle.std.specs.Float.{binary32, nan}
use Rattle.std.specs.Float.Ieee.{of_bits}
use Rattle.dsp_types.specs.declared.ComplexSample.{ComplexSample}
use Rattle.dsp_types.specs.Phases.{bit_of, phase_of, modulo8}
use Rattle.dsp_types.specs.Samples.{silence}
use Rattle.mapper.specs.declared.Due.{Due}
use Rattle.mapper.specs.declared.Due.TheVariants.{Silence, Symbol}

-- the phase of a symbol's two bits, modulo 8 (01, "The sender")
unfoldable pub turn_of : Bool → Bool → ℕ
turn_of bit0 bit1 = modulo8 (phase_of (bit_of bit0) (bit_of bit1))

-- the phase after a symbol
unfoldable pub next_phase : ℕ → Bool → Bool → ℕ
next_phase phase bit0 bit1 = (phase + turn_of bit0 bit1) % 8

-- the constellation (CONSTELLATION), as f32 bit patterns: 1.0 is 0x3f800000, 0.707107 is 0x3f3504f7, and 0x80000000 is their sign
unfoldable pub points_re : List Float
points_re =
    of_bits binary32 0x3f80_0000 ∷ of_bits binary32 0x3f35_04f7 ∷ of_bits binary32 0 ∷ of_bits binary32 0xbf35_04f7
    ∷ of_bits binary32 0xbf80_0000 ∷ of_bits binary32 0xbf35_04f7 ∷ of_bits binary32 0x8000_0000 ∷ of_bits binary32 0x3f35_04f7
    ∷ []

-- ... and their imaginary parts
unfoldable pub points_im : List Float
points_im =
    of_bits binary32 0 ∷ of_bits binary32 0x3f35_04f7 ∷ of_bits binary32 0x3f80_0000 ∷ of_bits binary32 0x3f35_04f7
    ∷ of_bits binary32 0 ∷ of_bits binary32 0xbf35_04f7 ∷ of_bits binary32 0xbf80_0000 ∷ of_bits binary32 0xbf35_04f7
    ∷ []

-- the point of a phase
unfoldable pub point_of : ℕ → ComplexSample
point_of phase = record { re = get_or points_re (phase % 8) nan; im = get_or points_im (phase % 8) nan }

-- ---- one call of the sender

-- the phase after what is due: a symbol steps it
unfoldable pub phase_after : ℕ → Result Due ℕ → ℕ
phase_after phase (Err n) = phase
phase_after phase (Ok Silence) = phase
phase_after phase (Ok (Symbol bit0 bit1)) = next_phase phase bit0 bit1

-- what is fed to the filter, where this is the phase after what is due
unfoldable pub input_of : ℕ → Result Due ℕ → ComplexSample
input_of phase (Err n) = silence
input_of phase (Ok Silence) = silence
input_of phase (Ok (Symbol bit0 bit1)) = point_of phase
