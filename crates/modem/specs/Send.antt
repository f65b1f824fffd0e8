-- The sender's calls, in numbers (01, "The sender"). Definitions only.
use Rattle.std.specs.Prelude.{ℕ, cond, List, [], ◌∷◌, eqb, Option, Some, None}
use Rattle.dsp_types.specs.declared.ComplexSample.{ComplexSample}
use Rattle.dsp_types.specs.Samples.{silence}
use Rattle.modulator.specs.Sender.{SenderReply, Sender, sender_of}
use Rattle.modem.specs.declared.sender.TetraSender.{TetraSender}

-- the bits that a slot is given, where the number is not 0
abbrev pub bits_given : ℕ → List ℕ → Option (List ℕ)
bits_given n bits = cond (eqb n 0) None (Some bits)

-- the sender that a C program holds
unfoldable pub sender_in : TetraSender → Sender
sender_in s = sender_of s.modulator s.mapper

-- the first sample of a list; silence where it has none
unfoldable pub first_or_silence : List ComplexSample → ComplexSample
first_or_silence [] = silence
first_or_silence (x ∷ xs) = x

-- the sample that an answer carries; a refusal carries none
unfoldable pub sample_told : SenderReply → ComplexSample
sample_told t = first_or_silence t.samples
