-- The sender (01, "The sender", "Refusals"; modulator.rs, `Modulator::sample`): what a call answers, and the sender after it. Definitions only.
use Rattle.std.specs.Prelude.{ℕ, List, [], ◌∷◌, take, replicate, Result, Ok, Err}
use Rattle.dsp_types.specs.declared.ComplexSample.{ComplexSample}
use Rattle.dsp_types.specs.declared.refusals.Refusal.{Refusal}
use Rattle.dsp_types.specs.Answers.{number_of}
use Rattle.dsp_types.specs.Refusals.{accepted}
use Rattle.dsp_types.specs.Samples.{silence, ago}
use Rattle.fir.specs.Fir.{filter_of, line_of}
use Rattle.mapper.specs.declared.Due.{Due}
use Rattle.mapper.specs.declared.DqpskMapper.{DqpskMapper}
use Rattle.modulator.specs.declared.sender.Modulator.{Modulator}
use Rattle.mapper.specs.Dqpsk.{phase_after, input_of}

-- ---- the answer, where input is what is fed

-- 01's number of an answer, and the sample that it carries
pub record SenderReply : Type 0 where
  pub number : ℕ
  pub samples : List ComplexSample

-- ... of a sample and of a refusal
unfoldable pub sender_reply : Result ComplexSample Refusal → SenderReply
sender_reply (Ok sample) = record { number = accepted; samples = sample ∷ [] }
sender_reply (Err refusal) = record { number = number_of refusal; samples = [] }

-- a sample, shaped by the filter
unfoldable pub shaped_of : List ComplexSample → ComplexSample → SenderReply
shaped_of line input = record { number = accepted; samples = filter_of (ago silence (input ∷ line)) ∷ [] }

-- what a call tells
unfoldable pub told_of : List ComplexSample → ComplexSample → Result Due ℕ → SenderReply
told_of line input (Err n) = record { number = n; samples = [] }
told_of line input (Ok due) = shaped_of line input

-- the filter line after the call: a refusal leaves it as it was
unfoldable pub next_line : List ComplexSample → ComplexSample → Result Due ℕ → List ComplexSample
next_line line input (Err n) = line
next_line line input (Ok due) = take 32 (input ∷ line)

-- ---- a whole call

-- the newest 32 samples that the filter was fed, newest first, and the phase record
pub record Sender : Type 0 where
  pub line : List ComplexSample
  pub phase : ℕ

-- the sender that a state and a phase record stand for
unfoldable pub sender_of : Modulator → DqpskMapper → Sender
sender_of m p = record { line = line_of m.filter; phase = p.phase }

-- a new sender: silence so far, at phase 0
unfoldable pub new_sender : Sender
new_sender = record { line = replicate 32 silence; phase = 0 }

-- what the filter is fed
unfoldable pub filter_input : Sender → Result Due ℕ → ComplexSample
filter_input s d = input_of (phase_after s.phase d) d

-- what a call answers where d is due
unfoldable pub tells : Sender → Result Due ℕ → SenderReply
tells s d = told_of s.line (filter_input s d) d

-- ... and the sender after it
unfoldable pub sender_after : Sender → Result Due ℕ → Sender
sender_after s d = record { line = next_line s.line (filter_input s d) d; phase = phase_after s.phase d }
