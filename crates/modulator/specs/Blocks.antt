-- A block call (01, "The sender"): the calls of its samples, one by one, up to the first that is refused. Definitions only.
use Rattle.std.specs.Prelude.{ℕ, zero, suc, ◌+◌, ◌-◌, min, ◌≡◌, List, [], ◌∷◌, ◌++◌, ℤ, pos, ◌+ℤ◌, length, Option, Result, Float}
use Rattle.std.specs.Option.{option_copied}
use Rattle.dsp_types.specs.declared.ComplexSample.{ComplexSample}
use Rattle.dsp_types.specs.Refusals.{accepted, counters}
use Rattle.fir.specs.Fir.{line_after, outs_of, start_with}
use Rattle.mapper.specs.declared.Due.{Due}
use Rattle.mapper.specs.declared.slot.SlotToSend.{SlotToSend}
use Rattle.mapper.specs.Dqpsk.{phase_after, input_of}
use Rattle.mapper.specs.Due.{place_in, due_at, due_of, due_refusal}
use Rattle.modulator.specs.Sender.{SenderReply, Sender, tells, sender_after}

-- the samples, oldest first, the number of the refusal that stopped them, if any, and the sender then
pub record SentBlock : Type 0 where
  pub outs : List ComplexSample
  pub refusal : ℕ
  pub sender : Sender

-- one call's answer, and the block of the calls behind it
unfoldable pub joined_if : ℕ → SenderReply → Sender → SentBlock → SentBlock
joined_if zero t s rest = record { outs = t.samples ++ rest.outs; refusal = rest.refusal; sender = rest.sender }
joined_if (suc n) t s rest = record { outs = []; refusal = suc n; sender = s }

-- a refusal, whose number is not 0, ends the block
unfoldable pub joined : SenderReply → Sender → SentBlock → SentBlock
joined t s rest = joined_if t.number t s rest

-- at most n calls, where `due i` is due at the next
unfoldable pub sent_block : (ℕ → Result Due ℕ) → ℕ → ℕ → Sender → SentBlock
sent_block due zero i s = record { outs = []; refusal = accepted; sender = s }
sent_block due (suc n) i s = joined (tells s (due i)) (sender_after s (due i)) (sent_block due n (suc i) (sender_after s (due i)))

-- a block call with room for n samples. It is refused first, whatever the room is (01, "The sender": checked in every call)
unfoldable pub block_call : (ℕ → Result Due ℕ) → ℕ → Sender → SentBlock
block_call due zero s = record { outs = []; refusal = due_refusal (due 0); sender = s }
block_call due (suc n) s = sent_block due (suc n) 0 s

-- what is due i samples after the first
unfoldable pub due_after : ℤ → ℕ → Option (List ℕ) → ℕ → Result Due ℕ
due_after first slot bits i = due_of (first +ℤ pos i) slot bits

-- the parts of samples as radio files have them: re, im, re, im, ..
unfoldable pub parts_of : List ComplexSample → List Float
parts_of [] = []
parts_of (x ∷ xs) = x.re ∷ x.im ∷ parts_of xs

-- what a block call leaves: the block's samples at the start of the buffer, how many they are, its refusal and its sender
pub record Wrote (b : SentBlock) (count refusal : ℕ) (sender : Sender) (out out' : List Float) : Type 0 where
  pub counted : count ≡ length b.outs
  pub refused : refusal ≡ b.refusal
  pub sent : sender ≡ b.sender
  pub written : out' ≡ start_with (parts_of b.outs) out

-- ---- samples that are not refused

-- what is due i samples after an accepted one, in a slot that starts there
unfoldable pub place_due : ℕ → ℕ → Option (List ℕ) → ℕ → Result Due ℕ
place_due first start bits i = due_at bits (place_in (pos (first + i)) start)

-- ... in a slot of the code
abbrev pub slot_due : ℕ → SlotToSend → ℕ → Result Due ℕ
slot_due first slot = place_due first slot.start (option_copied slot.bits)

-- what the filter is fed for n samples
unfoldable pub inputs_of : (ℕ → Result Due ℕ) → ℕ → ℕ → ℕ → List ComplexSample
inputs_of due zero i phase = []
inputs_of due (suc n) i phase = input_of (phase_after phase (due i)) (due i) ∷ inputs_of due n (suc i) (phase_after phase (due i))

-- the phase after n samples
unfoldable pub phases_of : (ℕ → Result Due ℕ) → ℕ → ℕ → ℕ → ℕ
phases_of due zero i phase = phase
phases_of due (suc n) i phase = phases_of due n (suc i) (phase_after phase (due i))

-- n samples that are not refused, and the number of the refusal behind them
unfoldable pub fed_block : (ℕ → Result Due ℕ) → ℕ → ℕ → Sender → SentBlock
fed_block due n r s =
    record {
      outs = outs_of s.line (inputs_of due n 0 s.phase);
      refusal = r;
      sender = record { line = line_after s.line (inputs_of due n 0 s.phase); phase = phases_of due n 0 s.phase };
    }

-- how many samples there are before the counter or the slot that starts there ends
unfoldable pub left_of : ℕ → ℕ → ℕ
left_of counter start = min (counters - counter) (start + 1020 - (counter + 16))
