-- What samples print: each slot that they hand over is taken at once, and its line printed. Definitions only.
use Rattle.std.specs.Prelude.{ℕ, zero, suc, Bool, true, false, cond, ◌||◌, List, [], ◌∷◌, ◌++◌, replicate, drop, ℤ, pos, ◌+ℤ◌, Option, None, Some, is_some}
use Rattle.dsp_types.specs.declared.ComplexSample.{ComplexSample}
use Rattle.dsp_types.specs.Refusals.{accepted, beyond}
use Rattle.dsp_types.specs.Samples.{silence}
use Rattle.dsp_types.specs.Answers.{end_number}
use Rattle.rx_slot.specs.Slots.{HandedSlot}
use Rattle.slot_receiver.specs.Receiver.{Receiver}
use Rattle.slot_receiver.specs.Windows.{hands_over}
use Rattle.slot_receiver.specs.Calls.{Reply, refused, done, took, Outcome, sample_outcome, take_outcome}
use Rattle.receiver.specs.Feed.{Stopped, at_end, at_slot, at_refusal, feed_of}
use Rattle.text.specs.declared.Text.{Text}
use Rattle.slot_text.specs.Lines.{slot_line}
use Rattle.slot_text.specs.declared.Style.{Style}
use Rattle.slot_lines.specs.declared.listen.Heard.{Heard}

-- a take with bytes of the right lengths
unfoldable pub take_next : Receiver → Outcome
take_next r = take_outcome r (replicate 510 0) (replicate 254 0) (replicate 254 0)

-- the line of the slot that a take gave, if it gave one
unfoldable pub taken_line : Style → Reply HandedSlot → List ℕ
taken_line style (refused n) = []
taken_line style done = []
taken_line style (took h) = slot_line style.form style.has_bits style.link h

-- a receiver after a sample: where that handed a slot over, it is taken
unfoldable pub taken_if : Bool → Receiver → Outcome
taken_if true r = take_next r
taken_if false r = record { reply = done; receiver = r; windows = []; lent = [] }

-- ---- a whole block, sample by sample

-- a sample as it is heard: one that is no sample (01, refusal 1) is lost, and a zero stands in its place
unfoldable pub mended : ComplexSample → ComplexSample
mended x = cond (beyond x.re || beyond x.im) silence x

-- what is printed, whether a slot was handed over, and the receiver after it
pub record Printed : Type 0 where
  pub lines : List ℕ
  pub slot : Bool
  pub receiver : Receiver

-- a sample that came to this outcome
unfoldable pub printed_one : Style → Outcome → Printed
printed_one style o = let t = taken_if (hands_over o.windows) o.receiver in record { lines = taken_line style t.reply; slot = hands_over o.windows; receiver = t.receiver }

unfoldable pub hear_one : Style → Receiver → ComplexSample → ℤ → Printed
hear_one style r x c = printed_one style (sample_outcome r (mended x) c)

-- lines, and what is printed behind them
unfoldable pub before : List ℕ → Printed → Printed
before lines rest = record { lines = lines ++ rest.lines; slot = rest.slot; receiver = rest.receiver }

-- samples with the counters c, c + 1, ..
unfoldable pub printed : Style → Receiver → List ComplexSample → ℤ → Printed
printed style r [] c = record { lines = []; slot = false; receiver = r }
printed style r (x ∷ xs) c = let p = hear_one style r x c in before p.lines (printed style p.receiver xs (c +ℤ pos 1))

-- ---- a step on the way: up to the first slot, which is taken, or up to the first refused sample, for which a zero is heard

-- how many samples are done with, the refusal of the last of them, what it printed and left
pub record Step : Type 0 where
  pub taken : ℕ
  pub refusal : ℕ
  pub heard : Printed

-- a row of samples that was fed, by why no more were taken
unfoldable pub stretch_by : Style → ℕ → Stopped → Receiver → Step
stretch_by style n at_end r = record { taken = n; refusal = accepted; heard = record { lines = []; slot = false; receiver = r } }
stretch_by style n at_slot r = let t = take_next r in record { taken = n; refusal = accepted; heard = record { lines = taken_line style t.reply; slot = true; receiver = t.receiver } }
stretch_by style n (at_refusal m) r = record { taken = n; refusal = m; heard = record { lines = []; slot = false; receiver = r } }

unfoldable pub stretch_of : Style → Receiver → List ComplexSample → ℤ → Step
stretch_of style r xs c = let fed = feed_of r xs c in stretch_by style fed.taken fed.stop fed.receiver

-- where the sample behind a row is refused, a zero with its counter is heard
unfoldable pub mended_by : Style → ℕ → Step → ℤ → Step
mended_by style zero s c = s
mended_by style (suc m) s c = record { taken = suc s.taken; refusal = suc m; heard = (stretch_of style s.heard.receiver (silence ∷ []) (c +ℤ pos s.taken)).heard }

unfoldable pub step_of : Style → Receiver → List ComplexSample → ℤ → Step
step_of style r xs c = let s = stretch_of style r xs c in mended_by style s.refusal s c

-- a step, and what the samples behind it print
unfoldable pub from_step : Style → Step → List ComplexSample → ℤ → Printed
from_step style s xs c = before s.heard.lines (printed style s.heard.receiver (drop s.taken xs) (c +ℤ pos s.taken))

-- ---- as it is told: a refusal and a line are there or not

-- a line's bytes, none where there is none
abbrev pub line_of : Option Text → List ℕ
line_of None = []
line_of (Some line) = line

-- the step that was made, with the receiver after it
unfoldable pub step_made : Heard → Receiver → Step
step_made h r = record { taken = h.taken; refusal = end_number h.refusal; heard = record { lines = line_of h.line; slot = is_some h.line; receiver = r } }
