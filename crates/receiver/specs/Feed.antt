-- A block of samples in one call: `sample` for each, up to a slot or a refusal. Definitions only.
use Rattle.std.specs.Prelude.{ℕ, suc, Bool, true, false, List, [], ◌∷◌, ℤ, pos, ◌+ℤ◌, Float}
use Rattle.dsp_types.specs.declared.ComplexSample.{ComplexSample}
use Rattle.dsp_types.specs.Answers.{number_of}
use Rattle.receiver.specs.declared.feed.Stop.{Stop}
use Rattle.receiver.specs.declared.feed.Stop.TheVariants.{End, Slot, Refused}
use Rattle.rx_slot.specs.Slots.{HandedSlot}
use Rattle.slot_receiver.specs.Receiver.{Receiver}
use Rattle.slot_receiver.specs.Windows.{hands_over}
use Rattle.slot_receiver.specs.Calls.{Reply, refused, done, took, sample_outcome}

-- the samples of a row of parts re, im, re, im, ..; a left-over part is none
unfoldable pub interleaved : List Float → List ComplexSample
interleaved [] = []
interleaved (re ∷ []) = []
interleaved (re ∷ im ∷ parts) = record { re = re; im = im } ∷ interleaved parts

-- why no more samples were taken: there were no more, a slot was handed over, or the next one is refused with this number
pub data Stopped : Type 0 where
  at_end at_slot : Stopped
  at_refusal : ℕ → Stopped

-- .. in these terms: no two of its cases come to the same (`told_apart` of proofs/Told.antt)
unfoldable pub stopped : Stop → Stopped
stopped End = at_end
stopped Slot = at_slot
stopped (Refused refusal) = at_refusal (number_of refusal)

-- how many samples were taken, why no more were, and the receiver after them
pub record Block : Type 0 where
  pub taken : ℕ
  pub stop : Stopped
  pub receiver : Receiver

-- an accepted sample, by whether it hands a slot over, with the receiver after it and what the others come to
unfoldable pub fed_one : Bool → Receiver → Block → Block
fed_one true after others = record { taken = 1; stop = at_slot; receiver = after }
fed_one false after others = record { taken = suc others.taken; stop = others.stop; receiver = others.receiver }

-- a sample, by its answer: a refused one is not taken
unfoldable pub fed_by : Reply HandedSlot → Receiver → Block → Block
fed_by (refused n) r block = record { taken = 0; stop = at_refusal n; receiver = r }
fed_by done r block = block
fed_by (took h) r block = block

-- samples with the counters c, c + 1, ..: it stops before a refused one, and after one that hands a slot over
unfoldable pub feed_of : Receiver → List ComplexSample → ℤ → Block
feed_of r [] c = record { taken = 0; stop = at_end; receiver = r }
feed_of r (x ∷ xs) c =
    let o = sample_outcome r x c in
    fed_by o.reply r (fed_one (hands_over o.windows) o.receiver (feed_of o.receiver xs (c +ℤ pos 1)))
