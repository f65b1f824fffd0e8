-- The answer by its number: the counter is read as it came.
use Rattle.std.proofs.Common.{ap, ◌∙◌, w64}
use Rattle.std.proofs.lemmas.Int.{to_z-of_z}
use Rattle.modem.specs.Receive.{reply_number}
use Rattle.modem.proofs.Receiving.{answered}
use Rattle.modem.proofs.state.tetra_state_sample.Goals as goal

pub returns-clause-refusal : goal.returns-clause-refusal
returns-clause-refusal c =
    c.answer_number.ensures ∙ answered c.sample-sampled.result ∙ ap reply_number (rw (to_z-of_z w64 _ c.ranges.counter) at c.sample-sampled.ensures.answer)
