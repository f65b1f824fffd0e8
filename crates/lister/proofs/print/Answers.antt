-- Each arm is a case of `builder_reply` and of `listed_answer`.
use Rattle.std.proofs.Common.{◌∙◌}
use Rattle.slotter.specs.Bursts.{builder_reply, refusal}
use Rattle.lister.specs.Listing.{listed_answer}
use Rattle.lister.proofs.print.Goals as goal

pub returns-in-Ok : goal.returns-in-Ok
unfolding builder_reply listed_answer
returns-in-Ok c =
    c.built.ensures ∙ rw c.in-Ok.is

pub returns-in-Err : goal.returns-in-Err
unfolding builder_reply refusal listed_answer
returns-in-Err c = c.refused.ensures ∙ rw c.in-Err.is
