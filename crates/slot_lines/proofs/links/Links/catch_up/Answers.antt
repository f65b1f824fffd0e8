-- The step of the uplink.
use Rattle.std.proofs.Common.{Bool, ◌&&◌, ap}
use Rattle.slot_lines.specs.Blocks.{step_made}
use Rattle.slot_lines.specs.Links.{up_style, still_begins, both_of, both_made}
use Rattle.slot_lines.proofs.Both.{none_lem, caught_made, few_taken}
use Rattle.slot_lines.proofs.links.Links.catch_up.Goals as goal

pub overflow_sub-self : goal.overflow_sub-self
overflow_sub-self c = few_taken c.args.self.now.behind c.args.samples.now _ c.first_samples-behind.ensures c.hear-heard.ensures.onward.0

pub returns : goal.returns
unfolding step_made up_style still_begins both_of both_made
returns c =
    λ down_re down_im down_abs.
    caught_made c.args.style.form c.args.style.has_bits _ _ _ c.first_samples-behind.ensures c.hear-heard.ensures.step c.shown-line.ensures.line c.shown-line.ensures.is_shown
    (ap (λ (b : Bool). c.args.self.now.begins && b) (none_lem _ _ c.is_none.ensures))
