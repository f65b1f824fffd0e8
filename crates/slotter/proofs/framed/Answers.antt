-- The parts that it sums are the windows.
use Rattle.std.proofs.Common.{ap, ◌∙◌}
use mir.Syntax.{w32}
use mir.ValLaws.{to_z-of_z}
use Rattle.train_consts.specs.Training.{normal3}
use Rattle.slotter.specs.Phases.{phase_sum}
use Rattle.slotter.specs.Bursts.{first_window, last_window}
use Rattle.slotter.proofs.Answers.{built}
use Rattle.slotter.proofs.framed.Goals as goal

pub returns : goal.returns
unfolding first_window last_window normal3
returns c =
    let s = c.sum_up_phase-first_sum in
    let t = c.sum_up_phase-last_sum in
    built c.args.last c.args.fields.now (to_z-of_z w32 _ (record { sfits = s.type_inv }) ∙ s.ensures ∙ ap phase_sum c.split_at.ensures.front) (to_z-of_z w32 _ (record { sfits = t.type_inv }) ∙ t.ensures ∙ ap phase_sum c.split_at.ensures.back)
    c.phase_adj_bits-before.ensures c.phase_adj_bits-behind.ensures c.joined.ensures
