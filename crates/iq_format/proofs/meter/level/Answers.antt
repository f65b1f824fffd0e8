-- The steps of the table that the largest part is below.
use Rattle.std.proofs.Common.{◌∙◌, ltb, rules, tests}
use Rattle.std.proofs.lemmas.Iterator.{YieldsList-from_slice}
use Rattle.std.proofs.lemmas.Iterator.Consumers.{YieldsList-from_filter, count_from_yields_List}
use Rattle.iq_format.specs.declared.meter.TheConstants.{STEP_PATTERNS}
use Rattle.iq_format.specs.Level.{level_of, peak_of, less_than_db}
use Rattle.iq_format.proofs.Steps.{is_step, steps_counted}
use Rattle.iq_format.proofs.meter.level.Goals as goal

pub returns : goal.returns
unfolding level_of is_step less_than_db
returns c =
    let parts = c.args.parts.now in
    count_from_yields_List c.filter.result _ c.count.ensures.ran
    (YieldsList-from_filter _ (λ p. ltb (peak_of parts) p) (YieldsList-from_slice STEP_PATTERNS cc) c.filter.ensures.closure (λ x b q k. rw (← c.peak-peak.ensures) (search (rules, tests))))
    ∙ steps_counted parts (λ i h. c.type_inv.parts i) STEP_PATTERNS tt
