-- By whether the sample behind a row is refused.
use Rattle.std.proofs.Common.{◌≡◌, ◌-◌, ◌/◌, ◌<◌, ◌^◌, List, length, ℤ, pos, ◌+ℤ◌, ap, ◌∙◌, rules, arith, w64}
use Rattle.std.proofs.lemmas.Int.{to_z_pos}
use Rattle.std.specs.Prelude.{Float}
use Rattle.dsp_types.specs.Times.{fitted}
use Rattle.slot_receiver.specs.Receiver.{Receiver}
use Rattle.receiver.specs.Feed.{interleaved}
use Rattle.slot_text.specs.declared.Style.{Style}
use Rattle.slot_lines.specs.Blocks.{Step, stretch_of, step_made}
use Rattle.slot_lines.proofs.Steps.{not_refused, is_refused, not_mended, is_mended, row_within, hears}
use Rattle.slot_lines.proofs.listen.hear.Goals as goal

-- the row is within the samples, of which there are few enough
few : (style : Style) (r : Receiver) (parts : List Float) (c : ℤ) {s : Step} → s ≡ stretch_of style r (interleaved parts) c → length parts / 2 < 2 ^ 63 - 1 → s.taken < 2 ^ 63 - 1
few style r parts c e h = let w = row_within style r parts c e in omega arith

pub returns-then-is_none : goal.returns-then-is_none
unfolding step_made
returns-then-is_none c =
    let a = c.args in
    let n = not_refused c.hear_row-row.result.refusal c.if-is_none.ensures in
    let h = hears a.style _ a.samples.now a.first.0 (not_mended a.style _ _ _ c.hear_row-row.ensures n) in
    record { step = h.0; whole = h.1.0; onward = h.1.1 }

pub overflow_cast-row : goal.overflow_cast-row
unfolding step_made
overflow_cast-row c =
    let k : length c.args.samples.now / 2 < 2 ^ 63 - 1 = search rules in
    record { sfits = omega (arith, few c.args.style _ c.args.samples.now _ c.hear_row-row.ensures k) }

pub overflow_add-result : goal.overflow_add-result
unfolding step_made
overflow_add-result c =
    let k : length c.args.samples.now / 2 < 2 ^ 63 - 1 = search rules in
    record { fits = omega (arith, few c.args.style _ c.args.samples.now _ c.hear_row-row.ensures k) }

pub returns : goal.returns
unfolding step_made interleaved
returns c =
    let a = c.args in
    let k : length a.samples.now / 2 < 2 ^ 63 - 1 = search rules in
    let d : c.plus-counter.result.0 ≡ fitted (a.first.0 +ℤ pos c.hear_row-row.result.taken) =
    c.plus-counter.ensures ∙ ap (λ (m : ℤ). fitted (a.first.0 +ℤ m)) (to_z_pos w64 c.hear_row-row.result.taken (omega (arith, few a.style _ a.samples.now _ c.hear_row-row.ensures k)))
    in
    let n = is_refused c.hear_row-row.result.refusal c.if-is_none.ensures in
    let h = hears a.style _ a.samples.now a.first.0 (is_mended a.style _ _ _ c.hear_row-row.ensures n d c.hear_row-mended.ensures) in
    record { step = h.0; whole = h.1.0; onward = h.1.1 }
