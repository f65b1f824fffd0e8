-- As many samples as `first_samples` gives of those that are left.
use Rattle.std.proofs.Common.{◌≡◌, ℕ, ◌-◌, ◌*◌, ◌/◌, min, length, take, drop, ap, sym, ◌∙◌, arith}
use Rattle.std.proofs.lemmas.List.{length-take, length-drop}
use Rattle.receiver.specs.Feed.{interleaved}
use Rattle.slot_lines.proofs.Steps.{samples_count}
use Rattle.tetra_rx.proofs.input.samples_from.Goals as goal

pub returns : goal.returns
returns c =
    let parts = c.args.parts.now in
    let first = c.first_samples.result.now in
    let start = c.min-start.result in
    let rest = take (length parts - 2 * start) (drop (2 * start) parts) in
    let long : length rest / 2 ≡ length parts / 2 - c.args.from =
    omega (arith, length-take (length parts - 2 * start) (drop (2 * start) parts), length-drop (2 * start) parts, c.min-start.ensures) in
    sym (samples_count first) ∙ ap length c.first_samples.ensures ∙ length-take c.args.n (interleaved rest) ∙ ap (λ (n : ℕ). min c.args.n n) (samples_count rest ∙ long)
