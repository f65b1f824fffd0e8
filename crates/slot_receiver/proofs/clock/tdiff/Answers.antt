-- The numbers are so small that neither difference leaves its range.
use Rattle.std.proofs.Common.{◌≡◌, ◌^◌, ◌-ℤ◌, ◌∙◌, pos, lit≤}
use Rattle.slot_receiver.proofs.Signed.{read, minus_is, wider, within_less, minus_few}
use Rattle.slot_receiver.proofs.clock.tdiff.Goals as goal

pub returns : goal.returns
returns c =
    let p = c.requires in
    let delayed : c.minus.result.0 ≡ c.args.counter.0 -ℤ pos 16 =
    c.minus.ensures ∙ minus_few 16 (lit≤ tt) (lit≤ tt) p.0 in
    let w = within_less {n = 16} delayed p.0 (lit≤ tt) (lit≤ tt) in
    rw (read _ c.since.type_inv, c.since.ensures, minus_is w (wider (2 ^ 61) (lit≤ tt) p.1), delayed)
