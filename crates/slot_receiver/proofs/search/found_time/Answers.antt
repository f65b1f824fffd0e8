-- The numbers are so small that neither the difference nor the sum leaves its range.
use Rattle.std.proofs.Common.{◌≡◌, ◌^◌, ◌*◌, ◌-ℤ◌, ◌∙◌, pos, lit≤, w64, arith}
use mir.ValLaws.{to_z_pos}
use Rattle.slot_receiver.proofs.Signed.{plus_is, within_pos, within_less, minus_few}
use Rattle.slot_receiver.proofs.search.found_time.Goals as goal

pub returns : goal.returns
returns c =
    let p = c.requires in
    let n = c.args.place * 2 in
    -- when a burst at place 0 would have begun, less a slot
    let first : c.minus.result.0 ≡ c.args.ready.0 -ℤ pos 2034 = c.minus.ensures ∙ minus_few 2034 (lit≤ tt) (lit≤ tt) p.0 in
    let w = within_less {n = 2034} first p.0 (lit≤ tt) (lit≤ tt) in
    rw (c.plus.ensures, to_z_pos w64 n (omega (arith, p.1)), plus_is w (within_pos {n = n} (2 ^ 61) (omega (arith, p.1))), first)
