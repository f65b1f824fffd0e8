-- A slot begins less than 2^39 samples from the reference time.
use Rattle.std.proofs.Common.{◌≡◌, ◌^◌, ◌*◌, ◌+ℤ◌, pos, lit≤, arith, w64}
use Rattle.std.proofs.lemmas.Int.{to_z_pos}
use Rattle.slot_receiver.proofs.Signed.{read, plus_is, wider, within_pos, within_sum, ready_within}
use Rattle.slot_receiver.proofs.clock.ready_time.Goals as goal

pub returns : goal.returns
returns c =
    let a = c.args in
    let p = c.requires in
    let begins : c.plus.result.0 ≡ a.reference.0 +ℤ pos (a.slot.0 * 1020) =
    rw (c.plus.ensures, c.start.ensures.0, to_z_pos w64 (a.slot.0 * 1020) (omega (arith, p.1)))
    (plus_is (wider (2 ^ 61) (lit≤ tt) p.0) (within_pos (2 ^ 61) (omega (arith, p.1)))) in
    rw (c.plus-2.ensures, begins, read _ c.slot_ready_from_begin.type_inv, c.slot_ready_from_begin.ensures)
    (plus_is (wider (2 ^ 61) (lit≤ tt) (within_sum _ _ p.0 (within_pos (2 ^ 40) (omega (arith, p.1))))) (wider (2 ^ 61) (lit≤ tt) (ready_within _)))
