-- The counter is not below the next one, so the difference is not negative.
use Rattle.std.proofs.Common.{◌≡◌, ◌∙◌, ◌^◌, ◌-ℤ◌}
use Rattle.std.specs.Int.Signed.{mag}
use lib.Dec.{lit≤}
use Rattle.dsp_types.proofs.IntLaws.{lt_z_false}
use Rattle.slot_receiver.proofs.Signed.{read, minus_is, wider, counter_37}
use Rattle.receiver.proofs.Samples.{missing_least}
use Rattle.receiver.proofs.hear.missing_samples.Goals as goal

pub returns : goal.returns
returns c =
    let a = c.args in
    let lost : c.unsigned.result ≡ mag (a.counter.0 -ℤ a.next.0) =
    rw (c.unsigned.ensures, read _ c.since.type_inv, c.since.ensures, minus_is (wider (2 ^ 61) (lit≤ tt) (counter_37 c.requires.1)) (wider (2 ^ 61) (lit≤ tt) (counter_37 c.requires.0))) in
    c.min.ensures ∙ rw lost (missing_least a.counter.0 a.next.0 (lt_z_false a.counter.0 a.next.0 c.requires.2))
