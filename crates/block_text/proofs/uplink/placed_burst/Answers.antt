-- The parts of the bits are the blocks.
use Rattle.std.proofs.Common.{◌≡◌, ◌⊎◌, inl, inr, ◌∙◌, ap, arith}
use Rattle.slotter.specs.Uplink.{UplinkReply, uplink_bits, placed}
use Rattle.block_text.specs.UplinkLines.{uplink_type, uplink_slot}
use Rattle.block_text.proofs.Blocks.{control_blocks, uplink_blocks}
use Rattle.block_text.specs.declared.uplink.UplinkType.{UplinkType}
use Rattle.block_text.specs.declared.uplink.UplinkType.TheVariants.{Normal1, Normal2}
use Rattle.block_text.proofs.uplink.placed_burst.Goals as goal

not_control : (t : UplinkType) → (t ≡ Normal1) ⊎ (t ≡ Normal2) → uplink_type t ≡ 3 → ⊥
not_control t (inl e) k = absurd (omega (arith, k, ap uplink_type e))
not_control t (inr e) k = absurd (omega (arith, k, ap uplink_type e))

pub returns-in-Control : goal.returns-in-Control
unfolding uplink_slot
returns-in-Control c =
    let k = control_blocks (uplink_type c.args.burst_type) c.args.characters.now c.requires c.bits_of-bits.ensures (ap uplink_type c.in-Control.is) in
    c.placed.ensures ∙ ap (λ (t : UplinkReply). placed 510 c.args.offset (uplink_bits t)) (c.build_cub.ensures ∙ k)

pub returns-in-Normal1 : goal.returns-in-Normal1
unfolding uplink_slot
returns-in-Normal1 c =
    let e = c.placed-in-Normal1.ensures ∙ ap (λ (t : UplinkReply). placed 510 c.args.offset (uplink_bits t)) c.build_nub.ensures in
    e ∙ rw c.number.ensures (ap (λ (t : UplinkReply). placed 510 c.args.offset (uplink_bits t))
    (uplink_blocks (uplink_type c.args.burst_type) c.args.characters.now c.requires c.bits_of-bits-in-Normal1.ensures (not_control c.args.burst_type c.in-Normal1.is)))
