-- So far from the ready time, the slots are fewer than 2^31.
use Rattle.std.proofs.Common.{◌≡◌, ◌^◌, ◌<◌, ◌-◌, ◌-ℤ◌, ◌∙◌, ℤ, pos, neg_ℤ, lit≤, w64, to_z, of_z, to_z-of_z}
use Rattle.std.proofs.Math.IntN.{+ℤ_idl}
use Rattle.std.specs.Int.Signed.{mag}
use Rattle.dsp_types.specs.Times.{div_euclid}
use Rattle.slot_receiver.specs.Bounds.{Within}
use Rattle.slot_receiver.specs.Receiver.{slots_to_skip}
use Rattle.slot_receiver.proofs.Signed.{read, read_within, wider, negated_fits, negated_within, quotient_within, skipped_fits}
use Rattle.slot_receiver.proofs.clock.slots_to_skip.Goals as goal

few : (t : ℤ) → Within (2 ^ 41 - 2 ^ 34) t → Within (2 ^ 61) (div_euclid (neg_ℤ t) 1020)
few t h = wider (2 ^ 61) (lit≤ tt) (quotient_within _ (negated_within t h))

module _ (t q : ℤ) (h : Within (2 ^ 41 - 2 ^ 34) t) (k : mag q < 2 ^ 63) (e : q ≡ div_euclid (to_z w64 (of_z w64 (pos 0 -ℤ to_z w64 (of_z w64 t)))) 1020) where
  -- the quotient, read back from its bits
  quotient : to_z w64 (of_z w64 q) ≡ div_euclid (neg_ℤ t) 1020
  quotient =
      let w : Within (2 ^ 61) t = wider (2 ^ 61) (lit≤ tt) h in
      rw (read q k, e, read_within w, to_z-of_z (negated_fits t w), +ℤ_idl)

  skips : to_z w64 (of_z w64 (pos 0 -ℤ to_z w64 (of_z w64 q))) ≡ slots_to_skip t
  unfolding slots_to_skip
  skips =
      let z = div_euclid (neg_ℤ t) 1020 in
      rw quotient (to_z-of_z (negated_fits z (few t h)) ∙ +ℤ_idl (neg_ℤ z))

pub overflow_sub-result : goal.overflow_sub-result
overflow_sub-result c = rw (quotient c.args.t c.div_euclid.result c.requires c.div_euclid.type_inv c.div_euclid.ensures) (negated_fits _ (few c.args.t c.requires))

pub overflow_cast-result : goal.overflow_cast-result
overflow_cast-result c = rw (skips c.args.t c.div_euclid.result c.requires c.div_euclid.type_inv c.div_euclid.ensures) (skipped_fits _ c.requires)

pub returns : goal.returns
returns c = rw (skips c.args.t c.div_euclid.result c.requires c.div_euclid.type_inv c.div_euclid.ensures) (to_z-of_z (skipped_fits _ c.requires))
