-- A burst of our builders with at most one flipped bit has its type: its training sequence stands in its place with at most one bit wrong.
use mathlib.Core.Path.{◌≡◌, refl, sym, ◌∙◌}
use mathlib.Core.Bool.{Bool, true, false, cond, ◌||◌}
use mathlib.Core.List.{List}
use Prim.Native.Nat.{ℕ, ◌≤◌}
use native.Mathlib.Omega.{arith}
use lib.ListN.{length}
use lib.Seq.{slice}
use lib.Dec.{eqb}
use borrow.Author.Tests.{eqb-true}
use Rattle.dsp_types.specs.Refusals.{accepted, wrong_length, not_bits}
use Rattle.train_consts.specs.Training.{synchronization, normal1, normal2}
use Rattle.burst_finder.specs.Search.{hamming_distance, errors_at}
use Rattle.burst_finder.proofs.Exact.{exact_at}
use Rattle.burst_finder.proofs.Downlink.{flipped, downlink, sync_type, normal1_type, normal2_type}
use Rattle.slotter.specs.Bursts.{block_refusal, training_refusal, training_of, normal_burst}
use Rattle.slotter.proofs.Answers.{burst_number}
use Rattle.slotter.proofs.Refusal.{passed}
use Rattle.slotter.proofs.Places.{sync_places, normal_places}
use Rattle.rx_slot.specs.Views.{view_on, checked}
use Rattle.account.specs.Rules.{type_of}
use Rattle.account.specs.Account.{Built, sync, normal, Burst}

lengths : (length synchronization ≡ 38) × (length normal1 ≡ 22) × (length normal2 ≡ 22)
unfolding synchronization normal1 normal2
lengths = (refl, refl, refl)

-- a normal burst that is not refused has training sequence 1 or 2
training_accepted : (n : ℕ) (blk1 bbk blk2 : List ℕ) → (normal_burst n blk1 bbk blk2).number ≡ accepted → training_refusal n ≡ 0
unfolding normal_burst block_refusal
training_accepted n blk1 bbk blk2 e =
    (passed (wrong_length 216 blk1 || wrong_length 30 bbk || wrong_length 216 blk2) (not_bits blk1 || not_bits bbk || not_bits blk2) (training_refusal n)
    (sym (burst_number _ _ _) ∙ e)
    ).2

second : (n : ℕ) → eqb n 1 ≡ false → training_refusal n ≡ 0 → n ≡ 2
unfolding training_refusal
second n f e = go (eqb n 2) refl (rw f at e)
  where
    go : (b : Bool) → eqb n 2 ≡ b → ◌≡◌ {A = ℕ} (cond b 0 5) 0 → n ≡ 2
    go true p q = eqb-true n 2 p
    go false p q = absurd (omega (arith, q))

module _ (bits : List ℕ) (full : length bits ≡ 510) where
  near : (sent sequence : List ℕ) (place : ℕ) → hamming_distance bits sent ≤ 1 → errors_at sent sequence place ≡ 0 → errors_at bits sequence place ≤ 1
  near sent sequence place h e = omega (arith, flipped bits sent sequence place)

  normal_type : (n : ℕ) (sent : List ℕ) (b : Bool) → eqb n 1 ≡ b → training_refusal n ≡ 0 → 244 ≤ length sent → slice 244 266 sent ≡ training_of n → hamming_distance bits sent ≤ 1 → type_of bits ≡ n
  unfolding type_of checked view_on training_of downlink
  normal_type n sent true e r l t h =
      rw (normal1_type bits full (near sent normal1 244 h (exact_at sent normal1 244 22 l (t ∙ rw e) (omega (arith, lengths)))))
      (sym (eqb-true n 1 e))
  normal_type n sent false e r l t h =
      rw (normal2_type bits full (near sent normal2 244 h (exact_at sent normal2 244 22 l (t ∙ rw e) (omega (arith, lengths)))))
      (sym (second n e r))

  pub burst_type : {type : ℕ} → Burst type bits → type_of bits ≡ type
  unfolding type_of checked view_on downlink
  burst_type b = go b.built b.flipped
    where
      go : {type : ℕ} {sent : List ℕ} → Built type sent → hamming_distance bits sent ≤ 1 → type_of bits ≡ type
      go (sync blk1 bbk blk2 e) h =
          let p = sync_places blk1 bbk blk2 e in
          rw (sync_type bits full (near _ synchronization 214 h (exact_at _ synchronization 214 38 (omega (arith, p.whole)) p.y (omega (arith, lengths)))))
      go (normal n blk1 bbk blk2 e) h =
          let p = normal_places n blk1 bbk blk2 e in
          normal_type n _ (eqb n 1) refl (training_accepted n blk1 bbk blk2 e) (omega (arith, p.whole)) p.training h
