-- What the absence of a refusal says of the blocks.
use mathlib.Core.Path.{◌≡◌, refl, ◌∙◌}
use mathlib.Core.Bool.{Bool, true, false, ◌||◌}
use mathlib.Core.List.{List}
use Prim.Native.Nat.{ℕ}
use native.Mathlib.Omega.{arith}
use lib.ListN.{length}
use Rattle.dsp_types.proofs.Laws.{right_length, neither}
use Rattle.dsp_types.specs.Refusals.{wrong_length, not_bits}
use Rattle.slotter.specs.Bursts.{length_or_bit, block_refusal}
use Rattle.slotter.specs.Uplink.{pair_refusal}

-- no test passes, and nothing else is wrong
pub passed : (lengths bits : Bool) (otherwise : ℕ) → length_or_bit lengths bits otherwise ≡ 0 → (lengths ≡ false) × (bits ≡ false) × (otherwise ≡ 0)
unfolding length_or_bit
passed true bits otherwise e = absurd (omega (arith, e))
passed false true otherwise e = absurd (omega (arith, e))
passed false false otherwise e = (refl, refl, e)

-- where no block is refused, each has its length
pub right_lengths : (n : ℕ) (blk1 bbk blk2 : List ℕ) (otherwise : ℕ) → block_refusal n blk1 bbk blk2 otherwise ≡ 0
    → (length blk1 ≡ n) × (length bbk ≡ 30) × (length blk2 ≡ 216)
unfolding block_refusal
right_lengths n blk1 bbk blk2 otherwise e =
    let l = (passed (wrong_length n blk1 || wrong_length 30 bbk || wrong_length 216 blk2) (not_bits blk1 || not_bits bbk || not_bits blk2) otherwise e).0 in
    let m = neither (wrong_length n blk1 || wrong_length 30 bbk) (wrong_length 216 blk2) l in
    let k = neither (wrong_length n blk1) (wrong_length 30 bbk) m.0 in
    (right_length n blk1 k.0, right_length 30 bbk k.1, right_length 216 blk2 m.1)

-- .. and of two blocks each has its length and bits alone
pub right_pair : (n : ℕ) (blk1 blk2 : List ℕ) (otherwise : ℕ) → pair_refusal n blk1 blk2 otherwise ≡ 0
    → (length blk1 ≡ n) × (length blk2 ≡ n) × (not_bits blk1 ≡ false) × (not_bits blk2 ≡ false) × (otherwise ≡ 0)
unfolding pair_refusal
right_pair n blk1 blk2 otherwise e =
    let p = passed (wrong_length n blk1 || wrong_length n blk2) (not_bits blk1 || not_bits blk2) otherwise e in
    let l = neither (wrong_length n blk1) (wrong_length n blk2) p.0 in
    let b = neither (not_bits blk1) (not_bits blk2) p.1 in
    (right_length n blk1 l.0, right_length n blk2 l.1, b.0, b.1, p.2)

-- ---- what else is wrong is told only where the blocks are right

later : (lengths bits : Bool) (otherwise : ℕ) → (length_or_bit lengths bits 0 ≡ 0 → ⊥) → length_or_bit lengths bits 0 ≡ length_or_bit lengths bits otherwise
unfolding length_or_bit
later true bits otherwise h = refl
later false true otherwise h = refl
later false false otherwise h = absurd (h refl)

next : (lengths bits : Bool) (otherwise : ℕ) → 0 ≡ length_or_bit lengths bits 0 → otherwise ≡ length_or_bit lengths bits otherwise
unfolding length_or_bit
next true bits otherwise e = absurd (omega (arith, e))
next false true otherwise e = absurd (omega (arith, e))
next false false otherwise e = refl

module _ (n : ℕ) (blk1 bbk blk2 : List ℕ) (otherwise : ℕ) where
  pub blocks_before : {k : ℕ} → (k ≡ 0 → ⊥) → k ≡ block_refusal n blk1 bbk blk2 0 → k ≡ block_refusal n blk1 bbk blk2 otherwise
  unfolding block_refusal
  blocks_before h e = e ∙ later _ _ otherwise (λ z. h (e ∙ z))

  pub blocks_right : 0 ≡ block_refusal n blk1 bbk blk2 0 → otherwise ≡ block_refusal n blk1 bbk blk2 otherwise
  unfolding block_refusal
  blocks_right e = next _ _ otherwise e

module _ (n : ℕ) (blk1 blk2 : List ℕ) (otherwise : ℕ) where
  pub pair_before : {k : ℕ} → (k ≡ 0 → ⊥) → k ≡ pair_refusal n blk1 blk2 0 → k ≡ pair_refusal n blk1 blk2 otherwise
  unfolding pair_refusal
  pair_before h e = e ∙ later _ _ otherwise (λ z. h (e ∙ z))

  pub pair_is_right : 0 ≡ pair_refusal n blk1 blk2 0 → otherwise ≡ pair_refusal n blk1 blk2 otherwise
  unfolding pair_refusal
  pair_is_right e = next _ _ otherwise e
