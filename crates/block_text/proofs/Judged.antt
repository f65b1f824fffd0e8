-- An answer by how its characters are judged, and the slot that it makes.
use mathlib.Core.Path.{◌≡◌, refl}
use mathlib.Core.List.{List, [], ◌∷◌, map}
use Prim.Native.Nat.{ℕ, zero, suc}
use borrow.Author.Tests.{ne_eqb}
use Rattle.std.specs.Prelude.{Err}
use Rattle.dsp_types.specs.declared.refusals.Refusal.{Refusal}
use Rattle.dsp_types.specs.Answers.{number_of}
use Rattle.slotter.specs.Bursts.{builder_reply, refusal}
use Rattle.dsp_types.proofs.Numbers.{not_accepted}
use Rattle.block_text.specs.BlockText.{characters_refusal, character_bit, burst_of, answer_of}
use Rattle.block_text.specs.Lines.{answered, slots_for}

-- an answer, by its refusal
pub refuses : (r : Refusal) (k : ℕ) (cs : List ℕ) → number_of r ≡ characters_refusal k cs → builder_reply (Err r) ≡ answer_of k cs
unfolding builder_reply answer_of
refuses r k cs e = go (number_of r) e (not_accepted r)
  where
    go : (n : ℕ) → n ≡ characters_refusal k cs → (n ≡ 0 → ⊥) → refusal n ≡ answer_of k cs
    go zero e h = absurd (h refl)
    go (suc n) e h = rw (← e)

pub accepts : (k : ℕ) (cs : List ℕ) → 0 ≡ characters_refusal k cs → burst_of k (map character_bit cs) ≡ answer_of k cs
unfolding answer_of
accepts k cs e = rw (← e)

-- a refusal's slot has no burst
pub no_burst : (r : Refusal) (type : ℕ) → [] ∷ [] ≡ slots_for (answered type (builder_reply (Err r)))
unfolding slots_for builder_reply refusal
no_burst r type = rw (ne_eqb (number_of r) 0 (not_accepted r))
