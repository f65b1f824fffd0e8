-- A downlink builder's answer from its parts, and what its number and its bits are.
use mathlib.Core.Path.{◌≡◌, refl, sym, ap, ◌∙◌}
use mathlib.Core.List.{List, [], ◌∷◌, ◌++◌}
use Prim.Native.Nat.{ℕ, zero, suc}
use Rattle.std.specs.Prelude.{Result, Ok, Err}
use lib.IntN.{ℤ}
use lib.ListN.{take, drop}
use Rattle.dsp_types.specs.declared.refusals.Refusal.{Refusal}
use Rattle.dsp_types.specs.Answers.{number_of}
use Rattle.dsp_types.proofs.Numbers.{not_accepted, refusal_of, refusal_back}
use Rattle.slotter.specs.declared.Burst.{Burst}
use Rattle.train_consts.specs.Training.{normal3}
use Rattle.slotter.specs.Phases.{phase_sum, adjustment}
use Rattle.slotter.specs.Bursts.{first_window, last_window, downlink, BuilderReply, builder_reply, refusal, burst_unless}

-- ---- `builder_reply` tells all answers apart

answer_of : ℕ → List ℤ → List ℕ → Result Burst Refusal
answer_of n [] bits = Err (refusal_of n)
answer_of n (first ∷ []) bits = Err (refusal_of n)
answer_of n (first ∷ last ∷ sums) bits = Ok (record { first_sum = first; last_sum = last; bits = bits })

burst_of : BuilderReply → Result Burst Refusal
burst_of t = answer_of t.number t.sums t.bits

burst_back : (answer : Result Burst Refusal) → burst_of (builder_reply answer) ≡ answer
unfolding builder_reply refusal answer_of burst_of
burst_back (Ok burst) = refl
burst_back (Err r) = ap Err (refusal_back r)

pub told_apart : (a b : Result Burst Refusal) → builder_reply a ≡ builder_reply b → a ≡ b
told_apart a b e = sym (burst_back a) ∙ ap burst_of e ∙ burst_back b

-- ---- an answer from its parts

-- the burst of those fields, from its sums and its adjustment bits
pub built : (last : ℕ) (fields : List ℕ) {a b : ℤ} {x y bits : List ℕ} → a ≡ phase_sum (first_window last fields) → b ≡ phase_sum (last_window last fields)
    → x ≡ adjustment a → y ≡ adjustment b → bits ≡ drop 10 normal3 ++ x ++ fields ++ y ++ take 10 normal3
    → builder_reply (Ok (record { first_sum = a; last_sum = b; bits = bits })) ≡ burst_unless 0 last fields
unfolding builder_reply burst_unless downlink
built last fields e f g h p = rw (p, g, h, e, f)

-- the refusal with the number n, or, where that is 0, the burst
pub refuses : (r : Refusal) (n last : ℕ) (fields : List ℕ) → number_of r ≡ n → builder_reply (Err r) ≡ burst_unless n last fields
unfolding builder_reply burst_unless
refuses r zero last fields e = absurd (not_accepted r e)
refuses r (suc n) last fields e = ap refusal e

pub accepts : {t : BuilderReply} (n last : ℕ) (fields : List ℕ) → 0 ≡ n → t ≡ burst_unless 0 last fields → t ≡ burst_unless n last fields
accepts n last fields e p = p ∙ ap (λ (m : ℕ). burst_unless m last fields) e

-- the number and the bits of an answer
pub burst_number : (n last : ℕ) (fields : List ℕ) → (burst_unless n last fields).number ≡ n
unfolding burst_unless refusal
burst_number zero last fields = refl
burst_number (suc n) last fields = refl

pub burst_bits : (n last : ℕ) (fields : List ℕ) → n ≡ 0 → (burst_unless n last fields).bits ≡ downlink last fields
unfolding burst_unless
burst_bits n last fields e = rw e
