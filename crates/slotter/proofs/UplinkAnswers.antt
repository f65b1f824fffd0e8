-- An uplink builder's answer from its parts, and what its number and its bits are.
use mathlib.Core.Path.{◌≡◌, refl, sym, ap, ◌∙◌}
use mathlib.Core.List.{List}
use Prim.Native.Nat.{ℕ, zero, suc}
use Rattle.std.specs.Prelude.{Result, Ok, Err}
use Rattle.dsp_types.specs.declared.refusals.Refusal.{Refusal}
use Rattle.dsp_types.specs.Answers.{number_of, answer_number}
use Rattle.slotter.specs.Uplink.{UplinkReply, built, refused, uplink_reply, uplink_unless, uplink_number, uplink_bits}
use Rattle.dsp_types.proofs.Numbers.{not_accepted, refusal_of, refusal_back}

-- the refusal with the number n, or, where that is 0, the burst
pub uplink_refuses : (r : Refusal) (n : ℕ) (fields : List ℕ) → number_of r ≡ n → uplink_reply (Err r) ≡ uplink_unless n fields
unfolding uplink_reply uplink_unless
uplink_refuses r zero fields e = absurd (not_accepted r e)
uplink_refuses r (suc n) fields e = ap refused e

pub uplink_accepts : {bits : List ℕ} (n : ℕ) (fields : List ℕ) → 0 ≡ n → bits ≡ fields → uplink_reply (Ok bits) ≡ uplink_unless n fields
unfolding uplink_reply uplink_unless
uplink_accepts n fields e p = rw (← e, p)

-- the number, and the bits where it is 0
pub uplink_number_lem : (n : ℕ) (fields : List ℕ) → uplink_number (uplink_unless n fields) ≡ n
unfolding uplink_number uplink_unless
uplink_number_lem zero fields = refl
uplink_number_lem (suc n) fields = refl

pub uplink_bits_lem : (n : ℕ) (fields : List ℕ) → n ≡ 0 → uplink_bits (uplink_unless n fields) ≡ fields
unfolding uplink_bits uplink_unless
uplink_bits_lem n fields e = rw e

-- an answer's number is its reply's
pub told_uplink_number : (answer : Result (List ℕ) Refusal) → answer_number answer ≡ uplink_number (uplink_reply answer)
unfolding uplink_number uplink_reply
told_uplink_number (Ok bits) = refl
told_uplink_number (Err r) = refl

-- `uplink_reply` tells all answers apart
pub uplink_told_apart : (a b : Result (List ℕ) Refusal) → uplink_reply a ≡ uplink_reply b → a ≡ b
unfolding uplink_reply
uplink_told_apart a b e = sym (back a) ∙ ap answer e ∙ back b
  where
    answer : UplinkReply → Result (List ℕ) Refusal
    answer (built bits) = Ok bits
    answer (refused n) = Err (refusal_of n)

    back : (a : Result (List ℕ) Refusal) → answer (uplink_reply a) ≡ a
    back (Ok bits) = refl
    back (Err r) = ap Err (refusal_back r)
