-- Refusals and their numbers: none is 0, and each stands for one refusal; and what is told by such a number or 0. Assumes nothing.
use mathlib.Core.Path.{◌≡◌, refl, sym, ap, ◌∙◌}
use mathlib.Core.Bool.{cond}
use Prim.Native.Nat.{ℕ, zero, suc}
use native.Mathlib.Omega.{arith}
use lib.Dec.{eqb}
use Rattle.std.specs.Prelude.{Option, None, Some, Result, Ok, Err}
use Rattle.dsp_types.specs.declared.refusals.Refusal.{Refusal}
use Rattle.dsp_types.specs.declared.refusals.Refusal.TheVariants.{BadSample, BadCounter, BadLength, BadBit, BadTraining, BadSlot, BadKind, PastCounter, NoSlot, NeedMoreData, NotFollowing}
use Rattle.dsp_types.specs.Answers.{number_of, answer_number, end_number}

-- no refusal tells that a call was accepted
pub not_accepted : (r : Refusal) → number_of r ≡ 0 → ⊥
not_accepted BadSample e = omega (arith, e)
not_accepted BadCounter e = omega (arith, e)
not_accepted BadLength e = omega (arith, e)
not_accepted BadBit e = omega (arith, e)
not_accepted BadTraining e = omega (arith, e)
not_accepted BadSlot e = omega (arith, e)
not_accepted BadKind e = omega (arith, e)
not_accepted PastCounter e = omega (arith, e)
not_accepted NoSlot e = omega (arith, e)
not_accepted NeedMoreData e = omega (arith, e)
not_accepted NotFollowing e = omega (arith, e)

-- the refusal with that number
unfoldable pub refusal_of : ℕ → Refusal
refusal_of n =
    cond (eqb n 1) BadSample (cond (eqb n 2) BadCounter (cond (eqb n 3) BadLength (cond (eqb n 4) BadBit (cond (eqb n 5) BadTraining
    (cond (eqb n 6) BadSlot (cond (eqb n 7) BadKind (cond (eqb n 10) PastCounter (cond (eqb n 11) NoSlot (cond (eqb n 12) NeedMoreData NotFollowing)))))))))

pub refusal_back : (r : Refusal) → refusal_of (number_of r) ≡ r
unfolding refusal_of
refusal_back BadSample = refl
refusal_back BadCounter = refl
refusal_back BadLength = refl
refusal_back BadBit = refl
refusal_back BadTraining = refl
refusal_back BadSlot = refl
refusal_back BadKind = refl
refusal_back PastCounter = refl
refusal_back NoSlot = refl
refusal_back NeedMoreData = refl
refusal_back NotFollowing = refl

-- what gives no value, by its number
module _ {T : Type 0} (done : T) (stopped : Refusal → T) where
  unfoldable pub by_number : ℕ → T
  by_number zero = done
  by_number (suc n) = stopped (refusal_of (suc n))

  pub number_back : (r : Refusal) → by_number (number_of r) ≡ stopped r
  unfolding by_number
  number_back r = go (number_of r) refl
    where
      go : (n : ℕ) → number_of r ≡ n → by_number n ≡ stopped r
      go zero e = absurd (not_accepted r e)
      go (suc n) e = ap stopped (ap refusal_of (sym e) ∙ refusal_back r)

-- .. as the answer of a call
pub answer_back : (a : Result (Unit {0}) Refusal) → by_number (Ok tt) Err (answer_number a) ≡ a
unfolding by_number
answer_back (Ok x) = refl
answer_back (Err r) = number_back (Ok tt) Err r

-- .. and as what ended a block: no two of these tell the same
end_back : (r : Option Refusal) → by_number None Some (end_number r) ≡ r
unfolding by_number
end_back None = refl
end_back (Some r) = number_back None Some r

pub end_apart : (a b : Option Refusal) → end_number a ≡ end_number b → a ≡ b
end_apart a b e = sym (end_back a) ∙ ap (by_number None Some) e ∙ end_back b
