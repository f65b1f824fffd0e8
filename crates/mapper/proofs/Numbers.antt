-- `numbered` tells all answers apart. Assumes nothing.
use mathlib.Core.Path.{◌≡◌, refl, sym, ap, ◌∙◌}
use Prim.Native.Nat.{ℕ}
use Rattle.std.specs.Prelude.{Result, Ok, Err}
use Rattle.dsp_types.specs.declared.refusals.Refusal.{Refusal}
use Rattle.dsp_types.proofs.Numbers.{refusal_of, refusal_back}
use Rattle.mapper.specs.Due.{numbered}

module _ {T : Type 0} where
  answer_of : Result T ℕ → Result T Refusal
  answer_of (Ok x) = Ok x
  answer_of (Err n) = Err (refusal_of n)

  answer_back : (a : Result T Refusal) → answer_of (numbered a) ≡ a
  unfolding answer_of
  answer_back (Ok x) = refl
  answer_back (Err r) = ap Err (refusal_back r)

  pub numbered_apart : (a b : Result T Refusal) → numbered a ≡ numbered b → a ≡ b
  numbered_apart a b e = sym (answer_back a) ∙ ap answer_of e ∙ answer_back b
