-- `sender_reply` tells all answers apart. Assumes nothing.
use mathlib.Core.Path.{◌≡◌, refl, sym, ap, ◌∙◌}
use mathlib.Core.List.{List, [], ◌∷◌}
use Prim.Native.Nat.{ℕ}
use Rattle.std.specs.Prelude.{Result, Ok, Err}
use Rattle.dsp_types.specs.declared.ComplexSample.{ComplexSample}
use Rattle.dsp_types.specs.declared.refusals.Refusal.{Refusal}
use Rattle.dsp_types.proofs.Numbers.{refusal_of, refusal_back}
use Rattle.modulator.specs.Sender.{SenderReply, sender_reply}

answer_of : ℕ → List ComplexSample → Result ComplexSample Refusal
answer_of n [] = Err (refusal_of n)
answer_of n (x ∷ xs) = Ok x

answer_back : (a : Result ComplexSample Refusal) → answer_of (sender_reply a).number (sender_reply a).samples ≡ a
unfolding sender_reply answer_of
answer_back (Ok x) = refl
answer_back (Err r) = ap Err (refusal_back r)

pub told_apart : (a b : Result ComplexSample Refusal) → sender_reply a ≡ sender_reply b → a ≡ b
told_apart a b e = sym (answer_back a) ∙ ap (λ (t : SenderReply). answer_of t.number t.samples) e ∙ answer_back b
