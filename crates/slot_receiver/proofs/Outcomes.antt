-- A call by its refusal: refused, all is as it was; else it comes to what its definition says. Assumes nothing.
use mathlib.Core.Path.{◌≡◌, refl, sym}
use Rattle.std.specs.Prelude.{Result, Ok, Err}
use Rattle.dsp_types.specs.declared.refusals.Refusal.{Refusal}
use Rattle.dsp_types.specs.Answers.{number_of, answer_number}
use Rattle.dsp_types.proofs.Numbers.{not_accepted}
use mathlib.Core.List.{List, []}
use Prim.Native.Nat.{ℕ, zero, suc}
use lib.IntN.{ℤ}
use Rattle.dsp_types.specs.declared.ComplexSample.{ComplexSample}
use Rattle.slot_receiver.specs.Receiver.{Receiver, valid_count}
use Rattle.slot_receiver.specs.Calls.{Outcome, refused, unless, sample_refusal, sampled, sample_outcome}

-- what a refused call comes to
abbrev pub kept : ℕ → Receiver → List (List ℕ) → Outcome
kept n r lent = record { reply = refused n; receiver = r; windows = []; lent = lent }

pub unless_refused : {n k : ℕ} (r : Receiver) (lent : List (List ℕ)) (o : Outcome) → n ≡ k → (n ≡ 0 → ⊥) → unless k r lent o ≡ kept n r lent
unfolding unless
unless_refused {n} r lent o e h = rw (← e) (go n h)
  where
    go : (m : ℕ) → (m ≡ 0 → ⊥) → unless m r lent o ≡ kept m r lent
    go zero t = absurd (t refl)
    go (suc m) t = refl

pub unless_accepted : {k : ℕ} (r : Receiver) (lent : List (List ℕ)) (o : Outcome) → k ≡ 0 → unless k r lent o ≡ o
unfolding unless
unless_accepted r lent o e = rw e

-- by the answer that says whether it is refused
module _ {A : Type 0} {k : ℕ} {answer : Result A Refusal} (r : Receiver) (lent : List (List ℕ)) (o : Outcome) (said : answer_number answer ≡ k) where
  pub unless_err : (refusal : Refusal) → answer ≡ Err refusal → unless k r lent o ≡ kept (number_of refusal) r lent
  unless_err refusal e = unless_refused r lent o (rw e at said) (not_accepted refusal)

  pub unless_ok : {x : A} → answer ≡ Ok x → unless k r lent o ≡ o
  unless_ok e = unless_accepted r lent o (sym (rw e at said))

module _ (r : Receiver) (x : ComplexSample) (c : ℤ) where
  pub sample_refused : {n : ℕ} → n ≡ sample_refusal (valid_count r.next) x c → (n ≡ 0 → ⊥) → sample_outcome r x c ≡ kept n r []
  unfolding sample_outcome
  sample_refused e h = unless_refused r [] (sampled r x c) e h

  pub sample_accepted : sample_refusal (valid_count r.next) x c ≡ 0 → sample_outcome r x c ≡ sampled r x c
  unfolding sample_outcome
  sample_accepted e = unless_accepted r [] (sampled r x c) e
