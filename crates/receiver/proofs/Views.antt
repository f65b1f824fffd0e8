-- A call that left all as it was, and a sample as it is answered. Assumes nothing.
use mathlib.Core.Path.{◌≡◌, sym, ap, ◌∙◌}
use mathlib.Core.Bool.{Bool}
use lib.IntN.{ℤ}
use Rattle.dsp_types.specs.declared.ComplexSample.{ComplexSample}
use Rattle.std.specs.Prelude.{Ok, Err}
use Rattle.dsp_types.specs.declared.refusals.Refusal.{Refusal}
use Rattle.dsp_types.specs.Answers.{number_of}
use Rattle.slot_receiver.specs.Receiver.{Receiver}
use Rattle.slot_receiver.specs.Calls.{Outcome, done, refused, sampled, sample_outcome}
use Rattle.dsp_types.proofs.Numbers.{not_accepted}
use Rattle.slot_receiver.proofs.Outcomes.{sample_refused, sample_accepted}
use Rattle.receiver.specs.Hearing.{Judges}
use mathlib.Core.List.{List}
use lib.Ieee.{Float}
use Rattle.receiver.specs.declared.State.{State}
use Rattle.receiver.specs.View.{receiver_of, Untouched}

pub untouched_receiver : {s s' : State} {re re' im im' abs abs' : List Float} → Untouched s s' re re' im im' abs abs' → receiver_of s' re' im' abs' ≡ receiver_of s re im abs
untouched_receiver u = λ i. receiver_of (u.state i) (u.past_re i) (u.past_im i) (u.past_abs i)

pub untouched_both : {s s' s'' : State} {re re' re'' im im' im'' abs abs' abs'' : List Float} → Untouched s s' re re' im im' abs abs'
    → Untouched s' s'' re' re'' im' im'' abs' abs'' → Untouched s s'' re re'' im im'' abs abs''
untouched_both u v =
    record { state = v.state ∙ u.state; past_re = v.past_re ∙ u.past_re; past_im = v.past_im ∙ u.past_im; past_abs = v.past_abs ∙ u.past_abs }

-- a sample that was judged: it is heard, or refused
pub judged_ok : {r after : Receiver} {x : ComplexSample} {c : ℤ} {handed : Bool} → Judges r x c (Ok handed) after
    → (done ≡ (sample_outcome r x c).reply) × (after ≡ (sample_outcome r x c).receiver)
unfolding sampled
judged_ok {r} {after} {x} {c} j =
    let e = sample_accepted r x c (sym j.refusal) in
    (sym (ap (λ (o : Outcome). o.reply) e), j.receiver ∙ sym (ap (λ (o : Outcome). o.receiver) e))

pub judged_err : {r after : Receiver} {x : ComplexSample} {c : ℤ} {refusal : Refusal} → Judges r x c (Err refusal) after
    → (refused (number_of refusal) ≡ (sample_outcome r x c).reply) × (r ≡ (sample_outcome r x c).receiver)
judged_err {r} {after} {x} {c} {refusal} j =
    let e = sample_refused r x c j.refusal (not_accepted refusal) in
    (sym (ap (λ (o : Outcome). o.reply) e), sym (ap (λ (o : Outcome). o.receiver) e))
