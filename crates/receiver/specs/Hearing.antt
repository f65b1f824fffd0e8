-- A sample that is judged: for private functions. Definitions only.
use Rattle.std.specs.Prelude.{◌≡◌, Bool, Result, OnOk, IfOk, ℤ}
use Rattle.dsp_types.specs.declared.ComplexSample.{ComplexSample}
use Rattle.dsp_types.specs.declared.refusals.Refusal.{Refusal}
use Rattle.dsp_types.specs.Answers.{answer_number}
use Rattle.slot_receiver.specs.Receiver.{Receiver, valid_count, accept}
use Rattle.slot_receiver.specs.Windows.{hands_over, accept_windows}
use Rattle.slot_receiver.specs.Calls.{sample_refusal}

-- a sample x with the counter c is refused, or is heard, and hands a slot over or not
pub record Judges (r : Receiver) (x : ComplexSample) (c : ℤ) (answer : Result Bool Refusal) (after : Receiver) : Type 0 where
  pub refusal : answer_number answer ≡ sample_refusal (valid_count r.next) x c
  pub receiver : OnOk answer (after ≡ accept r x c)
  pub windows : IfOk answer (λ handed. handed ≡ hands_over (accept_windows r x c))
