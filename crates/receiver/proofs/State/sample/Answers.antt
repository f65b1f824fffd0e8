-- A sample is only kept, or judged.
use Rattle.std.proofs.Common.{◌≡◌, pos, ◌+ℤ◌, sym, ap, ◌∙◌, arith}
use Rattle.std.proofs.lemmas.Result.{err_from_is_err_and}
use Rattle.slot_receiver.specs.Receiver.{with_next, valid_count, listen, accept}
use Rattle.slot_receiver.specs.Calls.{Outcome, sample_refusal, sampled, sample_outcome, reply_of}
use Rattle.slot_receiver.specs.View.{receiver_from}
use Rattle.slot_receiver.proofs.Outcomes.{sample_accepted}
use Rattle.receiver.specs.View.{receiver_of}
use Rattle.receiver.proofs.Samples.{not_refused, next_counter_lem}
use Rattle.receiver.proofs.Keeping.{QuietAt, quiet_at, kept_one}
use Rattle.receiver.proofs.Views.{untouched_receiver, judged_ok, judged_err}
use Rattle.receiver.proofs.State.sample.Goals as goal
use Rattle.receiver.proofs.State.sample.Goals.{Then-keeps}

-- ---- a sample that is only kept

quiet : (c : Then-keeps) → QuietAt (receiver_of c.args.self.now c.args.re.now c.args.im.now c.args.abs.now) c.args.sample_counter.0 1
unfolding receiver_of receiver_from
quiet c =
    let k = c.keeps.ensures c.if-keeps.true in
    quiet_at (receiver_of c.args.self.now c.args.re.now c.args.im.now c.args.abs.now) c.args.sample_counter.0 k.count 1 k.some k.only (omega (arith, k.some))

pub returns-then-keeps : goal.returns-then-keeps
unfolding reply_of sampled
returns-then-keeps c =
    let q = quiet (goal.at.returns-then-keeps c).Then-keeps in
    let a = c.args in
    let r = receiver_of a.self.now a.re.now a.im.now a.abs.now in
    let one : (sample_refusal (valid_count r.next) a.input a.sample_counter.0 ≡ 0) × (with_next (listen r a.input) (a.sample_counter.0 +ℤ pos 1) ≡ accept r a.input a.sample_counter.0) =
    kept_one r a.input a.sample_counter.0 q (c.keeps.ensures c.if-keeps.true).fine in
    let goes : sample_outcome r a.input a.sample_counter.0 ≡ sampled r a.input a.sample_counter.0 = sample_accepted r a.input a.sample_counter.0 one.0 in
    let h = not_refused (valid_count r.next) a.input a.sample_counter.0 one.0 in
    record {
      answer = sym (ap (λ (o : Outcome). o.reply) goes);
      receiver =
          c.keep.ensures
          ∙ ap (with_next (listen r a.input)) (c.plus.ensures ∙ next_counter_lem a.sample_counter.0 h.counter)
          ∙ one.1
          ∙ sym (ap (λ (o : Outcome). o.receiver) goes);
      refused = tt;
    }

-- ---- one that is judged

pub returns-in_err-hear : goal.returns-in_err-hear
unfolding reply_of
returns-in_err-hear c =
    let p = err_from_is_err_and c.from_residual.result c.from_residual.ensures.1 in
    let u = rw c.in_err-hear.was at c.hear.ensures.refused in
    let t = judged_err (rw c.in_err-hear.was at c.hear.ensures.judged) in
    rw (p.1, p.2) (record { answer = t.0; receiver = untouched_receiver u ∙ t.1; refused = u })

pub returns : goal.returns
unfolding reply_of
returns c =
    let t = judged_ok (rw c.in_ok-hear.was at c.hear.ensures.judged) in
    record { answer = t.0; receiver = t.1; refused = tt }
