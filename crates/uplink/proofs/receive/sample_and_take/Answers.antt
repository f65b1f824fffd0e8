-- The two calls are the definition's, and what is taken is `bursts_taken`.
use Rattle.std.proofs.Common.{ap, ◌∙◌}
use Rattle.slot_receiver.specs.Receiver.{Receiver}
use Rattle.slot_receiver.specs.Calls.{take_outcome, in_numbers}
use Rattle.demodulator.specs.View.{view_of}
use Rattle.uplink.specs.Received.{taken_after}
use Rattle.uplink.proofs.Taking.{both_refused, bursts_taken, counter_taken}
use Rattle.uplink.proofs.receive.sample_and_take.Goals as goal

pub returns : goal.returns
unfolding taken_after
returns c =
    let a = c.args in
    let taken = c.take_demodulated_slot-taken.ensures in
    let heard = c.sample-sampled.ensures in
    let answer = taken.answer ∙ ap (λ (r : Receiver). in_numbers (take_outcome r a.slot.now a.subslot1.now a.subslot2.now).reply) heard.receiver in
    let lent = taken.lent ∙ ap (λ (r : Receiver). (take_outcome r a.slot.now a.subslot1.now a.subslot2.now).lent) heard.receiver in
    record {
      sampled = heard.answer;
      taken = answer;
      receiver = taken.receiver ∙ ap (λ (r : Receiver). (take_outcome r a.slot.now a.subslot1.now a.subslot2.now).receiver) heard.receiver;
      lent = lent;
      refused = both_refused _ _ _ c.sample-sampled.result c.take_demodulated_slot-taken.result heard.refused taken.refused;
      counter = counter_taken (view_of a.receiver.now) a.input a.counter.0 a.slot.now a.subslot1.now a.subslot2.now answer;
      found = bursts_taken (view_of a.receiver.now) a.input a.counter.0 a.slot.now a.subslot1.now a.subslot2.now answer lent;
    }
