-- A refusal changes nothing, and three views fill the slices.
use Rattle.std.proofs.Common.{rules, ◌≡◌, sym, ap, ◌∙◌, ℕ, ◌≤◌, List, [], ◌∷◌, length, take, ℤ, arith}
use Rattle.std.proofs.lemmas.Result.{err_from_is_err_and}
use Rattle.dsp_types.specs.Answers.{number_of}
use Rattle.dsp_types.specs.Refusals.{wrong_length}
use Rattle.listener.specs.Signal.{Signal}
use Rattle.rx_slot.specs.declared.RxBurst.{RxBurst}
use Rattle.rx_slot.specs.Views.{BurstView, stored_view, valid_view, burst_shown, padded}
use Rattle.rx_slot.specs.Slots.{valid_slot}
use Rattle.rx_slot.proofs.Laws.{stored_front, slot_told, slot_filled}
use Rattle.slot_receiver.specs.Receiver.{with_waits}
use Rattle.slot_receiver.specs.Calls.{Outcome, took, take_refusal, taken, take_outcome, take_reply_of, in_numbers}
use Rattle.slot_receiver.specs.View.{receiver_from}
use Rattle.slot_receiver.proofs.Outcomes.{kept, unless_err, unless_ok}
use Rattle.slot_calls.proofs.Taking.{right_lengths}
use Rattle.slot_calls.proofs.take.take_demodulated_slot.Goals as goal
use Rattle.slot_calls.proofs.take.take_demodulated_slot.Goals.{Start, In_err-take_refusal, In_ok-take_refusal}

-- what a refused take comes to, and an answered one
refused : (c : In_err-take_refusal) (next : ℤ) (signal : Signal) → let a = c.args in
    take_outcome (receiver_from a.slots.now next signal) a.slot.now a.subslot1.now a.subslot2.now
    ≡ kept (number_of c.in_err-take_refusal.field-0.0) (receiver_from a.slots.now next signal) (a.slot.now ∷ a.subslot1.now ∷ a.subslot2.now ∷ [])
unfolding take_outcome take_refusal wrong_length receiver_from
refused c next signal = unless_err _ _ _ c.take_refusal.ensures _ c.in_err-take_refusal.was

answered : (c : In_ok-take_refusal) (next : ℤ) (signal : Signal) → let a = c.args in
    take_outcome (receiver_from a.slots.now next signal) a.slot.now a.subslot1.now a.subslot2.now
    ≡ taken (receiver_from a.slots.now next signal) (valid_slot (receiver_from a.slots.now next signal).slot)
unfolding take_outcome take_refusal wrong_length receiver_from
answered c next signal = unless_ok _ _ _ c.take_refusal.ensures c.in_ok-take_refusal.was

lengths : (c : In_ok-take_refusal) → (length c.args.slot.now ≡ 510) × (length c.args.subslot1.now ≡ 254) × (length c.args.subslot2.now ≡ 254)
unfolding take_refusal wrong_length
lengths c =
    let a = c.args in
    right_lengths a.slot.now a.subslot1.now a.subslot2.now a.slots.now.demodulated_slot_available (sym (rw c.in_ok-take_refusal.was at c.take_refusal.ensures))

-- the stored bits are 510
stored : (c : Start) → (length c.args.slots.now.full_bits ≡ 510) × (length c.args.slots.now.subslot1_bits ≡ 510) × (length c.args.slots.now.subslot2_bits ≡ 510)
stored c = (search rules, search rules, search rules)

-- a view of so many bits is one of the stored bits' front
viewed : (n : ℕ) (bits : List ℕ) (b : RxBurst) → n ≤ length bits → valid_view (stored_view (length (take n bits)) (take n bits) b) ≡ valid_view (stored_view n bits b)
viewed n bits b h = ap valid_view (stored_front n bits b h)

viewed_all : (bits : List ℕ) (b : RxBurst) → length bits ≡ 510 → valid_view (stored_view (length bits) bits b) ≡ valid_view (stored_view 510 bits b)
viewed_all bits b e = rw e

-- ... in a slice of the right length
padded_as : {n k : ℕ} {v w : BurstView} → n ≡ k → v ≡ w → padded n v.bits ≡ padded k w.bits
padded_as e f = rw (e, f)

pub returns-in_err-take_refusal-clause-answer : goal.returns-in_err-take_refusal-clause-answer
unfolding take_reply_of in_numbers
returns-in_err-take_refusal-clause-answer c = λ next signal.
    let p = err_from_is_err_and c.from_residual.result c.from_residual.ensures.1 in
    rw (p.1, p.2)
    (sym (ap (λ (o : Outcome). in_numbers o.reply) (refused (goal.at.returns-in_err-take_refusal-clause-answer c).In_err-take_refusal next signal)))

pub returns-in_err-take_refusal-clause-receiver : goal.returns-in_err-take_refusal-clause-receiver
returns-in_err-take_refusal-clause-receiver c = λ next signal.
    sym (ap (λ (o : Outcome). o.receiver) (refused (goal.at.returns-in_err-take_refusal-clause-receiver c).In_err-take_refusal next signal))

pub returns-in_err-take_refusal-clause-lent : goal.returns-in_err-take_refusal-clause-lent
returns-in_err-take_refusal-clause-lent c = λ next signal.
    sym (ap (λ (o : Outcome). o.lent) (refused (goal.at.returns-in_err-take_refusal-clause-lent c).In_err-take_refusal next signal))

pub returns-clause-answer : goal.returns-clause-answer
unfolding take_reply_of in_numbers taken receiver_from
returns-clause-answer c = λ next signal.
    let k = goal.at.returns-clause-answer c in
    let d = c.args.slots.now in
    let b = d.demodulated_slot in
    let n = stored k.Start in
    let f = viewed_all d.full_bits b.full n.0 in
    let g = viewed 254 d.subslot1_bits b.subslot1 (omega (arith, n.1)) in
    let h = viewed 254 d.subslot2_bits b.subslot2 (omega (arith, n.2)) in
    ap took
    (slot_told (receiver_from d next signal).slot _ _ _ _ _ c.to_int.ensures c.valid_closing.ensures (c.take_burst.ensures.told ∙ ap burst_shown f) (c.take_burst-2.ensures.told ∙ ap burst_shown g) (c.take_burst-3.ensures.told ∙ ap burst_shown h))
    ∙ sym (ap (λ (o : Outcome). in_numbers o.reply) (answered k.In_ok-take_refusal next signal))

pub returns-clause-receiver : goal.returns-clause-receiver
unfolding taken with_waits receiver_from
returns-clause-receiver c = λ next signal. sym (ap (λ (o : Outcome). o.receiver) (answered (goal.at.returns-clause-receiver c).In_ok-take_refusal next signal))

pub returns-clause-lent : goal.returns-clause-lent
unfolding taken receiver_from
returns-clause-lent c = λ next signal.
    let k = goal.at.returns-clause-lent c in
    let d = c.args.slots.now in
    let b = d.demodulated_slot in
    let l = lengths k.In_ok-take_refusal in
    let n = stored k.Start in
    let f = viewed_all d.full_bits b.full n.0 in
    let g = viewed 254 d.subslot1_bits b.subslot1 (omega (arith, n.1)) in
    let h = viewed 254 d.subslot2_bits b.subslot2 (omega (arith, n.2)) in
    slot_filled (receiver_from d next signal).slot _ _ _ (c.take_burst.ensures.bytes ∙ padded_as l.0 f) (c.take_burst-2.ensures.bytes ∙ padded_as l.1 g) (c.take_burst-3.ensures.bytes ∙ padded_as l.2 h)
    ∙ sym (ap (λ (o : Outcome). o.lent) (answered k.In_ok-take_refusal next signal))
