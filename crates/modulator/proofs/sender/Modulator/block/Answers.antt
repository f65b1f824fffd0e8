-- The samples before the first refusal are counted, sent together, and the refusal is told.
use Rattle.std.proofs.Common.{rules, arith}
use Rattle.std.specs.Option.{option_copied}
use mir.Syntax.{w64}
use mir.Val.{SFits}
use mir.ValLaws.{to_z-of_z}
use Rattle.dsp_types.specs.Answers.{number_of}
use Rattle.dsp_types.proofs.Numbers.{not_accepted}
use Rattle.modulator.specs.Sender.{sender_of}
use Rattle.modulator.proofs.Blocks.{none_sent, opened, filled_wrote, ended_wrote}
use Rattle.modulator.proofs.sender.Modulator.block.Goals as goal

pub returns-in-Err-clause-block : goal.returns-in-Err-clause-block
returns-in-Err-clause-block c =
    let a = c.args in
    none_sent a.sample_counter.0 a.slot.0 (option_copied a.bits) (number_of c.in-Err.refusal) _ (sender_of a.self.now a.mapper.now) a.out.now (not_accepted c.in-Err.refusal) c.in-Err.ensures

pub returns-then-room-left-clause-block : goal.returns-then-room-left-clause-block
returns-then-room-left-clause-block c =
    let a = c.args in
    let fits : SFits w64 a.sample_counter.0 = search rules in
    let o = opened a.sample_counter.0 c.unsigned-counter.result a.slot.0 (option_copied a.bits) _ (rw (to_z-of_z w64 _ fits) at c.unsigned-counter.ensures) c.in_default.ensures in
    filled_wrote _ _ _ _ o c.start_of-start.result c.left-left.result c.start_of-start.ensures.0 c.left-left.ensures _ _ _ _ a.out.now _ c.if-room-left.true (omega arith) c.send.ensures.wrote

pub returns-else-room-left-clause-block : goal.returns-else-room-left-clause-block
returns-else-room-left-clause-block c =
    let a = c.args in
    let fits : SFits w64 a.sample_counter.0 = search rules in
    let o = opened a.sample_counter.0 c.unsigned-counter.result a.slot.0 (option_copied a.bits) _ (rw (to_z-of_z w64 _ fits) at c.unsigned-counter.ensures) c.in_default.ensures in
    ended_wrote _ _ _ _ o c.start_of-start.result c.left-left.result c.start_of-start.ensures.0 c.left-left.ensures _ _ _ _ _ a.out.now _ c.if-room-left.false (omega arith)
    c.end_refusal.ensures c.send.ensures.wrote
