-- By the answer of the take.
use Rattle.slot_lines.specs.Blocks.{take_next}
use Rattle.slot_lines.proofs.Taking.{slot_told, nothing_told}
use Rattle.slot_lines.proofs.listen.take_line.Goals as goal

pub returns-in-Ok : goal.returns-in-Ok
unfolding take_next
returns-in-Ok c =
    let a = c.args in
    let e = c.take_demodulated_slot.ensures in
    record {
      line =
          λ re im abs.
          slot_told a.style a.state.now re im abs _ _ _ _ _ (e.answer re im abs) (e.lent re im abs) c.in-Ok.is
          (rw (c.front.ensures, c.front-in-Ok.ensures, c.front-in-Ok-2.ensures) at c.slot_line.ensures);
      receiver = e.receiver;
    }

pub returns-in-Err : goal.returns-in-Err
unfolding take_next
returns-in-Err c =
    let a = c.args in
    let e = c.take_demodulated_slot.ensures in
    record {
      line = λ re im abs. nothing_told a.style a.state.now re im abs _ _ (e.answer re im abs) c.in-Err.is c.new.ensures;
      receiver = e.receiver;
    }
