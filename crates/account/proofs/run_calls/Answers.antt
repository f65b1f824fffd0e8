-- A turn makes one call more and writes its answer behind the others; the theorem is then cited.
use Rattle.std.proofs.Common.{◌≡◌, ◌<◌, arith}
use Rattle.account.proofs.Rows.{copied}
use Rattle.account.proofs.Running.{enough, none_made, one_more, all_made}
use Rattle.std.proofs.lemmas.List.{length-take}
use Rattle.account.specs.declared.call.Call as Declared
use Rattle.account.proofs.run_calls.Goals as goal

pub loop-i-init : goal.loop-i-init
loop-i-init c =
    record {
      room = enough _ _ _ _ _ c.min-count.ensures c.room.ensures;
      written = none_made _ _ _ _ c.new-receiver.ensures.receiver;
    }

pub loop-i-preserved : goal.loop-i-preserved
loop-i-preserved c =
    let n : c.loop-i.i < c.min-count.result = omega (arith, length-take {A = Declared.Call}) in
    record {
      room = c.loop-i.invariant.room;
      written =
          one_more _ _ c.loop-i.i c.min-count.result _ n c.loop-i.invariant.room.of_calls c.loop-i.invariant.written c.one_call-made.ensures
          (copied _ _ _ _ _ c.copy_from_slice.ensures.after (omega arith)) (copied _ _ _ _ _ c.copy_from_slice-in-loop-i.ensures.after (omega arith));
    }

pub returns : goal.returns
returns c =
    let n : c.loop-i.i ≡ c.min-count.result = omega (arith, length-take {A = Declared.Call}) in
    all_made _ _ c.loop-i.i _ _ c.loop-i.invariant.written n (rw (← c.room.ensures) c.min-count.ensures)
