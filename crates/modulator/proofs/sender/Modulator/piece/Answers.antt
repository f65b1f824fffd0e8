-- What `fill` writes goes through the filter, and its outputs into one row.
use Rattle.modulator.specs.Sender.{sender_of}
use Rattle.modulator.specs.Blocks.{slot_due}
use Rattle.modulator.proofs.Blocks.{piece_wrote}
use Rattle.modulator.proofs.sender.Modulator.piece.Goals as goal

pub returns : goal.returns
unfolding sender_of
returns c =
    let a = c.args in
    let few = c.requires.0 in
    let f = c.fill.ensures in
    let b = c.block.ensures in
    piece_wrote (slot_due a.stretch.counter a.stretch.slot) a.stretch.count (sender_of a.self.now a.mapper.now) _ _ _ _ _ _ a.out.now _ _ _ few few few f.re f.im f.phase b.line b.outs_re b.outs_im
    c.interleave.ensures
