-- One character more is looked at; at the end nothing is left to look at.
use Rattle.block_text.proofs.Characters.{one_more, no_more}
use Rattle.block_text.proofs.not_characters.Goals as goal

pub loop-c-preserved : goal.loop-c-preserved
loop-c-preserved c = rw c.not_character-found.ensures (one_more c.args.characters.now c.loop-c.found c.loop-c.c-index c.loop-c-test.true c.loop-c.invariant)

pub returns : goal.returns
returns c = no_more c.args.characters.now c.loop-c.found c.loop-c.c-index c.loop-c-test.false c.loop-c.invariant
