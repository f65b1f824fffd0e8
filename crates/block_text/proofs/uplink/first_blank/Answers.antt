-- std's search finds the place of the first blank.
use Rattle.std.proofs.Common.{rules, tests}
use Rattle.std.proofs.lemmas.Iterator.{YieldsList-from_slice}
use Rattle.std.proofs.lemmas.Iterator.Search.{position_from_yields_List}
use Rattle.block_text.proofs.Offsets.{blank, parted}
use Rattle.block_text.proofs.uplink.first_blank.Goals as goal

pub returns : goal.returns
unfolding blank
returns c =
    parted c.args.text.now c.position.result
    (position_from_yields_List blank _ _ _ c.position.ensures.ran (YieldsList-from_slice c.args.text.now cc) (λ x b q k. search (rules, tests)))
