-- What is kept is listed, and a listing is not cut.
use Rattle.std.proofs.Common.{◌∙◌}
use Rattle.text.proofs.Cutting.{short}
use Rattle.lister.specs.Listing.{listing}
use Rattle.lister.specs.Inputs.{input_bytes}
use Rattle.lister.proofs.Short.{length_listing}
use Rattle.lister.proofs.Input.listed.Goals as goal

pub returns : goal.returns
unfolding input_bytes
returns c = c.listing.ensures ∙ rw c.front.ensures (short (listing _) (length_listing _))
