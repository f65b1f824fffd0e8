-- What is kept and the rest of the piece have the listing of what was kept and the whole piece.
use Rattle.std.proofs.Common.{◌≡◌, List, ℕ, ◌++◌, drop}
use Rattle.lister.specs.Listing.{listing}
use Rattle.lister.specs.Inputs.{input_bytes}
use Rattle.lister.proofs.Input.feed.Given as goal

abbrev pub invariant-loop-b : goal.invariant-loop-b
invariant-loop-b l = (t : List ℕ) → listing (input_bytes l.self ++ (drop l.b-index l.piece ++ t)) ≡ listing (input_bytes l.initial.self ++ (l.piece ++ t))
