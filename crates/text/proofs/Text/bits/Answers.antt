-- Each turn makes a character more, and those that are cut off need not be there.
use Rattle.std.proofs.Common.{◌≡◌, List, ℕ, ◌++◌, map, ap, ◌∙◌, arith, rules}
use lib.ListN.{length-map}
use lib.Seq.{length-take-le}
use Rattle.std.proofs.lemmas.List.{get_or-take}
use Rattle.text.specs.Text.{cut, character_of}
use Rattle.text.proofs.Pieces.{character_turn, cut_least}
use Rattle.text.proofs.Text.bits.Goals as goal

pub loop-i-preserved : goal.loop-i-preserved
loop-i-preserved c =
    let l = c.loop-i in
    let bits = c.args.bits.now in
    let h = length-take-le c.min-count.result bits (omega arith) in
    let e = rw (get_or-take c.min-count.result bits l.i 0 (omega (arith, h))) at c.character_of.ensures in
    (search rules, character_turn bits l.characters l.i c.character_of.result (omega (arith, h)) (omega (arith, h)) e l.invariant.1)

pub returns : goal.returns
returns c =
    let l = c.loop-i in
    let count = c.min-count in
    let e : l.i ≡ count.result = omega (arith, length-take-le count.result c.args.bits.now (omega arith)) in
    let m = rw e at l.invariant.1 in
    c.append.ensures ∙ ap (λ (s : List ℕ). cut (c.args.self ++ s)) m ∙ cut_least (c.args.self) (map character_of c.args.bits.now) count.result (rw (length-map c.args.bits.now character_of) count.ensures)
