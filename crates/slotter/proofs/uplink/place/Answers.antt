-- What it leaves is the definition's (`left_as`).
use Rattle.std.proofs.Common.{◌≡◌, length, replicate, rules, arith, ℕ}
use Rattle.slotter.proofs.Placing.{left_as}
use Rattle.slotter.proofs.uplink.place.Goals as goal

pub returns : goal.returns
returns c =
    let n : ℕ = length c.args.window.now in
    let zeros : c.fill.new.self ≡ replicate n 0 = search rules in
    let long : length c.fill.new.self ≡ n = search rules in
    left_as c.args.offset c.args.burst.now n zeros (rw long at c.min-start.ensures) (rw long at c.min-len.ensures) c.copy_from_slice.ensures.after (omega arith)
