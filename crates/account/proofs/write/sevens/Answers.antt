-- Sevens in the place of zeros.
use Rattle.std.proofs.Common.{◌≡◌, replicate, arith}
use Rattle.std.proofs.lemmas.Grind.{common_steps}
use Rattle.account.specs.Runs.{lent_bytes}
use Rattle.account.proofs.Rows.{sevens_lem}
use Rattle.account.proofs.write.sevens.Goals as goal

pub returns : goal.returns
unfolding lent_bytes
returns c =
    let f : c.fill.new.self ≡ replicate c.min-len.result 7 = grind (arith, common_steps) in
    sevens_lem c.min-len.result c.args.n c.fill.new.self c.min-len.ensures f
