-- No length is wrong.
use Rattle.std.proofs.Common.{◌≡◌, length, arith, false}
use Rattle.std.proofs.lemmas.Result.{IfOk-weaker}
use Rattle.slotter.proofs.uplink.pair_refusal.Goals as goal

pub returns-clause-lengths : goal.returns-clause-lengths
returns-clause-lengths c =
    let a = c.args in
    IfOk-weaker c.length_or_bit.result (λ _. c.if-blk1-n.lengths ≡ false)
    (λ _. (length a.blk1.now ≡ a.n) × (length a.blk2.now ≡ a.n))
    (λ _ e. grind arith)
    c.length_or_bit.ensures.lengths
