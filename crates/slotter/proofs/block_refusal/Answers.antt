-- No length is wrong.
use Rattle.std.proofs.Common.{◌≡◌, length, arith, false}
use Rattle.std.proofs.lemmas.Result.{IfOk-weaker}
use Rattle.slotter.proofs.block_refusal.Goals as goal

pub returns-clause-lengths : goal.returns-clause-lengths
returns-clause-lengths c =
    let a = c.args in
    IfOk-weaker c.length_or_bit.result (λ _. c.if-bbk-ne30.lengths ≡ false)
    (λ _. (length a.blk1.now ≡ a.n) × (length a.bbk.now ≡ 30) × (length a.blk2.now ≡ 216))
    (λ _ e. grind arith)
    c.length_or_bit.ensures.lengths
