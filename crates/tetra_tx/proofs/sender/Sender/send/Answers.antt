-- A block has at most 1,020 samples, and the counter is in range.
use Rattle.std.proofs.Common.{◌≡◌, ◌*◌, ◌≤◌, length, sym, arith, length-take-le, rules}
use Rattle.modulator.proofs.Blocks.{wrote_within}
use Rattle.tetra_tx.proofs.sender.Sender.send.Goals as goal

pub overflow_mul-parts : goal.overflow_mul-parts
overflow_mul-parts g c =
    let few : c.block-sent.result.count ≤ 1020 = wrote_within _ _ _ _ _ _ _ _ (c.block-sent.ensures.block, c.block-sent.ensures.kept) in
    omega arith

pub slice_bounds-parts-end : goal.slice_bounds-parts-end
slice_bounds-parts-end g c =
    let few : c.block-sent.result.count ≤ 1020 = wrote_within _ _ _ _ _ _ _ _ (c.block-sent.ensures.block, c.block-sent.ensures.kept) in
    let h : length c.block-sent.new.out ≡ 2040 = search rules in
    omega arith

pub slice_bounds-write_samples-end : goal.slice_bounds-write_samples-end
slice_bounds-write_samples-end g c =
    let few : c.block-sent.result.count ≤ 1020 = wrote_within _ _ _ _ _ _ _ _ (c.block-sent.ensures.block, c.block-sent.ensures.kept) in
    let h : length c.block-sent.new.out ≡ 2040 = search rules in
    let within : 2 * c.block-sent.result.count ≤ length c.block-sent.new.out = omega arith in
    sym (length-take-le _ _ within)

pub overflow_add-self : goal.overflow_add-self
overflow_add-self g c =
    let few : c.block-sent.result.count ≤ 1020 = wrote_within _ _ _ _ _ _ _ _ (c.block-sent.ensures.block, c.block-sent.ensures.kept) in
    omega arith
