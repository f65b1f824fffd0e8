-- The two copies make the row, whose parts are the outputs and the next line.
use Rattle.std.proofs.Common.{List, replicate, rules}
use lib.Ieee.{Float}
use Rattle.dsp_types.specs.Samples.{zero_f}
use Rattle.fir.proofs.Blocks.{block_within, block_line, block_outs}
use Rattle.fir.proofs.block_part.Goals as goal

pub slice_bounds-filter_block-end : goal.slice_bounds-filter_block-end
slice_bounds-filter_block-end c =
    let z : List Float = replicate 1056 zero_f in
    block_within c.args.line.now c.args.block.now z _ _ (search rules) c.copy_from_slice.ensures.after c.copy_from_slice-2.ensures.after

pub returns-clause-line_after : goal.returns-clause-line_after
returns-clause-line_after c =
    let z : List Float = replicate 1056 zero_f in
    block_line c.args.line.now c.args.block.now z _ _ (search rules) c.copy_from_slice.ensures.after c.copy_from_slice-2.ensures.after c.copy_from_slice-3.new.self c.copy_from_slice-3.ensures.after

pub returns-clause-out_after : goal.returns-clause-out_after
returns-clause-out_after c =
    let z : List Float = replicate 1056 zero_f in
    block_outs c.args.line.now c.args.block.now z _ _ (search rules) c.copy_from_slice.ensures.after c.copy_from_slice-2.ensures.after c.args.out.now c.filter_block.new.out (search rules) c.filter_block.ensures
