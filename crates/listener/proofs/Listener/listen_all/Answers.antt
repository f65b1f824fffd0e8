-- Filter, magnitudes and rings, each by its own equation.
use Rattle.std.proofs.Common.{◌≡◌, sym, ap, ◌∙◌, ◌≤◌, length, take, replicate, arith}
use lib.ListN.{length-replicate}
use Rattle.dsp_types.specs.Samples.{zero_f}
use Rattle.fir.specs.Fir.{line_of, block_of, outs_of, samples_of, re_of, im_of}
use Rattle.listener.specs.View.{signal_of}
use Rattle.listener.proofs.Rows.{magnitudes_of, whole_block, block_long, sized, re_count, im_count, abs_count, re_out, im_out, abs_out, heard_rows}
use Rattle.listener.proofs.Listener.listen_all.Goals as goal

pub returns : goal.returns
unfolding signal_of
returns c =
    let a = c.args in
    let n = c.min-n.result in
    let line = line_of a.self.now.matched_filter in
    let samples = take 512 (samples_of a.x.now a.y.now) in
    let outs = outs_of line samples in
    let b = c.block in
    let counted : length samples ≡ n = block_long a.x.now a.y.now ∙ omega (arith, c.min-n.ensures, c.min.ensures) in
    let zeros = replicate 512 zero_f in
    let whole : block_of a.x.now a.y.now zeros zeros ≡ samples =
    whole_block a.x.now a.y.now zeros zeros (length-replicate 512 zero_f) (length-replicate 512 zero_f) in
    let outs-re : take n b.new.out_re ≡ re_of outs = re_out line samples n counted zeros _ (rw whole at b.ensures.outs_re) in
    let outs-im : take n b.new.out_im ≡ im_of outs = im_out line samples n counted zeros _ (rw whole at b.ensures.outs_im) in
    let re = take n b.new.out_re in
    let im = take n b.new.out_im in
    let re_long : length re ≡ n = rw outs-re (re_count line samples n counted) in
    let im_long : length im ≡ n = rw outs-im (im_count line samples n counted) in
    let few : length re ≤ length zeros = omega (arith, re_long, c.min-n.ensures, length-replicate 512 zero_f) in
    let sizes : take (length re) c.magnitudes.new.out ≡ magnitudes_of (samples_of re im) =
    ap (take (length re)) c.magnitudes.ensures ∙ sized re im zeros (re_long ∙ sym im_long) few in
    let abs-is : take n c.magnitudes.new.out ≡ magnitudes_of outs =
    abs_out line samples n counted re im (take n c.magnitudes.new.out) outs-re outs-im (rw re_long at sizes) in
    let abs-long : length (take n c.magnitudes.new.out) ≡ n = rw abs-is (abs_count line samples n counted) in
    let i = rw re_long at c.store-self.ensures.index in
    let j = rw im_long at c.store.ensures.index in
    let k = rw abs-long at c.store-self-2.ensures.index in
    heard_rows line (line_of b.new.self) samples a.re.now a.im.now a.abs.now _ _ _ a.self.now.past_index _ _ _ (rw whole at b.ensures.line)
    (rw outs-re at c.store-self.ensures.held) (rw outs-im at c.store.ensures.held) (rw abs-is at c.store-self-2.ensures.held) (i ∙ sym k) (j ∙ sym k)
