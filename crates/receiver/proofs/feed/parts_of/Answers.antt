-- At first no sample is split; each turn splits one more that is not too large.
use Rattle.std.proofs.Common.{◌≡◌, ◌+◌, ◌-◌, ◌*◌, ◌/◌, ◌<◌, ◌∙◌, List, [], length, take, drop, get_or, arith, rules, ap}
use Rattle.std.specs.Float.{nan}
use lib.Ieee.{Float}
use lib.Seq.{take_all}
use Rattle.std.specs.Simd.{first_chunks}
use Rattle.std.proofs.lemmas.List.{get_or-take, length-take-le, length-drop}
use Rattle.dsp_types.proofs.Chunks.{chunk_is}
use Rattle.receiver.proofs.Rows.{split_none, split_one, pair_part}
use Rattle.receiver.proofs.feed.parts_of.Goals as goal

pub loop-len-init : goal.loop-len-init
loop-len-init c = record { re_long = search rules; im_long = search rules; split = split_none _ _ _ _ }

pub loop-len-preserved : goal.loop-len-preserved
loop-len-preserved c =
    let l = c.loop-len in
    let parts = c.args.samples.now in
    let pairs = c.as_chunks.result.0.now in
    let room = c.min-room.result in
    let h : l.len < room = omega (arith, length-take-le room pairs (omega arith), c.loop-len-test.true) in
    let rest = drop (2 * c.args.at) parts in
    let all : take (length parts - 2 * c.args.at) rest ≡ rest = take_all (length parts - 2 * c.args.at) rest (omega (arith, length-drop (2 * c.args.at) parts)) in
    let front : pairs ≡ first_chunks 2 (length rest / 2) rest = rw all at c.as_chunks.ensures.front in
    let pair = get_or-take room pairs l.len [] h ∙ chunk_is 2 (length rest / 2) l.len rest pairs front (omega (arith, h, length-drop (2 * c.args.at) parts)) in
    let zero : 2 * (c.args.at + l.len) + 0 ≡ 2 * (c.args.at + l.len) = omega arith in
    let x = ap (λ (pair : List Float). get_or pair 0 nan) pair ∙ rw zero at (pair_part parts c.args.at l.len 0 (omega arith)) in
    let y = ap (λ (pair : List Float). get_or pair 1 nan) pair ∙ pair_part parts c.args.at l.len 1 (omega arith) in
    record {
      re_long = search rules;
      im_long = search rules;
      split =
          rw (x, y)
          (split_one parts l.re l.im c.args.at l.len (omega arith) (omega arith) (omega (arith, h, length-drop (2 * c.args.at) parts))
          (rw (c.is_beyond.ensures, c.is_beyond-in-loop-len.ensures, x, y) at c.if-is_beyond.false) l.invariant.split);
    }
