-- So many samples are split, and none of them is too large.
use Rattle.std.proofs.Common.{◌≡◌, length}
use Rattle.receiver.proofs.Rows.{Split}
use Rattle.receiver.proofs.feed.parts_of.Given as goal

abbrev pub invariant-loop-len : goal.invariant-loop-len
invariant-loop-len l = record {
  re_long : length l.re ≡ 512;
  im_long : length l.im ≡ 512;
  split : Split l.samples l.re l.im l.at l.len;
}
