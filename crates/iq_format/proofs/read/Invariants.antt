-- So many parts are made, and the rest of the buffer is as it was.
use Rattle.std.proofs.Common.{◌≡◌, ℕ, ◌<◌, get_or, length, drop}
use Rattle.std.specs.Float.{nan}
use Rattle.iq_format.proofs.read.Given as goal

abbrev pub invariant-loop-n : goal.invariant-loop-n
invariant-loop-n g l = record {
  long : length l.parts ≡ length l.fn.parts;
  read : (k : ℕ) (d : _) → k < l.n → goal.F-post g l.part (get_or l.raw k d) (get_or l.parts k nan);
  rest : drop l.n l.parts ≡ drop l.n l.fn.parts;
}
