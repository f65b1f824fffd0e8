-- The copy stores the run as its elements would be one by one.
use Rattle.std.proofs.Common.{◌≡◌, ◌+◌, ◌-◌, ◌≤◌, ◌∙◌, length, arith, rules}
use Rattle.std.proofs.lemmas.Slice.{put_mid-paste}
use lib.Seq.{take-length}
use Rattle.history.proofs.Laws.{run_stored}
use Rattle.history.proofs.store_run.Goals as goal

pub returns-clause-result_after : goal.returns-clause-result_after
returns-clause-result_after c =
    let from = c.args.from.now in
    let start = c.next-start.result in
    let k : length from ≡ start + length from - start = omega arith in
    let h : length from ≤ length from = omega arith in
    rw (put_mid-paste start (start + length from - start) c.args.ring.now c.copy_from_slice.new.self from (length from) c.copy_from_slice.ensures.after k (search rules), c.next-start.ensures)
    (run_stored c.args.ring.now from c.args.at (length from) (search rules) h (omega arith) ∙ rw (take-length from))
