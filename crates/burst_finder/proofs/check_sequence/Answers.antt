-- The part searched is where the sequence can stand.
use Rattle.std.proofs.Common.{◌+◌, ◌-◌, length, arith, rules}
use Rattle.burst_finder.proofs.Steps.{too_short, is_found, not_found_lem}
use Rattle.burst_finder.proofs.check_sequence.Goals as goal

pub returns-in_err-spare : goal.returns-in_err-spare
returns-in_err-spare c =
    let a = c.args in
    rw c.from_residual.ensures (too_short a.bits.now a.train_pos a.burst_len a.train_type a.train_bits.now 1 (search rules) (omega arith))

pub returns-then-found-le-MAX_ERRS : goal.returns-then-found-le-MAX_ERRS
returns-then-found-le-MAX_ERRS c =
    let a = c.args in
    let f = c.find_sequence-found in (
      is_found a.bits.now a.train_pos a.burst_len a.train_type a.train_bits.now 1 f.result
          (c.in_ok-spare.spare + a.train_pos + length a.train_bits.now - a.train_pos) (search rules) (omega arith) (search rules) f.ensures (omega arith),
      omega arith,
    )

pub returns-else-found-le-MAX_ERRS : goal.returns-else-found-le-MAX_ERRS
returns-else-found-le-MAX_ERRS c =
    let a = c.args in
    let f = c.find_sequence-found in
    not_found_lem a.bits.now a.train_pos a.burst_len a.train_type a.train_bits.now 1 f.result
    (c.in_ok-spare.spare + a.train_pos + length a.train_bits.now - a.train_pos) (search rules) (omega arith) (search rules) f.ensures (omega arith)
