-- So many parts are written, and the rest of the buffer is as it was.
use Rattle.std.proofs.Common.{◌≡◌, ◌*◌, ◌/◌, min, length, take, drop}
use Rattle.iq_format.specs.Parts.{part_bytes}
use Rattle.iq_format.proofs.encode.Given as goal

abbrev pub invariant-loop-n : goal.invariant-loop-n
invariant-loop-n l =
    (l.count ≡ min (length l.parts) (length l.fn.bytes / 4)) × (length l.bytes ≡ length l.fn.bytes)
    × (take (4 * l.n) l.bytes ≡ part_bytes (take l.n l.parts)) × (drop (4 * l.n) l.bytes ≡ drop (4 * l.n) l.fn.bytes)
