-- What was found, or is found from here on, is found in all.
use Rattle.std.proofs.Common.{◌≡◌, drop}
use mathlib.Core.Bool.{◌||◌}
use Rattle.dsp_types.specs.Refusals.{not_bits}
use Rattle.dsp_types.proofs.not_bits.Given as goal

abbrev pub invariant-loop-byte : goal.invariant-loop-byte
invariant-loop-byte l = not_bits l.bytes ≡ (l.found || not_bits (drop l.byte-index l.bytes))
