-- The largest of the parts passed.
use Rattle.std.proofs.Common.{◌≡◌, take}
use Rattle.iq_format.specs.Level.{peak_of}
use Rattle.iq_format.proofs.meter.peak.Given as goal

abbrev pub invariant-loop-part : goal.invariant-loop-part
invariant-loop-part l = l.peak ≡ peak_of (take l.part-index l.parts)
