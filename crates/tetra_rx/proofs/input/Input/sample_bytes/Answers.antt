-- By the format.
use Rattle.std.proofs.Common.{◌<◌, ◌≤◌, arith}
use Rattle.iq_format.specs.declared.Format.{Format}
use Rattle.iq_format.specs.declared.Format.TheVariants.{Cf32, Cs16, Cu8}
use Rattle.iq_format.specs.Parts.{width}
use Rattle.tetra_rx.proofs.input.Input.sample_bytes.Goals as goal

few : (format : Format) → (0 < width format) × (width format ≤ 4)
few Cf32 = (omega arith, omega arith)
few Cs16 = (omega arith, omega arith)
few Cu8 = (omega arith, omega arith)

pub overflow_mul-result : goal.overflow_mul-result
overflow_mul-result g c = omega (arith, c.part_bytes.ensures, few c.args.self.now.format)

pub returns : goal.returns
returns g c = (omega (arith, c.part_bytes.ensures, few c.args.self.now.format), omega (arith, c.part_bytes.ensures, few c.args.self.now.format))
