-- k changes are decided, and p is symbol k.
use Rattle.std.proofs.Common.{◌≡◌, ℕ, ◌-◌, ◌*◌, ◌%◌, ◌+◌, ◌++◌, List, replicate}
use lib.Ieee.{Float}
use Rattle.dsp_types.specs.declared.ComplexSample.{ComplexSample}
use Rattle.dsp_types.specs.Samples.{silence, ago}
use Rattle.history.specs.History.{samples_in}
use Rattle.slot_bits.specs.SlotBits.{symbol_at, decisions}
use Rattle.slot_bits.proofs.slot_bits.Given as goal

-- the window's symbols
abbrev pub symbols_in : List Float → List Float → ℕ → ℕ → Float → ℕ → ℕ → ComplexSample
symbols_in re im at d fract first j = symbol_at (ago silence (samples_in re im at)) d fract (first + 4 * j)

abbrev pub invariant-loop-k : goal.invariant-loop-k
invariant-loop-k l = record {
  symbol_k : l.p ≡ symbols_in l.re l.im l.at (l.d % 2048) l.fract l.start l.k;
  made : l.bits ≡ decisions (symbols_in l.re l.im l.at (l.d % 2048) l.fract l.start) l.k ++ replicate (510 - 2 * l.k) 0;
}
