-- The figures that 01, "Checked figures", marks (P), as one table: what each row's definition gives, beside what 01 states. Definitions only.
use Rattle.std.specs.Prelude.{ℕ, List, [], ◌∷◌, ℤ, pos, negsuc, get_or, replicate, Float}
use Rattle.std.proofs.Math.Seq.{slice}
use Rattle.std.specs.Float.{binary32}
use Rattle.std.specs.Float.Ieee.{of_int}
use Rattle.magnitude.specs.Magnitude.{magnitude_of}
use Rattle.timing.specs.Floats.{half_f}
use Rattle.timing.specs.Turns.{quarter_turns}
use Rattle.slotter.specs.Bursts.{BuilderReply, sync_burst, normal_burst}

-- the bursts with zero blocks
pub data ZeroBurst : Type 0 where
  sync : ZeroBurst
  normal1 : ZeroBurst
  normal2 : ZeroBurst

pub data BurstWindow : Type 0 where
  first : BurstWindow
  last : BurstWindow

-- a row: what is computed, and then what 01 states of it
pub data Figure : Type 0 where
  window : ZeroBurst → BurstWindow → ℤ → List ℕ → Figure
  -- the magnitude of (re, im), and the quarter turns of (i, q)
  magnitude : Float → Float → Float → Figure
  timing : Float → Float → Float → Figure

-- a row's value: a window's sum and its adjustment bits, or an f32
pub data Value : Type 0 where
  adjusted : ℤ → List ℕ → Value
  float : Float → Value

-- a whole number as an f32
unfoldable pub f32 : ℤ → Float
f32 z = of_int binary32 z

-- what the builders' definitions give for zero blocks
unfoldable pub burst : ZeroBurst → BuilderReply
burst sync = sync_burst (replicate 120 0) (replicate 30 0) (replicate 216 0)
burst normal1 = normal_burst 1 (replicate 216 0) (replicate 30 0) (replicate 216 0)
burst normal2 = normal_burst 2 (replicate 216 0) (replicate 30 0) (replicate 216 0)

unfoldable pub computed : Figure → Value
computed (window sent first sum bits) = adjusted (get_or (burst sent).sums 0 (pos 0)) (slice 12 14 (burst sent).bits)
computed (window sent last sum bits) = adjusted (get_or (burst sent).sums 1 (pos 0)) (slice 498 500 (burst sent).bits)
computed (magnitude re im r) = float (magnitude_of re im)
computed (timing i q r) = float (quarter_turns i q)

unfoldable pub stated : Figure → Value
stated (window sent w sum bits) = adjusted sum bits
stated (magnitude re im r) = float r
stated (timing i q r) = float r

unfoldable pub figures : List Figure
figures =
    window sync first (pos 65) (1 ∷ 0 ∷ [])
    ∷ window sync last (pos 127) (0 ∷ 0 ∷ [])
    ∷ window normal1 first (pos 115) (1 ∷ 1 ∷ [])
    ∷ window normal1 last (pos 117) (0 ∷ 1 ∷ [])
    ∷ window normal2 last (pos 115) (1 ∷ 1 ∷ [])
    ∷ magnitude (f32 (pos 3)) (f32 (pos 4)) (f32 (pos 5))
    ∷ magnitude (f32 (pos 0)) (f32 (pos 0)) (f32 (pos 0))
    ∷ timing (f32 (pos 1)) (f32 (pos 1)) half_f
    ∷ timing (f32 (negsuc 0)) (f32 (pos 0)) (f32 (pos 2))
    ∷ timing (f32 (pos 0)) (f32 (negsuc 0)) (f32 (pos 3))
    ∷ timing (f32 (pos 0)) (f32 (pos 0)) (f32 (pos 0))
    ∷ []
