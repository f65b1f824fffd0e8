-- Placings where a sequence stands with no bit wrong (02, point 1: "an earlier placing of its sequence is exact too"). Placing k is 2k bits behind
-- placing 0, which is at `first`. Definitions only.
use Rattle.std.specs.Prelude.{◌≡◌, List, ℕ, ◌+◌, ◌*◌, ◌<◌}
use Rattle.burst_finder.specs.Search.{errors_at}

-- a placing before placing k is exact
pub record Earlier (bits sequence : List ℕ) (first k : ℕ) : Type 0 where
  pub half : ℕ
  pub before : half < k
  pub exact : errors_at bits sequence (first + 2 * half) ≡ 0

-- placing k is exact, and none before it is
pub record Earliest (bits sequence : List ℕ) (first k : ℕ) : Type 0 where
  pub exact : errors_at bits sequence (first + 2 * k) ≡ 0
  pub none : Earlier bits sequence first k → ⊥
