-- The estimate of symbol timing (01, "Symbol timing"; demodulator.rs 348 to 374): the sums i and q of a window's magnitudes, in source order. Definitions only.
use Rattle.std.specs.Prelude.{ℕ, zero, suc, ◌+◌, ◌-◌, ◌*◌, Float}
use Rattle.std.specs.Float.{binary32}
use Rattle.std.specs.Float.Ieee.{add, sub}
use Rattle.dsp_types.specs.Samples.{zero_f}
use Rattle.timing.specs.Turns.{quarter_turns}

-- the sum i over n symbols of a window that starts d steps ago; `delayed k` is the magnitude k steps ago, and the newest stands for any that is still to come
unfoldable pub sum_i : (ℕ → Float) → ℕ → ℕ → Float
sum_i delayed d zero = zero_f
sum_i delayed d (suc n) = add binary32 (sum_i delayed d n) (sub binary32 (delayed (d - 4 * n)) (delayed (d - (4 * n + 2))))

-- the sum q
unfoldable pub sum_q : (ℕ → Float) → ℕ → ℕ → Float
sum_q delayed d zero = zero_f
sum_q delayed d (suc n) = add binary32 (sum_q delayed d n) (sub binary32 (delayed (d - (4 * n + 1))) (delayed (d - (4 * n + 3))))

-- how many samples after the window's start its symbols stand, from 0 to below 4
unfoldable pub estimate_timing : (ℕ → Float) → ℕ → ℕ → Float
estimate_timing delayed d n = quarter_turns (sum_i delayed d n) (sum_q delayed d n)
