-- The estimate of a window hangs on its magnitudes alone, and is in the turn: each delay is at most the window's start. Assumes nothing.
use mathlib.Core.Path.{◌≡◌, refl}
use mathlib.Core.List.{List}
use Prim.Native.Nat.{ℕ, zero, suc, ◌+◌, ◌-◌, ◌*◌, ◌%◌, ◌<◌}
use native.Mathlib.Nat.{mod-eq_of_lt}
use native.Mathlib.Numerals.{add-one}
use native.Mathlib.Omega.{arith}
use lib.Ieee.{Float, binary32, add, sub}
use Rattle.dsp_types.specs.Samples.{ago, zero_f}
use Rattle.dsp_types.proofs.RingLaws.{Agree}
use Rattle.timing.specs.Document.{InTurn}
use Rattle.timing.specs.Estimate.{sum_i, sum_q, estimate_timing}
use Rattle.timing.proofs.Law.{turns_law}

-- ---- a turn of the loop, whose delay is that of the symbol's first sample

pub step_i : (delayed : ℕ → Float) (d n delay : ℕ) (sum a b : Float) → delay ≡ d - 4 * n → sum ≡ sum_i delayed d n
    → a ≡ delayed (delay - 0) → b ≡ delayed (delay - 2) → add binary32 sum (sub binary32 a b) ≡ sum_i delayed d (n + 1)
unfolding sum_i
step_i delayed d n delay sum a b e es ea eb =
    let zero : delay - 0 ≡ d - 4 * n = omega arith in
    let two : delay - 2 ≡ d - (4 * n + 2) = omega arith in
    rw (add-one n, es, ea, eb, zero, two)

pub step_q : (delayed : ℕ → Float) (d n delay : ℕ) (sum a b : Float) → delay ≡ d - 4 * n → sum ≡ sum_q delayed d n
    → a ≡ delayed (delay - 1) → b ≡ delayed (delay - 3) → add binary32 sum (sub binary32 a b) ≡ sum_q delayed d (n + 1)
unfolding sum_q
step_q delayed d n delay sum a b e es ea eb =
    let one : delay - 1 ≡ d - (4 * n + 1) = omega arith in
    let three : delay - 3 ≡ d - (4 * n + 3) = omega arith in
    rw (add-one n, es, ea, eb, one, three)

-- ---- only the magnitudes up to d steps ago count

module _ {f g : ℕ → Float} (m d : ℕ) (h : d < m) (a : Agree m f g) where
  sum_i_cong : (n : ℕ) → sum_i f d n ≡ sum_i g d n
  unfolding sum_i
  sum_i_cong zero = refl
  sum_i_cong (suc n) = rw (sum_i_cong n, a (d - 4 * n) (omega arith), a (d - (4 * n + 2)) (omega arith))

  sum_q_cong : (n : ℕ) → sum_q f d n ≡ sum_q g d n
  unfolding sum_q
  sum_q_cong zero = refl
  sum_q_cong (suc n) = rw (sum_q_cong n, a (d - (4 * n + 1)) (omega arith), a (d - (4 * n + 3)) (omega arith))

  pub estimate_cong : (n : ℕ) → estimate_timing f d n ≡ estimate_timing g d n
  unfolding estimate_timing
  estimate_cong n = rw (sum_i_cong n, sum_q_cong n)

-- within the past no delay is wrapped
pub estimate_held : (held : List Float) (d n : ℕ) → d < 2048 → estimate_timing (λ k. ago zero_f held (k % 2048)) d n ≡ estimate_timing (ago zero_f held) d n
estimate_held held d n h = estimate_cong 2048 d h (λ k l. rw (mod-eq_of_lt l)) n

pub estimate_in_turn : (delayed : ℕ → Float) (d n : ℕ) → InTurn (estimate_timing delayed d n)
unfolding estimate_timing
estimate_in_turn delayed d n = turns_law (sum_i delayed d n) (sum_q delayed d n)
