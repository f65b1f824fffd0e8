-- Which zeros hand a slot over, also where they are fed part by part, and which sample behind them. Assumes nothing.
use mathlib.Core.Path.{◌≡◌, refl, sym, ap, ◌∙◌}
use mathlib.Core.Bool.{Bool, false, ◌||◌, or_assoc, or_comm, or-false}
use mathlib.Core.List.{List, [], ◌∷◌, ◌++◌}
use Prim.Native.Nat.{ℕ, zero, suc, ◌-◌, ◌<◌, ◌≤◌}
use native.Mathlib.Omega.{arith}
use lib.IntN.{ℤ, pos, ◌-ℤ◌}
use Rattle.dsp_types.specs.declared.ComplexSample.{ComplexSample}
use Rattle.dsp_types.specs.Samples.{silence}
use Rattle.slot_receiver.specs.Receiver.{Receiver, process_sample, feed_zeros, zeros_before}
use Rattle.slot_receiver.specs.Windows.{Window, is_slot, hands_over, window_of, zeros_windows, accept_windows}

hands_both : (ws vs : List Window) → hands_over (ws ++ vs) ≡ (hands_over vs || hands_over ws)
unfolding hands_over
hands_both [] vs = sym (or-false (hands_over vs))
hands_both (w ∷ ws) vs =
    rw (hands_both ws vs)
    (sym (or_assoc (is_slot w.kind) (hands_over vs) (hands_over ws))
    ∙ ap (λ (b : Bool). b || hands_over ws) (or_comm (is_slot w.kind) (hands_over vs))
    ∙ or_assoc (hands_over vs) (is_slot w.kind) (hands_over ws))

pub no_zeros_hand : (left : ℕ) (r : Receiver) (c : ℤ) → left ≤ 0 → hands_over (zeros_windows left r c) ≡ false
unfolding zeros_windows hands_over
no_zeros_hand zero r c h = refl
no_zeros_hand (suc left) r c h = absurd (omega arith)

pub one_zero_hands : (left : ℕ) (r : Receiver) (c : ℤ) → 0 < left
    → hands_over (zeros_windows left r c)
    ≡ (hands_over (window_of r silence (c -ℤ pos left)) || hands_over (zeros_windows (left - 1) (process_sample r silence (c -ℤ pos left)) c))
unfolding zeros_windows
one_zero_hands zero r c h = absurd (omega arith)
one_zero_hands (suc left) r c h = rw (suc_less left) (hands_both (zeros_windows left (process_sample r silence (c -ℤ pos (suc left))) c) (window_of r silence (c -ℤ pos (suc left))))
  where
    suc_less : (n : ℕ) → suc n - 1 ≡ n
    suc_less n = omega arith

pub accept_hands : (r : Receiver) (x : ComplexSample) (c : ℤ) → let k = zeros_before r c in
    hands_over (accept_windows r x c) ≡ (hands_over (zeros_windows k r c) || hands_over (window_of (feed_zeros k r c) x c))
unfolding accept_windows
accept_hands r x c = let k = zeros_before r c in hands_both (window_of (feed_zeros k r c) x c) (zeros_windows k r c)
