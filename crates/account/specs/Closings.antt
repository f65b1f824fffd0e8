-- The closing counters of a list of calls (02, point 2), also where its counters miss samples. Definitions only. Calls and windows stand THE
-- LAST FIRST. proofs/Closings.antt proves `closings`: every list keeps them, from a new searching downlink receiver on.
use Rattle.std.specs.Prelude.{◌≡◌, List, [], ◌∷◌, ◌++◌, ℤ, pos}
use mathlib.Core.List.{Memᴰ}
use Rattle.dsp_types.specs.Refusals.{accepted}
use Rattle.rx_slot.specs.Slots.{HandedSlot}
use Rattle.slot_receiver.specs.Receiver.{zeros_before}
use Rattle.slot_receiver.specs.Windows.{slot, Window, zeros_windows}
use Rattle.slot_receiver.specs.Calls.{took, sample_refusal}
use Rattle.slot_receiver.specs.Closing.{last_closing, ClosedAt}
use Rattle.account.specs.CallList.{Call, sample, take, follow, outcome, after, closed}
use Rattle.account.specs.Account.{if_accepted, next_counter}

-- the counters that accepted samples had
unfoldable pub accepted_at : List Call → List ℤ
accepted_at [] = []
accepted_at (sample x c ∷ cs) = if_accepted (sample_refusal (next_counter cs) x c) (c ∷ accepted_at cs) (accepted_at cs)
accepted_at (take s a b ∷ cs) = accepted_at cs
accepted_at (follow other ∷ cs) = accepted_at cs

-- the windows that closed with fed zeros
unfoldable pub by_zeros : List Call → List Window
by_zeros [] = []
by_zeros (sample x c ∷ cs) =
    if_accepted (sample_refusal (next_counter cs) x c) (zeros_windows (zeros_before (after cs) c) (after cs) c ++ by_zeros cs) (by_zeros cs)
by_zeros (take s a b ∷ cs) = by_zeros cs
by_zeros (follow other ∷ cs) = by_zeros cs

-- with each accepted sample windows close at its own counter, and with a zero fed before it at one that is missing. A take gives the
-- counter of the last window that handed a slot over, also where search windows closed after it: calls that are refused, other takes and
-- orders to follow leave it
unfoldable pub EachCall : List Call → Type 0
EachCall [] = Unit {0}
EachCall (sample x c ∷ cs) = EachCall cs × (sample_refusal (next_counter cs) x c ≡ accepted → ClosedAt (after cs) x c)
EachCall (take s a b ∷ cs) =
    EachCall cs
    × ((h : HandedSlot) → (outcome (after cs) (take s a b)).reply ≡ took h → h.closing_counter ≡ last_closing (closed cs) (pos 0))
EachCall (follow other ∷ cs) = EachCall cs

-- what the calls cs keep
pub record Closings (cs : List Call) : Type 0 where
  pub each : EachCall cs
  -- a slot carries the counter of the window that handed it over
  pub own : (w : Window) (h : HandedSlot) → Memᴰ w (closed cs) → w.kind ≡ slot h → h.closing_counter ≡ pos w.counter
  -- no accepted sample, before it or after it, had the counter of a window that closed with a zero
  pub missing : (w : Window) → Memᴰ w (by_zeros cs) → Memᴰ (pos w.counter) (accepted_at cs) → ⊥
