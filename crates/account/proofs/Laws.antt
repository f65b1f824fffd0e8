-- The laws of a receiver's window, from what the stages below prove of bits and timing.
use mathlib.Core.Path.{◌≡◌}
use mathlib.Core.Bool.{false}
use Prim.Native.Nat.{ℕ, ◌-◌, ◌*◌, ◌≤◌}
use native.Mathlib.Omega.{arith}
use lib.ListN.{length}
use Rattle.dsp_types.specs.Samples.{zero_f, silence, ago}
use Rattle.timing.specs.Document.{InTurn}
use Rattle.timing.specs.Tracking.{averaged_of, late, early}
use Rattle.timing.specs.Turns.{whole_of, fract_of}
use Rattle.timing.proofs.Tracking.{first_settled}
use Rattle.timing.proofs.Window.{estimate_in_turn}
use Rattle.slot_bits.proofs.Laws.{full_window}
use Rattle.burst_finder.specs.Search.{find_sync, Holds}
use Rattle.burst_finder.proofs.Lock as Lock
use Rattle.listener.specs.Signal.{Signal, timing_of, bits_of, slot_timing, window_bits}
use Rattle.account.specs.Rules.{type_of}
use Rattle.account.specs.Account.{Burst}
use Rattle.account.proofs.Bursts.{burst_type}

module _ (s : Signal) where
  long : length (window_bits s) ≡ 510
  unfolding bits_of slot_timing
  long = full_window (ago silence s.past) 1024 (whole_of (slot_timing s)) (fract_of (slot_timing s))

  in_turn : InTurn (slot_timing s)
  unfolding slot_timing timing_of
  in_turn = estimate_in_turn (ago zero_f s.magnitudes) 1024 256

  -- the search finds exactly where the lock rule holds
  pub finds_holds : (find_sync (window_bits s)).dist ≤ 1 → Holds (window_bits s)
  finds_holds h = Lock.holds (window_bits s) long h

  pub holds_finds : Holds (window_bits s) → (find_sync (window_bits s)).dist ≤ 1
  holds_finds h = Lock.locks (window_bits s) long h

  -- the first averaged error after a lock moves nothing
  pub not_late : late (averaged_of zero_f (slot_timing s)) ≡ false
  not_late = (first_settled (slot_timing s) in_turn).not_late

  pub not_early : early (averaged_of zero_f (slot_timing s)) ≡ false
  not_early = (first_settled (slot_timing s) in_turn).not_early

  -- a burst of our builders with at most one flipped bit has its type
  pub window_type : {type : ℕ} → Burst type (window_bits s) → type_of (window_bits s) ≡ type
  window_type b = burst_type (window_bits s) long b

-- a place counted from bit 216: even, and no later than bit 472
pub record SyncPlace (place : ℕ) : Type 0 where
  pub half : ℕ
  pub even : place ≡ 2 * half
  pub most : half ≤ 128

pub sync_place : (s : Signal) → SyncPlace (find_sync (window_bits s)).pos
sync_place s =
    let p = Lock.placed (window_bits s) (long s) in
    record { half = p.half - 108; even = omega (arith, p.place); most = omega (arith, p.most) }
