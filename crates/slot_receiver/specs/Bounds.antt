-- Bounds that keep the receiver's sums within 64 bits, and its skipped slots within 32 (01: "a shown bound"). Definitions only.
use Rattle.std.specs.Prelude.{ℕ, ◌+◌, ◌≤◌, ◌<◌, ◌^◌, ℤ}
use Rattle.dsp_types.specs.Ints.{up, dn}
use Rattle.dsp_types.specs.Refusals.{counters}
use Rattle.dsp_types.specs.Times.{slots}
use Rattle.slot_receiver.specs.Receiver.{Clock, lost_at}

-- z is at most m either side of 0
pub record Within (m : ℕ) (z : ℤ) : Type 0 where
  pub high : up z ≤ m
  pub low : dn z ≤ m

-- stored numbers that were read as valid ones
pub record Timed (k : Clock) (misses : ℕ) : Type 0 where
  pub reference : Within (2 ^ 39 + 1) k.reference_time
  pub ready : Within (2 ^ 40) k.slot_ready_time
  pub current : k.current_slot < slots
  pub few : misses ≤ lost_at

-- ... of a receiver whose window closes: the ready time is the counter less 16
pub record Closing (k : Clock) (misses : ℕ) : Type 0 where
  pub timed : Timed k misses
  pub ready : Within (2 ^ 38) k.slot_ready_time

-- ... and whose window was read
pub record Scheduled (k : Clock) : Type 0 where
  pub reference : Within (2 ^ 39 + 1) k.reference_time
  pub ready : Within (2 ^ 40) k.slot_ready_time
  pub current : k.current_slot < slots

-- a counter that counts as it is
pub record Counter (c : ℤ) : Type 0 where
  pub high : up c ≤ counters
  pub low : dn c ≤ 0
