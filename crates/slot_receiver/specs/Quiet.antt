-- Samples that are only kept, between windows. Definitions only.
use Rattle.std.specs.Prelude.{Bool, cond, ◌&&◌, not, ◌||◌, ℕ, ◌-◌, ltb, leb, ℤ, pos, nat_abs, ◌+ℤ◌, ◌-ℤ◌}
use Rattle.std.specs.Int.Signed.{lt_z}
use Rattle.dsp_types.specs.Ints.{eq_z}
use Rattle.dsp_types.specs.Refusals.{last_counter}
use Rattle.dsp_types.specs.Times.{slots}
use Rattle.slot_receiver.specs.Receiver.{Clock, lost_at, far_reference, far_ready, valid_time}

-- whether stored numbers are read as they are
unfoldable pub stands : Clock → ℕ → Bool
stands k misses =
    eq_z (valid_time far_reference k.reference_time) k.reference_time
    && (eq_z (valid_time far_ready k.slot_ready_time) k.slot_ready_time && (ltb k.current_slot slots && leb misses lost_at))

-- the samples from the counter c on, up to the one at which the window closes
unfoldable pub until_close : Clock → ℤ → ℤ
until_close k c = k.slot_ready_time +ℤ pos 16 -ℤ c

-- no more samples than this stand before a window's close, two slots: further off, slots are skipped. Behind last_quiet there are as many
-- counters
abbrev pub most_quiet : ℕ
most_quiet = 2040

abbrev pub last_quiet : ℕ
last_quiet = last_counter - most_quiet

-- how many samples from the counter c on are only kept, as far as it can be told at once: the stored numbers are read as they are, no
-- counter is out of range, and the window closes within two slots. Else 0
unfoldable pub quiet_samples : Clock → ℕ → ℤ → ℕ
quiet_samples k misses c =
    cond
    (stands k misses
    && (not (lt_z c (pos 0) || lt_z (pos last_quiet) c) && not (lt_z (until_close k c) (pos 1) || lt_z (pos most_quiet) (until_close k c))))
    (nat_abs (until_close k c))
    0
