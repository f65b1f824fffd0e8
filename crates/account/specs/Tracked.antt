-- Document 01's account of the samples so far. Where in the rules' spans a closing is due, "the source decides from those samples": by its
-- averaged timing error, which stands beside the account here. Definitions only. Samples stand THE LAST FIRST.
use Rattle.std.specs.Prelude.{Bool, true, false, List, [], ◌∷◌, ℕ, zero, suc, ◌+◌, ◌*◌, length, ltb, leb, eqb, Float, pos, nat_abs, ◌+ℤ◌}
use Rattle.dsp_types.specs.declared.ComplexSample.{ComplexSample}
use Rattle.dsp_types.specs.Samples.{zero_f}
use Rattle.timing.specs.Tracking.{averaged_of, settled_of, moved_of}
use Rattle.burst_finder.specs.Search.{find_sync}
use Rattle.listener.specs.Signal.{Signal, unheard, hear, slot_timing, window_bits}
use Rattle.account.specs.Rules.{Account, start, type_of, next_misses, unfound, locked, handed}

-- the samples so far, as the receiver keeps them. The bits of a window are `window_bits` of it: "what the sections above make of the
-- samples up to and with that one"
unfoldable pub signal_heard : List ComplexSample → Signal
signal_heard [] = unheard
signal_heard (x ∷ older) = hear (signal_heard older) x

-- the account, and beside it the averaged timing error of the source
pub record Tracked : Type 0 where
  pub account : Account
  pub error : Float

-- from a slot's window to the next: 1,020 samples, one more or one less as the averaged error moves the reference time
unfoldable pub slot_gap : Float → ℕ
slot_gap e = nat_abs (pos 1020 +ℤ moved_of e)

-- a training sequence brings the error up to date
unfoldable pub error_after : (type : ℕ) → Float → Float → Float
error_after zero e timing = e
error_after (suc type) e timing = averaged_of e timing

-- a search window, by whether the synchronization sequence is found, and where from bit 216 on
unfoldable pub search_turn : Bool → ℕ → Tracked → ℕ → Float → Tracked
search_turn true place t n timing = record { account = locked t.account n (4 + 2 * place); error = averaged_of zero_f timing }
search_turn false place t n timing = record { account = unfound t.account n; error = t.error }

-- a locked window with these bits, by whether the lock is kept; e is the error as they bring it up to date
unfoldable pub slot_turn : Bool → List ℕ → Tracked → ℕ → Float → Tracked
slot_turn true bits t n e = record { account = handed t.account n bits true (slot_gap e); error = settled_of e }
slot_turn false bits t n e = record { account = handed t.account n bits false 400; error = t.error }

-- a window closes at n
unfoldable pub window_turn : (locked : Bool) → Tracked → ℕ → Signal → Tracked
window_turn false t n s = search_turn (leb (find_sync (window_bits s)).dist 1) (find_sync (window_bits s)).pos t n (slot_timing s)
window_turn true t n s =
    slot_turn (ltb (next_misses (type_of (window_bits s)) t.account.misses) 100) (window_bits s) t n (error_after (type_of (window_bits s)) t.error (slot_timing s))

-- one sample more, by whether a closing is due
unfoldable pub turn_if : Bool → Tracked → ℕ → Signal → Tracked
turn_if false t n s = t
turn_if true t n s = window_turn t.account.locked t n s

-- .. the sample with the counter n
unfoldable pub turn : Tracked → ℕ → Signal → Tracked
turn t n s = turn_if (eqb n t.account.due) t n s

-- all the samples, from the start on
unfoldable pub tracked : List ComplexSample → Tracked
tracked [] = record { account = start; error = zero_f }
tracked (x ∷ older) = turn (tracked older) (length older) (signal_heard (x ∷ older))

-- 01's account of them
unfoldable pub account : List ComplexSample → Account
account xs = (tracked xs).account
