-- The calls that `run_calls` makes, and what it writes of each. Definitions only. Calls and answers stand THE LAST FIRST.
use Rattle.std.specs.Prelude.{◌≡◌, ℕ, ◌*◌, ◌/◌, min, cond, List, [], ◌∷◌, ◌++◌, map, reverse, length, get_or, drop, replicate, ℤ, pos}
use Rattle.std.specs.Prelude as Prelude
use Rattle.std.specs.Int.Signed.{lt_z, mag}
use Rattle.rx_slot.specs.declared.RxBurst.{RxBurst}
use Rattle.rx_slot.specs.declared.RxSlot.{RxSlot}
use Rattle.rx_slot.specs.Slots.{HandedSlot}
use Rattle.slot_receiver.specs.Receiver.{Receiver}
use Rattle.slot_receiver.specs.Calls.{Reply, refused, done, took, in_numbers}
use Rattle.rx_slot.specs.Views.{padded}
use Rattle.account.specs.declared.call.Call as Declared
use Rattle.account.specs.declared.call.Call.TheVariants as Made
use Rattle.account.specs.CallList.{Call, sample, take, follow, outcome, after, answers, lent_after}
use Rattle.account.specs.Account.{Counted, expected_all, expected_lent, Throughout}
use Rattle.account.specs.Closings.{Closings}

-- ════ the calls

-- a slice lent to a take: so many sevens, at most 1,024
unfoldable pub lent_bytes : ℕ → List ℕ
lent_bytes n = replicate (min n 1024) 7

-- a call of the code: a take lends sevens, and an order is to follow the other receiver
unfoldable pub call_of : (other : Receiver) → Declared.Call → Call
call_of other (Made.Sample x c) = sample x c.0
call_of other (Made.Take slot subslot1 subslot2) = take (lent_bytes slot) (lent_bytes subslot1) (lent_bytes subslot2)
call_of other Made.Follow = follow other

-- the calls that a slice holds, and that there is room for
unfoldable pub calls_in : (other : Receiver) (calls : List Declared.Call) (room : ℕ) → List Call
calls_in other calls room = reverse (map (call_of other) (Prelude.take room calls))

-- ════ what is written of each: a row of numbers, and 3,072 lent bytes

-- an answer's row
abbrev pub row_length : ℕ
row_length = 16

-- how many calls there is room for in so many numbers and so many bytes
unfoldable pub room_in : (told lent : ℕ) → ℕ
room_in told lent = min (told / row_length) (lent / 3072)

-- a view in numbers
unfoldable pub view_row : RxBurst → List ℕ
view_row v = v.train_type ∷ v.train_errs ∷ v.burst_pos ∷ v.burst_len ∷ []

-- a counter in numbers: 0 and the counter, or 1 and -1 less the counter where it is below 0
unfoldable pub counter_row : ℤ → List ℕ
counter_row c = cond (lt_z c (pos 0)) 1 0 ∷ mag c ∷ []

-- an answer: 0 and a refusal's number; 1; or 2, the slot's number, its closing counter and its three views. `row_tells` of proofs/Rows.antt:
-- no two answers have one row
unfoldable pub row_of : Reply RxSlot → List ℕ
row_of (refused n) = 0 ∷ n ∷ replicate 14 0
row_of done = 1 ∷ 0 ∷ replicate 14 0
row_of (took s) = 2 ∷ s.time.0 ∷ (counter_row s.closing_counter.0 ++ (view_row s.full ++ (view_row s.subslot1 ++ view_row s.subslot2)))

-- the rows of answers, in the order of their calls
unfoldable pub rows : List (Reply HandedSlot) → List ℕ
rows [] = []
rows (a ∷ earlier) = rows earlier ++ row_of (in_numbers a)

-- lent slices: 1,024 bytes for each of three, zeros behind what was lent
unfoldable pub bytes_of : List (List ℕ) → List ℕ
bytes_of slices = padded 1024 (get_or slices 0 []) ++ (padded 1024 (get_or slices 1 []) ++ padded 1024 (get_or slices 2 []))

-- .. of each call, in their order
unfoldable pub bytes_of_all : List (List (List ℕ)) → List ℕ
bytes_of_all [] = []
bytes_of_all (slices ∷ earlier) = bytes_of_all earlier ++ bytes_of slices

-- one call on r: the receiver after it, its answer's row and the bytes lent to it
pub record Makes (r : Receiver) (c : Call) (r' : Receiver) (told lent : List ℕ) : Type 0 where
  pub receiver : r' ≡ (outcome r c).receiver
  pub tells : told ≡ row_of (in_numbers (outcome r c).reply)
  pub lends : lent ≡ bytes_of (outcome r c).lent

-- the calls cs were made from a new searching downlink receiver on: r is the receiver after them; their answers and the slices that they
-- lent were written, and what is behind them stayed
pub record Written (cs : List Call) (r : Receiver) (told told' lent lent' : List ℕ) : Type 0 where
  pub receiver : r ≡ after cs
  pub tells : told' ≡ rows (answers cs) ++ drop (row_length * length cs) told
  pub lends : lent' ≡ bytes_of_all (lent_after cs) ++ drop (3072 * length cs) lent

-- .. their slots carry the counters at which their windows closed; and where their accepted samples count 0, 1, 2 and on, what was written is
-- what the account tells, and demand 3 holds throughout
pub record Ran (cs : List Call) (r : Receiver) (told told' lent lent' : List ℕ) : Type 0 where
  pub written : Written cs r told told' lent lent'
  pub closings : Closings cs
  pub expected : Counted cs → told' ≡ rows (expected_all cs) ++ drop (row_length * length cs) told
  pub filled : Counted cs → lent' ≡ bytes_of_all (expected_lent cs) ++ drop (3072 * length cs) lent
  pub keeps : Counted cs → Throughout cs
