-- DEMAND 3: document 01's account of a list of calls, drawn from its accepted samples alone, and the claim `Demand3`. Definitions only.
-- Rules.antt has the account's rules, Tracked.antt the account itself, CallList.antt the calls. proofs/Demand.antt proves it: `demand3`.
-- Samples, windows and calls stand THE LAST FIRST, so that the sample x of x ∷ older has the counter `length older`.
use Rattle.std.specs.Prelude.{◌≡◌, Bool, true, false, cond, not, ◌||◌, List, [], ◌∷◌, ℕ, zero, suc, ◌+◌, ◌-◌, ◌≤◌, length, take, ℤ, pos, ◌+ℤ◌, ltb, leb}
use Rattle.dsp_types.specs.declared.ComplexSample.{ComplexSample}
use Rattle.dsp_types.specs.Refusals.{accepted, bad_length, no_slot_waits, not_following, wrong_length}
use Rattle.burst_finder.specs.Search.{hamming_distance}
use Rattle.slotter.specs.Bursts.{sync_burst, normal_burst}
use Rattle.slot_receiver.specs.declared.Mode.{Mode}
use Rattle.slot_receiver.specs.declared.Mode.TheVariants.{DlUnsynchronized, Dl}
use Rattle.listener.specs.Signal.{window_bits}
use Rattle.rx_slot.specs.Slots.{HandedSlot, with_views, filled}
use Rattle.rx_slot.specs.Views.{no_view}
use Rattle.slot_receiver.specs.Windows.{Kind, searched, lock, slot, Window}
use Rattle.slot_receiver.specs.Calls.{Reply, refused, done, took, sample_refusal}
use Rattle.account.specs.CallList as CallList
use Rattle.account.specs.CallList.{Call, sample, follow, lent, outcome, after, answers, closed, lent_after}
use Rattle.account.specs.Rules.{Account, start, next_misses, Turn}
use Rattle.account.specs.Tracked.{signal_heard, account}

-- at every sample the account takes a turn that the rules allow
unfoldable pub Told : List ComplexSample → Type 0
Told [] = account [] ≡ start
Told (x ∷ older) = Told older × Turn (account older) (length older) (window_bits (signal_heard (x ∷ older))) (account (x ∷ older))

-- ════ what demand 3 counts, told from the closed windows

-- how many slots in a row, up to this window, were handed over without a training sequence, where it were k before
unfoldable pub run_on : Kind → ℕ → ℕ
run_on searched k = 0
run_on lock k = 0
run_on (slot h) k = next_misses h.full.type k

-- .. up to the last window: a lock counts anew
unfoldable pub run : List Window → ℕ
run [] = 0
run (w ∷ ws) = run_on w.kind (run ws)

-- one counter for a type other than 0, else the other
unfoldable pub typed_or : (type now before : ℕ) → ℕ
typed_or zero now before = before
typed_or (suc t) now before = now

-- 01's "has a training sequence": "the account locked on it or its type is not 0". Then this window's counter, else the one before
unfoldable pub trained_on : Kind → ℕ → ℕ → ℕ
trained_on searched now before = before
trained_on lock now before = now
trained_on (slot h) now before = typed_or h.full.type now before

-- the counter of the last window with a training sequence
unfoldable pub trained : List Window → ℕ
trained [] = 0
trained (w ∷ ws) = trained_on w.kind w.counter (trained ws)

-- whether a window, with k such slots in a row, leaves a lock
unfoldable pub held_on : Kind → ℕ → Bool
held_on searched k = false
held_on lock k = true
held_on (slot h) k = ltb k 100

-- whether these windows do: from a lock on, and not past the hundredth slot in a row without a training sequence
unfoldable pub held : List Window → Bool
held [] = false
held (w ∷ ws) = held_on w.kind (run (w ∷ ws))

-- the hundredth slot in a row closes at most 102,100 samples after the last window with a training sequence
unfoldable pub Soon : List Window → Type 0
Soon [] = Unit {0}
Soon (w ∷ ws) = run (w ∷ ws) ≡ 100 → w.counter ≤ trained ws + 102100

-- 1 for a counter among the 1,021 from k on, else 0
unfoldable pub inside : ℕ → ℕ → ℕ
inside k n = cond (leb k n) (cond (ltb n (k + 1021)) 1 0) 0

-- how many windows close at these counters
unfoldable pub closed_in : ℕ → List Window → ℕ
closed_in k [] = 0
closed_in k (w ∷ ws) = inside k w.counter + closed_in k ws

-- n for a handed slot, else 0
unfoldable pub if_slot : Kind → ℕ → ℕ
if_slot searched n = 0
if_slot lock n = 0
if_slot (slot h) n = n

-- how many slots are handed over at these counters
unfoldable pub handed_in : ℕ → List Window → ℕ
handed_in k [] = 0
handed_in k (w ∷ ws) = if_slot w.kind (inside k w.counter) + handed_in k ws

-- ════ the calls as the account tells them

-- one value where a refusal's number is 0, for none, else the other
unfoldable pub if_accepted : {A : Type 0} → ℕ → A → A → A
if_accepted zero now before = now
if_accepted (suc n) now before = before

-- the counter after the last accepted sample, 0 at the start
unfoldable pub next_counter : List Call → ℤ
next_counter [] = pos 0
next_counter (sample x c ∷ cs) = if_accepted (sample_refusal (next_counter cs) x c) (c +ℤ pos 1) (next_counter cs)
next_counter (CallList.take s a b ∷ cs) = next_counter cs
next_counter (follow other ∷ cs) = next_counter cs

-- 01's "accepted" samples: "exactly if none of refusals 1, 2 and 10 holds"
unfoldable pub heard : List Call → List ComplexSample
heard [] = []
heard (sample x c ∷ cs) = if_accepted (sample_refusal (next_counter cs) x c) (x ∷ heard cs) (heard cs)
heard (CallList.take s a b ∷ cs) = heard cs
heard (follow other ∷ cs) = heard cs

-- demand 3's lists: the "accepted samples have counters 0, 1, 2 and on"
unfoldable pub Counted : List Call → Type 0
Counted [] = Unit {0}
Counted (sample x c ∷ cs) = Counted cs × (sample_refusal (next_counter cs) x c ≡ accepted → c ≡ pos (length (heard cs)))
Counted (CallList.take s a b ∷ cs) = Counted cs
Counted (follow other ∷ cs) = Counted cs

-- the account of the list
unfoldable pub account_of : List Call → Account
account_of cs = account (heard cs)

-- the slot that waits to be taken, if one does
pub data Waiting : Type 0 where
  nothing : Waiting
  waits : HandedSlot → Waiting

-- "A search window empties the full slot's finding, also while an earlier slot waits untaken; that slot is then taken with type 0, and
-- keeps its number unless such a window finds, which makes it 0."
unfoldable pub changed : Kind → Waiting → Waiting
changed searched nothing = nothing
changed searched (waits h) = waits (with_views h h.time no_view no_view no_view)
changed lock nothing = nothing
changed lock (waits h) = waits (with_views h 0 no_view no_view no_view)
changed (slot h) w = waits h

-- the last handed slot, changed by the search windows closed after it
unfoldable pub last_handed : List Window → Waiting
last_handed [] = nothing
last_handed (w ∷ ws) = changed w.kind (last_handed ws)

-- all but the k oldest windows
unfoldable pub newer : ℕ → List Window → List Window
newer k ws = take (length ws - k) ws

-- "slices of the right lengths"
unfoldable pub sized : (slot subslot1 subslot2 : List ℕ) → Bool
sized s a b = not (wrong_length 510 s || (wrong_length 254 a || wrong_length 254 b))

-- one count at a take that is answered, else the other
unfoldable pub seen_if : Bool → Waiting → (now before : ℕ) → ℕ
seen_if false w now before = before
seen_if true nothing now before = before
seen_if true (waits h) now before = now

-- how many windows were closed at the last answered take, 0 at the start
unfoldable pub seen : List Call → ℕ
seen [] = 0
seen (sample x c ∷ cs) = seen cs
seen (CallList.take s a b ∷ cs) = seen_if (sized s a b) (last_handed (newer (seen cs) (account_of cs).windows)) (length (account_of cs).windows) (seen cs)
seen (follow other ∷ cs) = seen cs

-- the last slot "handed over .. since the last answered take, or since the start"
unfoldable pub waiting : List Call → Waiting
waiting cs = last_handed (newer (seen cs) (account_of cs).windows)

-- what a sample is to be answered, by its refusal's number: 0 for none
unfoldable pub answered : ℕ → Reply HandedSlot
answered n = if_accepted n done (refused n)

-- what a take is to be answered: refusal 3, refusal 11, or the slot
unfoldable pub told_take : Bool → Waiting → Reply HandedSlot
told_take false w = refused bad_length
told_take true nothing = refused no_slot_waits
told_take true (waits h) = took h

-- what a call is to be answered after the calls cs
unfoldable pub expected : Call → List Call → Reply HandedSlot
expected (sample x c) cs = answered (sample_refusal (next_counter cs) x c)
expected (CallList.take s a b) cs = told_take (sized s a b) (waiting cs)
expected (follow other) cs = refused not_following

-- .. and each of a list of calls
unfoldable pub expected_all : List Call → List (Reply HandedSlot)
expected_all [] = []
expected_all (c ∷ cs) = expected c cs ∷ expected_all cs

-- lent slices after an answer: "Taking a slot fills 510, 254 and 254 lent bytes with the three views"; a refusal "changes nothing"
unfoldable pub filled_by : Reply HandedSlot → List (List ℕ) → List (List ℕ)
filled_by (refused n) before = before
filled_by done before = before
filled_by (took h) before = filled h

-- what the slices that each of a list of calls lends are to hold after it
unfoldable pub expected_lent : List Call → List (List (List ℕ))
expected_lent [] = []
expected_lent (c ∷ cs) = filled_by (expected c cs) (lent c) ∷ expected_lent cs

-- ════ bursts

-- a burst of our builders, for blocks that they do not refuse, and its type
pub data Built : (type : ℕ) → List ℕ → Type 0 where
  sync : (blk1 bbk blk2 : List ℕ) → (sync_burst blk1 bbk blk2).number ≡ accepted → Built 4 (sync_burst blk1 bbk blk2).bits
  normal : (training : ℕ) (blk1 bbk blk2 : List ℕ) → (normal_burst training blk1 bbk blk2).number ≡ accepted → Built training (normal_burst training blk1 bbk blk2).bits

-- "a burst of our builder, at most one of 510 flipped"
pub record Burst (type : ℕ) (bits : List ℕ) : Type 0 where
  pub sent : List ℕ
  pub built : Built type sent
  pub flipped : hamming_distance bits sent ≤ 1

-- the answer is a taken slot with this number, this closing counter and this type
unfoldable pub Gives : (number counter type : ℕ) → Reply HandedSlot → Type 0
Gives number counter type (refused n) = ⊥
Gives number counter type done = ⊥
Gives number counter type (took h) = (h.time ≡ number) × (h.closing_counter ≡ pos counter) × (h.full.type ≡ type)

-- 01's "reported": "if a take as the very next call gives it". Where the last call closed a locked window with a burst's bits, it does
unfoldable pub Reported : List Call → Type 0
Reported [] = Unit {0}
Reported (sample x c ∷ cs) =
    sample_refusal (next_counter cs) x c ≡ accepted → (account_of cs).locked ≡ true → (account_of cs).due ≡ length (heard cs)
    → (type : ℕ) → Burst type (window_bits (signal_heard (x ∷ heard cs))) → (s a b : List ℕ) → sized s a b ≡ true
    → Gives (account_of cs).number (length (heard cs)) type (outcome (after (sample x c ∷ cs)) (CallList.take s a b)).reply
Reported (CallList.take s a b ∷ cs) = Unit {0}
Reported (follow other ∷ cs) = Unit {0}

-- ════ DEMAND 3, of the moment after the calls cs

-- in search or locked, as a mode
unfoldable pub locked_mode : (locked : Bool) → Mode
locked_mode false = DlUnsynchronized
locked_mode true = Dl

-- one field for each sentence
pub record Demand3 (cs : List Call) : Type 0 where
  -- the account is 01's: 1,034, 400, the lock rule, 4 to 516, 1,019 to 1,021, numbers, misses, the hundredth
  pub rules : Told (heard cs)
  -- "The receiver closes these windows and no others, and after the list it searches or is locked as the account is."
  pub windows : closed cs ≡ (account_of cs).windows
  pub mode : (after cs).mode ≡ locked_mode (account_of cs).locked
  -- "its takes answer as 01's account of it tells", and so do the other calls; the lent slices after them
  pub answered : answers cs ≡ expected_all cs
  pub fills : lent_after cs ≡ expected_lent cs
  -- a refused call would change neither the receiver nor a lent slice
  pub unchanged : (c : Call) (n : ℕ) → (outcome (after cs) c).reply ≡ refused n → ((outcome (after cs) c).receiver ≡ after cs) × ((outcome (after cs) c).lent ≡ lent c)
  -- "Search returns exactly with the hundredth handed slot in a row, counted from the lock, without a training sequence, .."
  pub returns : (account_of cs).locked ≡ held (account_of cs).windows
  -- ".. at most 102,100 samples after the last window with one."
  pub soon : Soon (account_of cs).windows
  -- "No 1,021 consecutive samples close more than four windows or hand over more than two slots."
  pub four : (k : ℕ) → closed_in k (account_of cs).windows ≤ 4
  pub two : (k : ℕ) → handed_in k (account_of cs).windows ≤ 2
  -- "A locked window whose bits are a burst of our builder, at most one of 510 flipped, is reported with that burst's type."
  pub reported : Reported cs

-- ... and of every moment before
unfoldable pub Throughout : List Call → Type 0
Throughout [] = Demand3 []
Throughout (c ∷ cs) = Demand3 (c ∷ cs) × Throughout cs
