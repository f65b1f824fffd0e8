-- The calls on a receiver: what each comes to (01, "Refusals", "Slot bits and burst views", "The receiver"). Definitions only.
use Rattle.std.specs.Prelude.{ℕ, zero, suc, Bool, false, cond, ◌||◌, List, [], ◌∷◌, Result, Ok, Err, ℤ}
use Rattle.std.specs.Int.Signed.{lt_z}
use Rattle.dsp_types.specs.declared.ComplexSample.{ComplexSample}
use Rattle.dsp_types.specs.declared.refusals.Refusal.{Refusal}
use Rattle.dsp_types.specs.Answers.{number_of}
use Rattle.dsp_types.specs.Refusals.{accepted, bad_sample, bad_counter, bad_length, past_counter, no_slot_waits, not_following, beyond, out_of_count, wrong_length}
use Rattle.rx_slot.specs.declared.RxSlot.{RxSlot}
use Rattle.rx_slot.specs.Slots.{HandedSlot, valid_slot, shown, filled}
use Rattle.slot_receiver.specs.declared.Mode.{Mode}
use Rattle.slot_receiver.specs.declared.Mode.TheVariants.{Idle, DlUnsynchronized, Dl, Ul}
use Rattle.slot_receiver.specs.Receiver.{Receiver, with_mode, with_clock, with_waits, valid_count, accept}
use Rattle.slot_receiver.specs.Windows.{Window, accept_windows}

-- what a call answers: a refusal's number alone, that it was done, or the slot that was taken
pub data Reply (Slot : Type 0) : Type 0 where
  refused : ℕ → Reply Slot
  done : Reply Slot
  took : Slot → Reply Slot

-- what a call comes to: its answer, the receiver after it, the windows that it closed, the last first, and the lent bytes after it
pub record Outcome : Type 0 where
  pub reply : Reply HandedSlot
  pub receiver : Receiver
  pub windows : List Window
  pub lent : List (List ℕ)

-- 01: "A refusal returns its number alone and changes nothing." Where the number is 0 the call comes to o
unfoldable pub unless : ℕ → Receiver → List (List ℕ) → Outcome → Outcome
unless zero r lent o = o
unless (suc n) r lent o = record { reply = refused (suc n); receiver = r; windows = []; lent = lent }

-- ---- a sample

-- the refusal of a sample x with the counter c, where `next` is the counter after the last accepted one
unfoldable pub sample_refusal : ℤ → ComplexSample → ℤ → ℕ
sample_refusal next x c = cond (beyond x.re || beyond x.im) bad_sample (cond (out_of_count c) bad_counter (cond (lt_z c next) past_counter accepted))

unfoldable pub sampled : Receiver → ComplexSample → ℤ → Outcome
sampled r x c = record { reply = done; receiver = accept r x c; windows = accept_windows r x c; lent = [] }

unfoldable pub sample_outcome : Receiver → ComplexSample → ℤ → Outcome
sample_outcome r x c = unless (sample_refusal (valid_count r.next) x c) r [] (sampled r x c)

-- ---- a take

unfoldable pub take_refusal : {A : Type 0} → List A → List A → List A → Bool → ℕ
take_refusal slot first second waits =
    cond (wrong_length 510 slot || (wrong_length 254 first || wrong_length 254 second)) bad_length (cond waits accepted no_slot_waits)

unfoldable pub taken : Receiver → HandedSlot → Outcome
taken r h = record { reply = took h; receiver = with_waits r false; windows = []; lent = filled h }

unfoldable pub take_outcome : Receiver → (slot subslot1 subslot2 : List ℕ) → Outcome
take_outcome r slot subslot1 subslot2 =
    unless (take_refusal slot subslot1 subslot2 r.waits) r (slot ∷ subslot1 ∷ subslot2 ∷ []) (taken r (valid_slot r.slot))

-- ---- an order to follow: `sync_to_demodulator`

unfoldable pub follow_refusal : Mode → ℕ
follow_refusal Idle = accepted
follow_refusal DlUnsynchronized = not_following
follow_refusal Dl = not_following
follow_refusal Ul = accepted

-- an idle receiver takes the other's last slot number too
unfoldable pub slot_when : Mode → ℕ → ℕ → ℕ
slot_when Idle other own = other
slot_when DlUnsynchronized other own = own
slot_when Dl other own = own
slot_when Ul other own = own

-- r, told to follow a receiver in that mode: idle while the other searches, uplink once it is locked
unfoldable pub following : Mode → Receiver → Receiver → Receiver
following Idle r other = r
following DlUnsynchronized r other = with_mode r Idle
following Dl r other =
    with_mode
    (with_clock r
    (record {
      reference_time = other.clock.reference_time;
      slot_ready_time = r.clock.slot_ready_time;
      current_slot = slot_when r.mode other.slot.time r.clock.current_slot;
    }))
    Ul
following Ul r other = r

unfoldable pub followed : Receiver → Receiver → Outcome
followed r other = record { reply = done; receiver = following other.mode r other; windows = []; lent = [] }

unfoldable pub follow_outcome : Receiver → Receiver → Outcome
follow_outcome r other = unless (follow_refusal r.mode) r [] (followed r other)

-- ---- 01's number and values of each answer: no two answers tell the same (`told_apart`, `take_told_apart` of proofs/Told.antt)

unfoldable pub reply_of : Result (Unit {0}) Refusal → Reply HandedSlot
reply_of (Ok x) = done
reply_of (Err refusal) = refused (number_of refusal)

unfoldable pub take_reply_of : Result RxSlot Refusal → Reply RxSlot
take_reply_of (Ok slot) = took slot
take_reply_of (Err refusal) = refused (number_of refusal)

-- a slot in numbers: of a view its length, since its bits are the lent bytes
unfoldable pub in_numbers : Reply HandedSlot → Reply RxSlot
in_numbers (refused n) = refused n
in_numbers done = done
in_numbers (took h) = took (shown h)
