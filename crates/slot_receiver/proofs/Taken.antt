-- The views that windows leave: to read one as valid changes nothing, since it is none, or has a type, few errors and bits of its window.
use mathlib.Core.Path.{◌≡◌, refl}
use mathlib.Core.Bool.{false}
use mathlib.Core.Logic.{inl, inr}
use mathlib.Core.List.{List, [], ◌∷◌, map}
use Prim.Native.Nat.{ℕ, zero, suc, ◌+◌, ◌%◌, ◌≤◌, ◌<◌}
use native.Mathlib.Nat.{mod-eq_of_lt, mod-lt}
use native.Mathlib.Omega.{arith}
use lib.Dec.{ltb}
use lib.ListN.{length, take, drop}
use borrow.Author.Tests.{le-leb, ne_eqb, ltb-false}
use Rattle.dsp_types.proofs.Laws.{neither}
use Rattle.dsp_types.specs.Refusals.{not_bits}
use Rattle.dsp_types.specs.Samples.{silence, ago}
use Rattle.dsp_types.specs.Times.{slots}
use Rattle.timing.specs.Turns.{whole_of, fract_of}
use Rattle.slot_bits.proofs.Laws.{bits_are_bits}
use Rattle.burst_finder.specs.declared.Finding.{Finding}
use Rattle.burst_finder.specs.declared.SlotType.{SlotType}
use Rattle.burst_finder.specs.declared.TrainingSequence.{TrainingSequence}
use Rattle.burst_finder.specs.declared.TrainingSequence.TheVariants.{NotFound, NormalTrainSeq1, NormalTrainSeq2, ExtendedTrainSeq, SyncTrainSeq}
use Rattle.burst_finder.specs.Slots.{type_number, not_found, check_slot, get_burst}
use Rattle.burst_finder.proofs.Findings.{slot_judged, view_is, view_length}
use Rattle.listener.specs.Signal.{Signal, timing_of, bits_of}
use Rattle.rx_slot.specs.Views.{BurstView, no_view, view_on, checked, is_found, valid_view}
use Rattle.rx_slot.specs.Slots.{HandedSlot, valid_closing, valid_slot}

-- ---- bits

bits_drop : (n : ℕ) (bits : List ℕ) → not_bits bits ≡ false → not_bits (drop n bits) ≡ false
unfolding not_bits
bits_drop zero bits e = e
bits_drop (suc n) [] e = refl
bits_drop (suc n) (b ∷ bits) e = bits_drop n bits (neither (ltb 1 b) (not_bits bits) e).1

pub bits_take : (n : ℕ) (bits : List ℕ) → not_bits bits ≡ false → not_bits (take n bits) ≡ false
unfolding not_bits
bits_take zero bits e = refl
bits_take (suc n) [] e = refl
bits_take (suc n) (b ∷ bits) e = let h = neither (ltb 1 b) (not_bits bits) e in rw h.0 (bits_take n bits h.1)

pub bits_read : (bits : List ℕ) → not_bits bits ≡ false → map (λ b. b % 2) bits ≡ bits
unfolding not_bits
bits_read [] e = refl
bits_read (b ∷ bits) e =
    let h = neither (ltb 1 b) (not_bits bits) e in
    let m : b % 2 ≡ b = mod-eq_of_lt (omega (arith, ltb-false 1 b h.0)) in
    λ i. m i ∷ bits_read bits h.1 i

-- ---- views

type_most : (t : TrainingSequence) → type_number t ≤ 4
type_most NotFound = omega arith
type_most NormalTrainSeq1 = omega arith
type_most NormalTrainSeq2 = omega arith
type_most ExtendedTrainSeq = omega arith
type_most SyncTrainSeq = omega arith

pub none_valid : valid_view no_view ≡ no_view
unfolding valid_view is_found no_view
none_valid = refl

found_valid : (v : BurstView) → 0 < v.type → v.type ≤ 4 → v.errors ≤ 1 → 0 < length v.bits → map (λ b. b % 2) v.bits ≡ v.bits → valid_view v ≡ v
unfolding valid_view is_found
found_valid v some most few long e =
    rw (ne_eqb v.type 0 (λ h. omega arith), le-leb v.type 4 most, le-leb v.errors 1 few, ne_eqb (length v.bits) 0 (λ h. omega arith))
    (λ i. record { type = v.type; errors = v.errors; place = v.place; bits = e i })

none_on : (bits : List ℕ) → view_on bits not_found ≡ no_view
unfolding view_on not_found get_burst no_view
none_on bits = rw (le-leb 0 (length bits) (omega arith))

checked_valid : (k : SlotType) (bits : List ℕ) → not_bits bits ≡ false → valid_view (checked k bits) ≡ checked k bits
unfolding checked view_on
checked_valid k bits e = elim (slot_judged k bits).known [ inl h ↦ found_view h | inr h ↦ is_none h ]
  where
    f : Finding
    f = check_slot k bits

    found_view : (f.train_errs ≤ 1) × (0 < type_number f.train_type) × (0 < f.burst_len) → valid_view (view_on bits f) ≡ view_on bits f
    found_view h =
        let pos : ℕ = f.burst_pos in
        let len : ℕ = f.burst_len in
        let fits : pos + len ≤ length bits = (slot_judged k bits).fits in
        let own : not_bits (get_burst bits pos len) ≡ false = rw (view_is bits pos len fits) (bits_take len (drop pos bits) (bits_drop pos bits e)) in
        found_valid (view_on bits f) h.1 (type_most f.train_type) h.0 (omega (arith, h.2, view_length bits pos len fits)) (bits_read (get_burst bits pos len) own)

    is_none : f ≡ not_found → valid_view (view_on bits f) ≡ view_on bits f
    is_none h = rw (h, none_on bits) none_valid

-- the view of a window of the past
pub window_valid : (k : SlotType) (s : Signal) (d n : ℕ) → valid_view (checked k (bits_of s d n)) ≡ checked k (bits_of s d n)
unfolding bits_of
window_valid k s d n = checked_valid k (bits_of s d n) (bits_are_bits (ago silence s.past) d (whole_of (timing_of s d n)) (fract_of (timing_of s d n)) n)

-- ---- a slot with such views

pub record Views (h : HandedSlot) : Type 0 where
  pub full : valid_view h.full ≡ h.full
  pub subslot1 : valid_view h.subslot1 ≡ h.subslot1
  pub subslot2 : valid_view h.subslot2 ≡ h.subslot2

pub valid_slot_lem : (h : HandedSlot) → h.time < slots → valid_closing h.closing_counter ≡ h.closing_counter → Views h → valid_slot h ≡ h
unfolding valid_slot
valid_slot_lem h few k v =
    let n : h.time % slots ≡ h.time = mod-eq_of_lt few in
    λ i. record { time = n i; closing_counter = k i; full = v.full i; subslot1 = v.subslot1 i; subslot2 = v.subslot2 i }

-- a slot's number as it is read is in range, whatever is stored
pub valid_number : (h : HandedSlot) → (valid_slot h).time < slots
unfolding valid_slot
valid_number h = mod-lt h.time (omega arith)
