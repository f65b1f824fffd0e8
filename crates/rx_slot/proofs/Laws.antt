-- Bytes filled one by one, a stored burst read, and a slot as a take tells it. Assumes nothing.
use mathlib.Core.Path.{◌≡◌, refl, ap}
use mathlib.Core.Bool.{Bool, true, false, not, ◌&&◌}
use mathlib.Core.List.{List, [], ◌∷◌, ◌++◌, map}
use Prim.Native.Nat.{ℕ, zero, suc, ◌-◌, ◌≤◌, ◌<◌, ◌%◌, min}
use native.Mathlib.Omega.{arith}
use lib.Dec.{eqb, leb}
use lib.IntN.{ℤ}
use lib.ListN.{length, get_or, set, take, drop, replicate}
use lib.Seq.{take_all, length-take-le}
use Rattle.std.proofs.Common.{append-nil, length-append, length-drop}
use Rattle.std.proofs.lemmas.List.{drop_all}
use Rattle.std.proofs.Math.Seq.{take-append_seam}
use borrow.Author.Tests.{le-leb}
use Rattle.dsp_types.specs.Times.{slots}
use Rattle.burst_finder.specs.declared.Finding.{Finding}
use Rattle.burst_finder.specs.Slots.{most_errors, get_burst}
use Rattle.rx_slot.specs.declared.RxBurst.{RxBurst}
use Rattle.rx_slot.specs.Views.{no_view, view_on, stored_burst, stored_view, is_found, valid_view, burst_shown, padded}
use Rattle.rx_slot.specs.Slots.{HandedSlot, valid_closing, valid_slot, shown, filled}

-- what is stored of a finding is seen as that finding
pub stored_finding : (n : ℕ) (bits : List ℕ) (f : Finding) → stored_view n bits (stored_burst f) ≡ view_on (take n bits) f
unfolding stored_view stored_burst view_on
stored_finding n bits f = refl

-- no burst, in whatever bits
pub no_stored : {b : RxBurst} → b ≡ burst_shown no_view → (n : ℕ) (bits : List ℕ) → stored_view n bits b ≡ no_view
unfolding stored_view burst_shown no_view get_burst
no_stored e n bits = rw (e, le-leb 0 (length (take n bits)) (omega arith))

-- ---- lent bytes, filled one by one

pub fill_step : (bits out : List ℕ) (i : ℕ) → i < length out → set (padded i bits ++ drop i out) i (get_or bits i 0) ≡ padded (suc i) bits ++ drop (suc i) out
unfolding padded
fill_step bits [] i h = absurd (omega arith)
fill_step [] (x ∷ out) zero h = refl
fill_step (b ∷ bits) (x ∷ out) zero h = refl
fill_step [] (x ∷ out) (suc i) h = ap (λ (l : List ℕ). 0 ∷ l) (fill_step [] out i (omega arith))
fill_step (b ∷ bits) (x ∷ out) (suc i) h = ap (λ (l : List ℕ). b ∷ l) (fill_step bits out i (omega arith))

pub fill_none : (bits out : List ℕ) → out ≡ padded 0 bits ++ drop 0 out
unfolding padded
fill_none bits out = refl

pub length_padded : (n : ℕ) (bits : List ℕ) → length (padded n bits) ≡ n
unfolding padded
length_padded zero bits = refl
length_padded (suc n) [] = ap suc (length_padded n [])
length_padded (suc n) (b ∷ bits) = ap suc (length_padded n bits)

zeros : (n : ℕ) → replicate n 0 ≡ padded n []
unfolding padded
zeros zero = refl
zeros (suc n) = ap (λ (l : List ℕ). 0 ∷ l) (zeros n)

-- the bits that there is room for, and zeros behind them
padded_more : (n k : ℕ) (bits : List ℕ) → k ≡ min (length bits) n → padded k bits ++ replicate (n - k) 0 ≡ padded n bits
unfolding padded
padded_more zero k bits h = let e : k ≡ 0 = omega arith in rw e refl
padded_more (suc n) k [] h =
    let e : k ≡ 0 = omega arith in
    let s : suc n - 0 ≡ suc n = omega arith in
    rw (e, s) (ap (λ (l : List ℕ). 0 ∷ l) (zeros n))
padded_more (suc n) k (b ∷ bits) h =
    let m = min (length bits) n in
    let e : k ≡ suc m = omega arith in
    let s : suc n - suc m ≡ n - m = omega arith in
    rw (e, s) (ap (λ (l : List ℕ). b ∷ l) (padded_more n m bits refl))

-- .. once the bits are written, and the rest is zeros
pub filled_up : (bits out written : List ℕ) (k : ℕ) → k ≡ min (length bits) (length out) → written ≡ padded k bits ++ drop k out
    → take k written ++ (replicate (length written - k) 0 ++ drop (length written - k) (drop k written)) ≡ padded (length out) bits
filled_up bits out written k h w =
    let front = take-append_seam (padded k bits) (drop k out) in
    let long : length written ≡ length out = rw w (simp (length-append, length_padded, length-drop) (omega arith)) in
    let none : drop (length written - k) (drop k written) ≡ [] = drop_all (length written - k) (drop k written) (simp length-drop (omega arith)) in
    let t : take k written ≡ padded k bits = rw w (rw (length_padded k bits) at front) in
    let rest : List ℕ = replicate (length out - k) 0 in
    let z : rest ++ [] ≡ rest = append-nil rest in
    rw (none, t, long, z) (padded_more (length out) k bits h)

-- the bits in front
pub padded_front : (n : ℕ) (bits : List ℕ) → length bits ≤ n → take (length bits) (padded n bits) ≡ bits
unfolding padded
padded_front zero [] h = refl
padded_front zero (b ∷ bits) h = absurd (omega arith)
padded_front (suc n) [] h = refl
padded_front (suc n) (b ∷ bits) h = ap (λ (l : List ℕ). b ∷ l) (padded_front n bits (omega arith))

abbrev pub bit : ℕ → ℕ
bit b = b % 2

-- a bit that is there, and a zero behind them
pub bit_at : (bits : List ℕ) (i : ℕ) → i < length bits → get_or (map bit bits) i 0 ≡ get_or bits i 0 % 2
bit_at [] i h = absurd (omega arith)
bit_at (b ∷ bits) zero h = refl
bit_at (b ∷ bits) (suc i) h = bit_at bits i (omega arith)

pub zero_at : (bits : List ℕ) (i : ℕ) → length bits ≤ i → get_or (map bit bits) i 0 ≡ 0
zero_at [] i h = refl
zero_at (b ∷ bits) zero h = absurd (omega arith)
zero_at (b ∷ bits) (suc i) h = zero_at bits i (omega arith)

-- ---- a stored burst, read

length_bits : (bits : List ℕ) → length (map bit bits) ≡ length bits
length_bits [] = refl
length_bits (b ∷ bits) = ap suc (length_bits bits)

module _ (b : RxBurst) (bits part : List ℕ) (e : part ≡ get_burst bits b.burst_pos b.burst_len) where
  view : stored_view (length bits) bits b ≡ record { type = b.train_type; errors = b.train_errs; place = b.burst_pos; bits = part }
  unfolding stored_view
  view = rw (e, take_all (length bits) bits (omega arith))

  abbrev test : Bool
  test = not (eqb b.train_type 0) && (leb b.train_type 4 && (leb b.train_errs most_errors && not (eqb (length part) 0)))

  pub view_found : test ≡ true
      → valid_view (stored_view (length bits) bits b) ≡ record { type = b.train_type; errors = b.train_errs; place = b.burst_pos; bits = map bit part }
  unfolding valid_view is_found
  view_found t = rw (view, t)

  pub view_none : test ≡ false → valid_view (stored_view (length bits) bits b) ≡ no_view
  unfolding valid_view is_found
  view_none t = rw (view, t)

  pub told_found : test ≡ true
      → record { train_type = b.train_type; train_errs = b.train_errs; burst_pos = b.burst_pos; burst_len = length part }
      ≡ burst_shown (valid_view (stored_view (length bits) bits b))
  unfolding burst_shown
  told_found t = rw (view_found t, length_bits part)

-- the window's bits are the front of those stored
pub stored_front : (n : ℕ) (bits : List ℕ) (b : RxBurst) → n ≤ length bits → stored_view (length (take n bits)) (take n bits) b ≡ stored_view n bits b
unfolding stored_view
stored_front n bits b h =
    let e : length (take n bits) ≡ n = length-take-le n bits h in
    rw (e, take_all n (take n bits) (omega arith))

-- a slot as a take tells it, and its bytes
module _ (h : HandedSlot) where
  pub slot_told : (time : ℕ) (closing : ℤ) (full first second : RxBurst) → time ≡ h.time % slots → closing ≡ valid_closing h.closing_counter
      → full ≡ burst_shown (valid_view h.full) → first ≡ burst_shown (valid_view h.subslot1) → second ≡ burst_shown (valid_view h.subslot2)
      → record { time = record { 0 = time }; closing_counter = record { 0 = closing }; full = full; subslot1 = first; subslot2 = second } ≡ shown (valid_slot h)
  unfolding shown valid_slot
  slot_told time closing full first second t k a b c = rw (t, k, a, b, c)

  pub slot_filled : (slot first second : List ℕ) → slot ≡ padded 510 (valid_view h.full).bits → first ≡ padded 254 (valid_view h.subslot1).bits
      → second ≡ padded 254 (valid_view h.subslot2).bits → slot ∷ first ∷ second ∷ [] ≡ filled (valid_slot h)
  unfolding filled valid_slot
  slot_filled slot first second a b c = rw (a, b, c)
