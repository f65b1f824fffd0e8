-- Every burst that the builders make has its fields at 01's places, and two adjustment symbols that close their windows: each place is the length of what stands before it.
use mathlib.Core.Path.{◌≡◌, refl, sym, ap, ◌∙◌}
use mathlib.Core.List.{List, [], ◌++◌, append_assoc, append-nil}
use Prim.Native.Nat.{ℕ, ◌+◌, ◌-◌, ◌*◌, ◌%◌, ◌≤◌}
use native.Mathlib.Omega.{arith}
use lib.Dec.{lit≤}
use lib.ListN.{length, take, drop, length-append, take-append-drop, length-drop}
use lib.Seq.{slice, take_at, drop_at, length-take-le}
use Rattle.dsp_types.specs.Refusals.{accepted}
use Rattle.train_consts.specs.Training.{normal3, extended, synchronization, frequency_correction, tail}
use Rattle.dsp_types.specs.Phases.{modulo8}
use Rattle.slotter.specs.Phases.{phase_sum, adjustment}
use Rattle.slotter.specs.Bursts.{first_window, last_window, downlink, sync_fields, normal_fields, training_of, training_refusal, sync_burst, normal_burst}
use Rattle.slotter.specs.Uplink.{uplink, normal_uplink, control_uplink, uplink_number, uplink_bits}
use Rattle.slotter.specs.Places.{symbols, Adjusts, SyncPlaces, NormalPlaces, NormalUplinkPlaces, ControlUplinkPlaces}
use Rattle.slotter.proofs.Adjustment.{adjustment_cancels, adjustment_only, adjustment_length}
use Rattle.slotter.proofs.Windows.{first_odd, last_odd}
use Rattle.slotter.proofs.Fields.{training_length}
use Rattle.slotter.proofs.Refusal.{right_lengths, right_pair}
use Rattle.slotter.proofs.Answers.{burst_number, burst_bits}
use Rattle.slotter.proofs.UplinkAnswers.{uplink_number_lem, uplink_bits_lem}

-- the law of a place: a field stands where what is before it ends
pub at_place : (f e : ℕ) (l p s t : List ℕ) → l ≡ p ++ s ++ t → length p ≡ f → f + length s ≡ e → slice f e l ≡ s
at_place f e l p s t h n k =
    rw (h, take_at (p ++ s) t e (length-append p s ∙ omega arith), drop_at p s f n)

-- an adjustment symbol that is its window's, where the window has an odd sum
adjusts : (place from to : ℕ) (bits w : List ℕ) → symbols place place bits ≡ adjustment (phase_sum w) → symbols from to bits ≡ w → modulo8 (phase_sum w) % 2 ≡ 1
    → Adjusts place from to bits
adjusts place from to bits w e f odd =
    record {
      zero_sum = rw (e, f) (adjustment_cancels (phase_sum w) odd);
      only = λ a b h k g. e ∙ adjustment_only (phase_sum w) a b h k (rw f at g);
    }

-- ---- any fields between the adjustment symbols

module _ (last : ℕ) (fields : List ℕ) (n : length fields ≡ 484) (low : 7 ≤ last) (high : last ≤ 249) (even : last % 2 ≡ 0) where
  abbrev Q₁ : List ℕ
  Q₁ = drop 10 normal3

  abbrev Q₂ : List ℕ
  Q₂ = take 10 normal3

  abbrev A : List ℕ
  A = adjustment (phase_sum (first_window last fields))

  abbrev B : List ℕ
  B = adjustment (phase_sum (last_window last fields))

  lengths : (length Q₁ ≡ 12) × (length A ≡ 2) × (length B ≡ 2) × (length Q₂ ≡ 10)
  unfolding normal3
  lengths = (refl, adjustment_length (phase_sum (first_window last fields)), adjustment_length (phase_sum (last_window last fields)), refl)

  long : length (downlink last fields) ≡ 510
  unfolding downlink
  long = simp length-append (omega (arith, lengths))

  first_q : slice 0 12 (downlink last fields) ≡ Q₁
  unfolding downlink
  first_q = at_place 0 12 (downlink last fields) [] Q₁ (A ++ fields ++ B ++ Q₂) (simp append_assoc) refl (omega (arith, lengths))

  last_q : slice 500 510 (downlink last fields) ≡ Q₂
  unfolding downlink
  last_q =
      at_place 500 510 (downlink last fields) (Q₁ ++ A ++ fields ++ B) Q₂ [] (sym (append-nil (downlink last fields)))
      (simp length-append (omega (arith, lengths)))
      (omega (arith, lengths))

  -- a part of the fields stands 14 further on
  inner : (f e : ℕ) (p s t : List ℕ) → fields ≡ p ++ s ++ t → 14 + length p ≡ f → f + length s ≡ e → slice f e (downlink last fields) ≡ s
  unfolding downlink
  inner f e p s t h k l =
      at_place f e (downlink last fields) (Q₁ ++ A ++ p) s (t ++ B ++ Q₂)
      (ap (λ (r : List ℕ). Q₁ ++ A ++ r ++ B ++ Q₂) h ∙ simp append_assoc)
      (simp length-append (omega (arith, lengths, k)))
      l

  first_adjusts : Adjusts 7 8 last (downlink last fields)
  unfolding downlink first_window
  first_adjusts =
      let m : ℕ = 2 * (last - 7) in
      adjusts 7 8 last (downlink last fields) (first_window last fields)
      (at_place 12 14 (downlink last fields) Q₁ A (fields ++ B ++ Q₂) (simp append_assoc) lengths.0 (omega (arith, lengths)))
      (inner 14 (2 * last) [] (take m fields) (drop m fields) (sym (take-append-drop m fields)) refl (omega (arith, length-take-le m fields (omega arith))))
      (first_odd fields last n low high even)

  last_adjusts : Adjusts 250 (last + 1) 249 (downlink last fields)
  unfolding downlink last_window
  last_adjusts =
      let m : ℕ = 2 * (last - 7) in
      adjusts 250 (last + 1) 249 (downlink last fields) (last_window last fields)
      (at_place 498 500 (downlink last fields) (Q₁ ++ A ++ fields) B Q₂ refl (simp length-append (omega (arith, lengths))) (omega (arith, lengths)))
      (inner (2 * (last + 1 - 1)) 498 (take m fields) (drop m fields) []
      (sym (take-append-drop m fields) ∙ sym (append-nil (take m fields ++ drop m fields)))
      (omega (arith, length-take-le m fields (omega arith)))
      (omega (arith, length-drop m fields)))
      (last_odd fields last n low high even)

-- ---- the two kinds of burst

fixed_lengths : (length frequency_correction ≡ 80) × (length synchronization ≡ 38)
unfolding frequency_correction synchronization
fixed_lengths = (refl, refl)

sync_downlink : (blk1 bbk blk2 : List ℕ) → length blk1 ≡ 120 → length bbk ≡ 30 → length blk2 ≡ 216
    → SyncPlaces blk1 bbk blk2 (downlink 108 (sync_fields blk1 bbk blk2))
unfolding sync_fields
sync_downlink blk1 bbk blk2 l m r =
    let F : List ℕ = frequency_correction in
    let Y : List ℕ = synchronization in
    let fields : List ℕ = F ++ blk1 ++ Y ++ bbk ++ blk2 in
    let n : length fields ≡ 484 = simp length-append (omega (arith, fixed_lengths)) in
    let part = inner 108 fields n (lit≤ tt) (lit≤ tt) refl in
    record {
      whole = long 108 fields n (lit≤ tt) (lit≤ tt) refl;
      head = first_q 108 fields n (lit≤ tt) (lit≤ tt) refl;
      hc = first_adjusts 108 fields n (lit≤ tt) (lit≤ tt) refl;
      f = part 14 94 [] F (blk1 ++ Y ++ bbk ++ blk2) (simp append_assoc) refl (omega (arith, fixed_lengths));
      first = part 94 214 F blk1 (Y ++ bbk ++ blk2) (simp append_assoc) (omega (arith, fixed_lengths)) (omega arith);
      y = part 214 252 (F ++ blk1) Y (bbk ++ blk2) (simp append_assoc) (simp length-append (omega (arith, fixed_lengths))) (omega (arith, fixed_lengths));
      middle = part 252 282 (F ++ blk1 ++ Y) bbk blk2 refl (simp length-append (omega (arith, fixed_lengths))) (omega arith);
      last = part 282 498 (F ++ blk1 ++ Y ++ bbk) blk2 [] (sym (append-nil fields)) (simp length-append (omega (arith, fixed_lengths))) (omega arith);
      hd = last_adjusts 108 fields n (lit≤ tt) (lit≤ tt) refl;
      tail = last_q 108 fields n (lit≤ tt) (lit≤ tt) refl;
    }

normal_downlink : (k : ℕ) (blk1 bbk blk2 : List ℕ) → length blk1 ≡ 216 → length bbk ≡ 30 → length blk2 ≡ 216
    → NormalPlaces k blk1 bbk blk2 (downlink 122 (normal_fields (training_of k) blk1 bbk blk2))
unfolding normal_fields
normal_downlink k blk1 bbk blk2 l m r =
    let T : List ℕ = training_of k in
    let M : List ℕ = take 14 bbk in
    let N : List ℕ = drop 14 bbk in
    let fields : List ℕ = blk1 ++ M ++ T ++ N ++ blk2 in
    let cut : (length M ≡ 14) × (length N ≡ 16) = (length-take-le 14 bbk (omega arith), length-drop 14 bbk ∙ omega arith) in
    let n : length fields ≡ 484 = simp length-append (omega (arith, cut, training_length k)) in
    let part = inner 122 fields n (lit≤ tt) (lit≤ tt) refl in
    record {
      whole = long 122 fields n (lit≤ tt) (lit≤ tt) refl;
      head = first_q 122 fields n (lit≤ tt) (lit≤ tt) refl;
      ha = first_adjusts 122 fields n (lit≤ tt) (lit≤ tt) refl;
      first = part 14 230 [] blk1 (M ++ T ++ N ++ blk2) (simp append_assoc) refl (omega arith);
      middle_first = part 230 244 blk1 M (T ++ N ++ blk2) (simp append_assoc) (omega arith) (omega arith);
      training = part 244 266 (blk1 ++ M) T (N ++ blk2) (simp append_assoc) (simp length-append (omega arith)) (omega (arith, training_length k));
      middle_last = part 266 282 (blk1 ++ M ++ T) N blk2 refl (simp length-append (omega (arith, training_length k))) (omega arith);
      last = part 282 498 (blk1 ++ M ++ T ++ N) blk2 [] (sym (append-nil fields)) (simp length-append (omega (arith, training_length k))) (omega arith);
      hb = last_adjusts 122 fields n (lit≤ tt) (lit≤ tt) refl;
      tail = last_q 122 fields n (lit≤ tt) (lit≤ tt) refl;
    }

-- ---- the uplink bursts: two blocks of n bits around a sequence of k

uplink_fixed : (length tail ≡ 4) × (length extended ≡ 30)
unfolding tail extended
uplink_fixed = (refl, refl)

module _ (sequence blk1 blk2 : List ℕ) (n k : ℕ) (q : length sequence ≡ k) (l : length blk1 ≡ n) (r : length blk2 ≡ n) where
  abbrev U : List ℕ
  U = uplink sequence blk1 blk2

  pub uplink_length : length U ≡ 8 + 2 * n + k
  unfolding uplink
  uplink_length = simp length-append (omega (arith, uplink_fixed))

  uplink_head : slice 0 4 U ≡ tail
  unfolding uplink
  uplink_head = at_place 0 4 U [] tail (blk1 ++ sequence ++ blk2 ++ tail) (simp append_assoc) refl (omega (arith, uplink_fixed))

  uplink_first : slice 4 (4 + n) U ≡ blk1
  unfolding uplink
  uplink_first = at_place 4 (4 + n) U tail blk1 (sequence ++ blk2 ++ tail) (simp append_assoc) uplink_fixed.0 (omega arith)

  uplink_training : slice (4 + n) (4 + n + k) U ≡ sequence
  unfolding uplink
  uplink_training = at_place (4 + n) (4 + n + k) U (tail ++ blk1) sequence (blk2 ++ tail) (simp append_assoc) (simp length-append (omega (arith, uplink_fixed))) (omega arith)

  uplink_last : slice (4 + n + k) (4 + 2 * n + k) U ≡ blk2
  unfolding uplink
  uplink_last =
      at_place (4 + n + k) (4 + 2 * n + k) U (tail ++ blk1 ++ sequence) blk2 tail refl (simp length-append (omega (arith, uplink_fixed))) (omega arith)

  uplink_end : slice (4 + 2 * n + k) (8 + 2 * n + k) U ≡ tail
  unfolding uplink
  uplink_end =
      at_place (4 + 2 * n + k) (8 + 2 * n + k) U (tail ++ blk1 ++ sequence ++ blk2) tail [] (sym (append-nil U))
      (simp length-append (omega (arith, uplink_fixed)))
      (omega (arith, uplink_fixed))

-- ---- what the builders answer, where they do not refuse

pub sync_places : (blk1 bbk blk2 : List ℕ) → (sync_burst blk1 bbk blk2).number ≡ accepted → SyncPlaces blk1 bbk blk2 (sync_burst blk1 bbk blk2).bits
unfolding sync_burst
sync_places blk1 bbk blk2 e =
    let z = sym (burst_number _ _ _) ∙ e in
    let l = right_lengths 120 blk1 bbk blk2 0 z in
    rw (burst_bits _ 108 (sync_fields blk1 bbk blk2) z) (sync_downlink blk1 bbk blk2 l.0 l.1 l.2)

pub normal_places : (k : ℕ) (blk1 bbk blk2 : List ℕ) → (normal_burst k blk1 bbk blk2).number ≡ accepted → NormalPlaces k blk1 bbk blk2 (normal_burst k blk1 bbk blk2).bits
unfolding normal_burst
normal_places k blk1 bbk blk2 e =
    let z = sym (burst_number _ _ _) ∙ e in
    let l = right_lengths 216 blk1 bbk blk2 (training_refusal k) z in
    rw (burst_bits _ 122 (normal_fields (training_of k) blk1 bbk blk2) z) (normal_downlink k blk1 bbk blk2 l.0 l.1 l.2)

pub normal_uplink_places : (k : ℕ) (blk1 blk2 : List ℕ) → uplink_number (normal_uplink k blk1 blk2) ≡ accepted
    → NormalUplinkPlaces k blk1 blk2 (uplink_bits (normal_uplink k blk1 blk2))
unfolding normal_uplink
normal_uplink_places k blk1 blk2 e =
    let z = sym (uplink_number_lem _ _) ∙ e in
    let p = right_pair 216 blk1 blk2 (training_refusal k) z in
    let s = training_of k in
    let q = training_length k in
    rw (uplink_bits_lem _ (uplink s blk1 blk2) z)
    (record {
      whole = uplink_length s blk1 blk2 216 22 q p.0 p.1;
      head = uplink_head s blk1 blk2 216 22 q p.0 p.1;
      first = uplink_first s blk1 blk2 216 22 q p.0 p.1;
      training = uplink_training s blk1 blk2 216 22 q p.0 p.1;
      last = uplink_last s blk1 blk2 216 22 q p.0 p.1;
      end = uplink_end s blk1 blk2 216 22 q p.0 p.1;
    })

pub control_uplink_places : (blk1 blk2 : List ℕ) → uplink_number (control_uplink blk1 blk2) ≡ accepted → ControlUplinkPlaces blk1 blk2 (uplink_bits (control_uplink blk1 blk2))
unfolding control_uplink
control_uplink_places blk1 blk2 e =
    let z = sym (uplink_number_lem _ _) ∙ e in
    let p = right_pair 84 blk1 blk2 0 z in
    let q = uplink_fixed.1 in
    rw (uplink_bits_lem _ (uplink extended blk1 blk2) z)
    (record {
      whole = uplink_length extended blk1 blk2 84 30 q p.0 p.1;
      head = uplink_head extended blk1 blk2 84 30 q p.0 p.1;
      first = uplink_first extended blk1 blk2 84 30 q p.0 p.1;
      training = uplink_training extended blk1 blk2 84 30 q p.0 p.1;
      last = uplink_last extended blk1 blk2 84 30 q p.0 p.1;
      end = uplink_end extended blk1 blk2 84 30 q p.0 p.1;
    })
