-- Every burst that a builder makes is found where it was placed: its training sequence stands there with no bit wrong, and the earliest such placing is the best.
-- One law over the type, the sequence and the placing; then the two kinds of burst.
use mathlib.Core.Path.{◌≡◌, refl, ap, subst, ◌∙◌}
use mathlib.Core.List.{List, ◌++◌, append_assoc}
use Prim.Native.Nat.{ℕ, ◌+◌, ◌-◌, ◌*◌, ◌≤◌, ◌<◌}
use native.Mathlib.Omega.{arith}
use native.Mathlib.Decide.{dec_le}
use lib.ListN.{length, take, replicate, length-append, length-replicate}
use borrow.Author.Tests.{le-leb, lt-leb, lt-ltb}
use Rattle.train_consts.specs.Training.{normal1, normal2, extended, tail}
use Rattle.burst_finder.specs.declared.Found.{Found}
use Rattle.burst_finder.specs.declared.Finding.{Finding}
use Rattle.burst_finder.specs.declared.SlotType.TheVariants.{UlFull, UlSub}
use Rattle.burst_finder.specs.declared.TrainingSequence.{TrainingSequence}
use Rattle.burst_finder.specs.declared.TrainingSequence.TheVariants.{NormalTrainSeq1, NormalTrainSeq2, ExtendedTrainSeq}
use Rattle.burst_finder.specs.Search.{errors_at, placings, best}
use Rattle.burst_finder.specs.Slots.{not_found, finding_of, check_sequence, or_else, check_normal, check_slot}
use Rattle.burst_finder.proofs.Best.{IsBest, is_best, stands, accepts}
use Rattle.burst_finder.proofs.Exact.{Reached, reached, exact_best, exact_at}
use Rattle.slotter.specs.Uplink.{uplink, placed}
use Rattle.slotter.proofs.Placing.{placed_whole}
use Rattle.slotter.proofs.Places.{at_place, uplink_length}
use Rattle.uplink.specs.Placed.{burst_at, Reported, TriedBefore, ReportedBefore, ControlReported}

tail_length : length tail ≡ 4
unfolding tail
tail_length = refl

-- the sequence of a burst that fits into the window has no bit wrong at its place
sequence_exact : (sequence blk1 blk2 : List ℕ) (n offset : ℕ) → offset + length (uplink sequence blk1 blk2) ≤ n
    → errors_at (placed n offset (uplink sequence blk1 blk2)) sequence (4 + length blk1 + offset) ≡ 0
unfolding uplink
sequence_exact sequence blk1 blk2 n offset fits =
    let w : List ℕ = placed n offset (uplink sequence blk1 blk2) in
    let z : List ℕ = replicate offset 0 in
    let p : ℕ = 4 + length blk1 + offset in
    let rest : List ℕ = take (n - (offset + length (uplink sequence blk1 blk2))) (replicate n 0) in
    let whole : w ≡ (z ++ tail ++ blk1) ++ sequence ++ (blk2 ++ tail ++ rest) = placed_whole offset (uplink sequence blk1 blk2) n fits ∙ simp append_assoc in
    let front : length (z ++ tail ++ blk1) ≡ p = simp length-append (omega (arith, tail_length, length-replicate {A = ℕ} offset 0)) in
    exact_at w sequence p (length sequence)
    (omega (arith, ap length whole ∙ length-append (z ++ tail ++ blk1 ++ sequence) (blk2 ++ tail ++ rest), length-append (z ++ tail ++ blk1) sequence, front))
    (at_place p (p + length sequence) w (z ++ tail ++ blk1) sequence (blk2 ++ tail ++ rest) whole front refl)
    (omega arith)

-- ---- one sequence

module _ (says : Finding → Type 0) (type : TrainingSequence) (window sequence : List ℕ) (train_pos burst_len k : ℕ)
    (many : placings (length window) burst_len ≡ 25) (inside : k ≤ 24) (exact : errors_at window sequence (train_pos + 2 * k) ≡ 0) where
  abbrev checked : Finding
  checked = check_sequence window train_pos burst_len type sequence 1

  found_at : (half : ℕ) → best window sequence train_pos 25 ≡ record { pos = 2 * half; dist = 0 } → checked ≡ burst_at type 0 (2 * half) burst_len
  unfolding check_sequence finding_of burst_at
  found_at half e = rw (many, e)

  -- what is found is this sequence's finding, where that is one
  abbrev Wins : Finding → Type 0
  Wins found = (half : ℕ) → checked ≡ burst_at type 0 (2 * half) burst_len → found ≡ burst_at type 0 (2 * half) burst_len

  said_at : (found : Finding) → Wins found → says found → (half : ℕ) → best window sequence train_pos 25 ≡ record { pos = 2 * half; dist = 0 }
      → says (burst_at type 0 (2 * half) burst_len)
  said_at found wins said half e = subst says (wins half (found_at half e)) said

  pub reported : (found : Finding) → Wins found → says found → Reported says type window sequence train_pos burst_len k
  reported found wins said =
      let r : Reached window sequence train_pos 25 k = reached window sequence train_pos 25 k (omega arith) exact in
      record {
        own = λ none. said_at found wins said k (exact_best window sequence train_pos 25 k (omega arith) (record { exact = exact; none = none }));
        earlier = λ e. record {
          half = r.half;
          before = elim (dec_le k r.half) [
            | yes h ↦ absurd (r.earliest.none (record { half = e.half; before = omega (arith, e.before); exact = e.exact }))
            | no h ↦ omega (arith, h)
          ];
          earliest = r.earliest;
          said = said_at found wins said r.half r.is;
        };
      }

-- ---- a full window

wins_first : (a b g : Finding) → g.train_errs ≡ 0 → a ≡ g → or_else a b ≡ g
unfolding or_else
wins_first a b g z e = rw (e, z)

missing : (a b : Finding) → a ≡ not_found → or_else a b ≡ b
unfolding or_else not_found
missing a b e = rw e

module _ (says : Finding → Type 0) (window : List ℕ) (k : ℕ) (full : length window ≡ 510) (inside : k ≤ 24) (said : says (check_slot UlFull window)) where
  many : placings (length window) 462 ≡ 25
  unfolding placings
  many = omega arith

  abbrev best1 : Found
  best1 = best window normal1 220 25

  -- normal 1's finding, by whether its fewest errors are accepted
  not_close : 1 < best1.dist → check_sequence window 220 462 NormalTrainSeq1 normal1 1 ≡ not_found
  unfolding check_sequence finding_of
  not_close h = rw (many, lt-leb best1.dist 1 h)

  close : best1.dist ≤ 1 → check_slot UlFull window ≡ burst_at NormalTrainSeq1 best1.dist best1.pos 462
  unfolding check_slot check_normal check_sequence finding_of or_else burst_at
  close h = rw (many, le-leb best1.dist 1 h, lt-ltb best1.dist 100 (omega arith))

  far : (TriedBefore window → ⊥) → 1 < best1.dist
  unfolding normal1
  far none =
      elim (dec_le best1.dist 1) [
        | yes h ↦ let s = stands window normal1 220 25 1 (omega arith) h in absurd (none (record { half = s.half; inside = s.inside; close = s.close }))
        | no h ↦ omega (arith, h)
      ]

  pub normal1_reported : errors_at window normal1 (220 + 2 * k) ≡ 0 → Reported says NormalTrainSeq1 window normal1 220 462 k
  unfolding check_slot check_normal burst_at
  normal1_reported exact =
      reported says NormalTrainSeq1 window normal1 220 462 k many inside exact (check_slot UlFull window) (λ half e. wins_first _ _ _ refl e) said

  pub normal2_reported : errors_at window normal2 (220 + 2 * k) ≡ 0 → (TriedBefore window → ⊥) → Reported says NormalTrainSeq2 window normal2 220 462 k
  unfolding check_slot check_normal
  normal2_reported exact none =
      reported says NormalTrainSeq2 window normal2 220 462 k many inside exact (check_slot UlFull window) (λ half e. missing _ _ (not_close (far none)) ∙ e) said

  pub before_reported : TriedBefore window → ReportedBefore says window
  before_reported t =
      let b : IsBest window normal1 220 25 best1 = is_best window normal1 220 24 in
      let h : best1.dist ≤ 1 = accepts window normal1 220 25 1 (record { half = t.half; inside = t.inside; close = t.close }) in
      let e : check_slot UlFull window ≡ burst_at NormalTrainSeq1 (errors_at window normal1 (220 + 2 * b.half)) (2 * b.half) 462 = close h ∙ rw (b.count, b.place) in
      record {
        half = b.half;
        inside = b.inside;
        close = omega (arith, b.count);
        fewest = λ j i. omega (arith, b.count, b.fewest j i);
        earliest = λ j i. omega (arith, b.count, b.earliest j i);
        said = subst says e said;
      }

-- ---- half a window

many_halves : (window : List ℕ) → length window ≡ 254 → placings (length window) 206 ≡ 25
unfolding placings
many_halves window half = omega arith

pub control_reported : (says : Finding → Type 0) (window : List ℕ) (k : ℕ) → length window ≡ 254 → k ≤ 24 → errors_at window extended (88 + 2 * k) ≡ 0
    → says (check_slot UlSub window) → ControlReported says window k
unfolding check_slot
control_reported says window k half inside exact said =
    reported says ExtendedTrainSeq window extended 88 206 k (many_halves window half) inside exact (check_slot UlSub window) (λ half e. e) said

-- ---- the bursts that the builders make

-- the sequence stands at placing k
pub at_placing : (sequence blk1 blk2 : List ℕ) (n m l k : ℕ) → length sequence ≡ l → length blk1 ≡ m → length blk2 ≡ m → 2 * k + (8 + 2 * m + l) ≤ n
    → errors_at (placed n (2 * k) (uplink sequence blk1 blk2)) sequence (4 + m + 2 * k) ≡ 0
at_placing sequence blk1 blk2 n m l k q a b fits =
    rw a at (sequence_exact sequence blk1 blk2 n (2 * k) (omega (arith, uplink_length sequence blk1 blk2 m l q a b)))
