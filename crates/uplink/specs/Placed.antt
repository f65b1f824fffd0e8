-- An uplink burst in a window of otherwise zero bits is reported with its type and offset (02, point 1). Definitions only; proofs/Found.antt proves them
-- of every burst that a builder makes. Placing k begins 2k bits into the window: 25 placings, offsets 0 to 48.
use Rattle.std.specs.Prelude.{◌≡◌, List, ℕ, ◌+◌, ◌*◌, ◌≤◌, ◌<◌}
use Rattle.train_consts.specs.Training.{normal1, normal2, extended}
use Rattle.burst_finder.specs.declared.Finding.{Finding}
use Rattle.burst_finder.specs.declared.TrainingSequence.{TrainingSequence}
use Rattle.burst_finder.specs.declared.TrainingSequence.TheVariants.{NormalTrainSeq1, NormalTrainSeq2, ExtendedTrainSeq}
use Rattle.burst_finder.specs.Search.{errors_at}
use Rattle.burst_finder.specs.Exact.{Earlier, Earliest}
use Rattle.slotter.specs.Uplink.{normal_uplink, control_uplink, uplink_bits, placed}

-- the full window with the burst that `build_nub` answers with, zeros where it refuses
unfoldable pub normal_window : (train : ℕ) (blk1 blk2 : List ℕ) (offset : ℕ) → List ℕ
normal_window train blk1 blk2 offset = placed 510 offset (uplink_bits (normal_uplink train blk1 blk2))

-- the half window with `build_cub`'s
unfoldable pub control_window : (blk1 blk2 : List ℕ) (offset : ℕ) → List ℕ
control_window blk1 blk2 offset = placed 254 offset (uplink_bits (control_uplink blk1 blk2))

-- a burst of that type and length, with so many training bits wrong, at that place
unfoldable pub burst_at : TrainingSequence → (errors place len : ℕ) → Finding
burst_at type errors place len = record { train_type = type; train_errs = errors; burst_pos = place; burst_len = len }

-- What is said of a window, by the finder, by the logger's call or by a receiver, is `says f`: that f is its finding.

-- "an earlier placing of its sequence is exact too": then the earliest of these is reported
pub record ReportedEarlier (says : Finding → Type 0) (type : TrainingSequence) (window sequence : List ℕ) (train_pos burst_len k : ℕ) : Type 0 where
  pub half : ℕ
  pub before : half < k
  pub earliest : Earliest window sequence train_pos half
  pub said : says (burst_at type 0 (2 * half) burst_len)

-- a burst of that type, whose training sequence stands train_pos bits into it, at placing k: reported with its type, no error, and its offset, "unless .."
pub record Reported (says : Finding → Type 0) (type : TrainingSequence) (window sequence : List ℕ) (train_pos burst_len k : ℕ) : Type 0 where
  pub own : (Earlier window sequence train_pos k → ⊥) → says (burst_at type 0 (2 * k) burst_len)
  pub earlier : Earlier window sequence train_pos k → ReportedEarlier says type window sequence train_pos burst_len k

-- "or a sequence tried before it is accepted": at one of the 25 placings at most one bit of normal training sequence 1 is wrong
pub record TriedBefore (window : List ℕ) : Type 0 where
  pub half : ℕ
  pub inside : half < 25
  pub close : errors_at window normal1 (220 + 2 * half) ≤ 1

-- .. then its placing with the fewest wrong bits is reported, the earliest of several
pub record ReportedBefore (says : Finding → Type 0) (window : List ℕ) : Type 0 where
  pub half : ℕ
  pub inside : half < 25
  pub close : errors_at window normal1 (220 + 2 * half) ≤ 1
  pub fewest : (j : ℕ) → j < 25 → errors_at window normal1 (220 + 2 * half) ≤ errors_at window normal1 (220 + 2 * j)
  pub earliest : (j : ℕ) → j < half → errors_at window normal1 (220 + 2 * half) < errors_at window normal1 (220 + 2 * j)
  pub said : says (burst_at NormalTrainSeq1 (errors_at window normal1 (220 + 2 * half)) (2 * half) 462)

-- a normal uplink burst with that training sequence, at placing k of a full window
pub record NormalReported (says : Finding → Type 0) (train : ℕ) (window : List ℕ) (k : ℕ) : Type 0 where
  pub first : train ≡ 1 → Reported says NormalTrainSeq1 window normal1 220 462 k
  pub second : train ≡ 2 → (TriedBefore window → ⊥) → Reported says NormalTrainSeq2 window normal2 220 462 k
  pub tried_before : train ≡ 2 → TriedBefore window → ReportedBefore says window

-- a control uplink burst at placing k of a half window
abbrev pub ControlReported : (says : Finding → Type 0) (window : List ℕ) (k : ℕ) → Type 0
ControlReported says window k = Reported says ExtendedTrainSeq window extended 88 206 k
