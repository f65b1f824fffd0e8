-- An uplink burst built, placed and judged: what the calls answer, and that it is reported (02, point 1). Definitions only.
use Rattle.std.specs.Prelude.{◌≡◌, List, ℕ, ◌*◌, ◌≤◌, replicate}
use Rattle.dsp_types.specs.Refusals.{accepted}
use Rattle.dsp_types.specs.Answers.{answer_number}
use Rattle.burst_finder.specs.declared.Finding.{Finding}
use Rattle.burst_finder.specs.declared.SlotType.{SlotType}
use Rattle.burst_finder.specs.declared.SlotType.TheVariants.{UlFull, UlSub}
use Rattle.burst_finder.specs.Slots.{kind_number, check_slot}
use Rattle.logger.specs.Judge.{finding_bytes, judge_refusal, judge_answer}
use Rattle.slotter.specs.Uplink.{normal_uplink, control_uplink, uplink_number}
use Rattle.uplink.specs.declared.Judged.{Judged}
use Rattle.uplink.specs.Placed.{normal_window, control_window, NormalReported, ControlReported}

-- the answers in 01's terms: the builder's number, the finding, what the logger's call returns and its six bytes
pub record Told : Type 0 where
  pub number : ℕ
  pub finding : Finding
  pub refusal : ℕ
  pub answer : List ℕ

-- .. of what a call gave: no two of these tell the same (`told_apart` of proofs/Told.antt)
unfoldable pub told : Judged → Told
told j = record { number = answer_number j.built; finding = j.finding; refusal = answer_number j.judged; answer = j.answer }

-- the builder's number, and what the finder and the logger's call, with six zero bytes lent, answer of a window of that kind
unfoldable pub judged_of : (number : ℕ) (type : SlotType) (window : List ℕ) → Told
judged_of number type window =
    record {
      number = number;
      finding = check_slot type window;
      refusal = judge_refusal (kind_number type) window (replicate 6 0);
      answer = judge_answer (kind_number type) window (replicate 6 0);
    }

unfoldable pub judged_normal : (train : ℕ) (blk1 blk2 : List ℕ) (offset : ℕ) → Told
judged_normal train blk1 blk2 offset = judged_of (uplink_number (normal_uplink train blk1 blk2)) UlFull (normal_window train blk1 blk2 offset)

unfoldable pub judged_control : (blk1 blk2 : List ℕ) (offset : ℕ) → Told
judged_control blk1 blk2 offset = judged_of (uplink_number (control_uplink blk1 blk2)) UlSub (control_window blk1 blk2 offset)

-- a burst that was built is reported by both, at every even offset from 0 to 48
pub record NormalFound (train : ℕ) (blk1 blk2 : List ℕ) (offset : ℕ) (j : Told) : Type 0 where
  pub judged : j.refusal ≡ accepted
  pub finder : (k : ℕ) → offset ≡ 2 * k → k ≤ 24 → NormalReported (λ f. j.finding ≡ f) train (normal_window train blk1 blk2 offset) k
  pub logger : (k : ℕ) → offset ≡ 2 * k → k ≤ 24 → NormalReported (λ f. j.answer ≡ finding_bytes f) train (normal_window train blk1 blk2 offset) k

pub record ControlFound (blk1 blk2 : List ℕ) (offset : ℕ) (j : Told) : Type 0 where
  pub judged : j.refusal ≡ accepted
  pub finder : (k : ℕ) → offset ≡ 2 * k → k ≤ 24 → ControlReported (λ f. j.finding ≡ f) (control_window blk1 blk2 offset) k
  pub logger : (k : ℕ) → offset ≡ 2 * k → k ≤ 24 → ControlReported (λ f. j.answer ≡ finding_bytes f) (control_window blk1 blk2 offset) k
