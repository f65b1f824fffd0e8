-- The downlink bursts and what their builders answer (01, "Refusals" and "Burst bits"; EN 300 392-2, clauses 9.4.4.2.5 and 9.4.4.2.6). Definitions only.
use Rattle.std.specs.Prelude.{ℕ, zero, suc, ◌-◌, ◌*◌, Bool, cond, ◌||◌, List, [], ◌∷◌, ◌++◌, ℤ, eqb, take, drop, replicate, Result, Ok, Err}
use Rattle.dsp_types.specs.declared.refusals.Refusal.{Refusal}
use Rattle.dsp_types.specs.Answers.{number_of}
use Rattle.dsp_types.specs.Refusals.{accepted, bad_length, bad_bit, bad_training, wrong_length, not_bits}
use Rattle.slotter.specs.declared.Burst.{Burst}
use Rattle.train_consts.specs.Training.{normal1, normal2, normal3, synchronization, frequency_correction}
use Rattle.slotter.specs.Phases.{phase_sum, adjustment}

-- ---- the fields between the two adjustment symbols, symbols 8 to 249

-- clause 9.4.4.2.6, synchronization continuous downlink burst
unfoldable pub sync_fields : List ℕ → List ℕ → List ℕ → List ℕ
sync_fields blk1 bbk blk2 = frequency_correction ++ blk1 ++ synchronization ++ bbk ++ blk2

-- clause 9.4.4.2.5, normal continuous downlink burst: the training sequence cuts the middle block 14 + 16
unfoldable pub normal_fields : List ℕ → List ℕ → List ℕ → List ℕ → List ℕ
normal_fields training blk1 bbk blk2 = blk1 ++ take 14 bbk ++ training ++ drop 14 bbk ++ blk2

-- the normal training sequence with that number, 1 or 2
unfoldable pub training_of : ℕ → List ℕ
training_of n = cond (eqb n 1) normal1 normal2

-- ---- the windows and the whole burst

-- clause 9.4.4.3: the first window is symbols 8 to `last`
unfoldable pub first_window : ℕ → List ℕ → List ℕ
first_window last fields = take (2 * (last - 7)) fields

-- the last window is the symbols after it, to 249
unfoldable pub last_window : ℕ → List ℕ → List ℕ
last_window last fields = drop (2 * (last - 7)) fields

-- where the first window ends: HC's
abbrev pub sync_cut : ℕ
sync_cut = 108

-- and HA's
abbrev pub normal_cut : ℕ
normal_cut = 122

-- the 510 bits: q from bit 10 on, HA or HC, the fields, HB or HD, q's first 10
unfoldable pub downlink : ℕ → List ℕ → List ℕ
downlink last fields =
    drop 10 normal3
    ++ adjustment (phase_sum (first_window last fields))
    ++ fields
    ++ adjustment (phase_sum (last_window last fields))
    ++ take 10 normal3

-- ---- what the builders answer

-- 3 where a block has another length, 4 where a byte of one is no bit, else `otherwise`
unfoldable pub length_or_bit : (lengths bits : Bool) → ℕ → ℕ
length_or_bit lengths bits otherwise = cond lengths bad_length (cond bits bad_bit otherwise)

-- the refusal of three blocks of n, 30 and 216 bits
unfoldable pub block_refusal : ℕ → List ℕ → List ℕ → List ℕ → ℕ → ℕ
block_refusal n blk1 bbk blk2 otherwise =
    length_or_bit (wrong_length n blk1 || wrong_length 30 bbk || wrong_length 216 blk2) (not_bits blk1 || not_bits bbk || not_bits blk2) otherwise

-- 5 for a training sequence other than 1 or 2
unfoldable pub training_refusal : ℕ → ℕ
training_refusal n = cond (eqb n 1 || eqb n 2) accepted bad_training

-- an answer in 01's terms: its number, the sums of the two windows, and the 510 bits
pub record BuilderReply : Type 0 where
  pub number : ℕ
  pub sums : List ℤ
  pub bits : List ℕ

-- a refusal returns its number alone: no sums, and every bit 0
unfoldable pub refusal : ℕ → BuilderReply
refusal n = record { number = n; sums = []; bits = replicate 510 0 }

-- the values of each case: a burst has no refusal's number and two sums, a refusal its number alone
unfoldable pub builder_reply : Result Burst Refusal → BuilderReply
builder_reply (Ok burst) = record { number = accepted; sums = burst.first_sum ∷ burst.last_sum ∷ []; bits = burst.bits }
builder_reply (Err r) = refusal (number_of r)

-- the answer with that number: the burst of those fields, or the refusal
unfoldable pub burst_unless : ℕ → ℕ → List ℕ → BuilderReply
burst_unless zero last fields =
    record {
      number = accepted;
      sums = phase_sum (first_window last fields) ∷ phase_sum (last_window last fields) ∷ [];
      bits = downlink last fields;
    }
burst_unless (suc n) last fields = refusal (suc n)

-- what `build_sdb` answers
unfoldable pub sync_burst : List ℕ → List ℕ → List ℕ → BuilderReply
sync_burst blk1 bbk blk2 = burst_unless (block_refusal 120 blk1 bbk blk2 accepted) sync_cut (sync_fields blk1 bbk blk2)

-- what `build_ndb` answers
unfoldable pub normal_burst : ℕ → List ℕ → List ℕ → List ℕ → BuilderReply
normal_burst n blk1 bbk blk2 =
    burst_unless (block_refusal 216 blk1 bbk blk2 (training_refusal n)) normal_cut (normal_fields (training_of n) blk1 bbk blk2)
