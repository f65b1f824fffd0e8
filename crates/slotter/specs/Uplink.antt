-- The uplink bursts, what their builders answer, and a window with a burst in it (02, point 1; EN 300 392-2, clauses 9.4.4.2.1 and 9.4.4.2.4). Definitions only.
use Rattle.std.specs.Prelude.{ℕ, zero, suc, ◌||◌, List, [], ◌++◌, take, replicate, Result, Ok, Err}
use Rattle.dsp_types.specs.declared.refusals.Refusal.{Refusal}
use Rattle.dsp_types.specs.Answers.{number_of}
use Rattle.dsp_types.specs.Refusals.{accepted, wrong_length, not_bits}
use Rattle.train_consts.specs.Training.{extended, tail}
use Rattle.slotter.specs.Bursts.{training_of, length_or_bit, training_refusal}

-- 02: "tail bits 1100", a block, the training sequence, a block, "the tail again"; no adjustment bits
unfoldable pub uplink : (sequence blk1 blk2 : List ℕ) → List ℕ
uplink sequence blk1 blk2 = tail ++ blk1 ++ sequence ++ blk2 ++ tail

-- ---- what the builders answer

-- 02: "refused as for downlink". The refusal of two blocks of n bits: 3, 4, else `otherwise`
unfoldable pub pair_refusal : ℕ → List ℕ → List ℕ → ℕ → ℕ
pair_refusal n blk1 blk2 otherwise = length_or_bit (wrong_length n blk1 || wrong_length n blk2) (not_bits blk1 || not_bits blk2) otherwise

-- an answer in 01's terms: a burst's bits, or a refusal's number alone
pub data UplinkReply : Type 0 where
  built : List ℕ → UplinkReply
  refused : ℕ → UplinkReply

unfoldable pub uplink_reply : Result (List ℕ) Refusal → UplinkReply
uplink_reply (Ok bits) = built bits
uplink_reply (Err r) = refused (number_of r)

-- the answer with that number: these bits, or the refusal
unfoldable pub uplink_unless : ℕ → List ℕ → UplinkReply
uplink_unless zero bits = built bits
uplink_unless (suc n) bits = refused (suc n)

-- what `build_nub` answers: clause 9.4.4.2.4, normal uplink burst, 462 bits
unfoldable pub normal_uplink : ℕ → (blk1 blk2 : List ℕ) → UplinkReply
normal_uplink train blk1 blk2 = uplink_unless (pair_refusal 216 blk1 blk2 (training_refusal train)) (uplink (training_of train) blk1 blk2)

-- what `build_cub` answers: clause 9.4.4.2.1, control uplink burst, 206 bits
unfoldable pub control_uplink : (blk1 blk2 : List ℕ) → UplinkReply
control_uplink blk1 blk2 = uplink_unless (pair_refusal 84 blk1 blk2 accepted) (uplink extended blk1 blk2)

-- 0, or a refusal's number
unfoldable pub uplink_number : UplinkReply → ℕ
uplink_number (built bits) = accepted
uplink_number (refused n) = n

-- a burst's bits; a refusal has none
unfoldable pub uplink_bits : UplinkReply → List ℕ
uplink_bits (built bits) = bits
uplink_bits (refused n) = []

-- ---- a burst in its window

-- 02: a window of n bits with a burst at an offset, "of otherwise zero bits"; what does not fit is cut
unfoldable pub placed : (n offset : ℕ) (burst : List ℕ) → List ℕ
placed n offset burst = take n (replicate offset 0 ++ burst ++ replicate n 0)
