-- The claims of 02's point 1 are not empty: contents that are reported at each offset, and one for each of the two exceptions. By computation.
use mathlib.Core.Path.{◌≡◌, refl}
use mathlib.Core.List.{List, [], ◌∷◌, ◌++◌, map}
use Prim.Native.Nat.{ℕ, zero, suc}
use lib.Dec.{lit<, lit≤}
use lib.ListN.{replicate, take}
use Rattle.dsp_types.specs.Refusals.{wrong_length, not_bits}
use Rattle.train_consts.specs.Training.{normal1, normal2, extended, tail}
use Rattle.burst_finder.specs.declared.SlotType.TheVariants.{UlFull, UlSub}
use Rattle.burst_finder.specs.Search.{hamming_distance, errors_at, placings, better, best}
use Rattle.burst_finder.specs.Exact.{Earlier}
use Rattle.burst_finder.specs.Slots.{not_found, finding_of, check_sequence, or_else, check_normal, check_slot}
use Rattle.logger.specs.Judge.{finding_bytes}
use Rattle.slotter.specs.Bursts.{training_of, training_refusal, length_or_bit}
use Rattle.slotter.specs.Uplink.{uplink, pair_refusal, uplink_unless, normal_uplink, control_uplink, uplink_bits, placed}
use Rattle.uplink.specs.Placed.{normal_window, control_window, TriedBefore}

-- ---- reported at each offset

offsets : List ℕ
offsets =
    0 ∷ 2 ∷ 4 ∷ 6 ∷ 8 ∷ 10 ∷ 12 ∷ 14 ∷ 16 ∷ 18 ∷ 20 ∷ 22 ∷ 24 ∷ 26 ∷ 28 ∷ 30 ∷ 32 ∷ 34 ∷ 36 ∷ 38 ∷ 40 ∷ 42 ∷ 44 ∷ 46 ∷ 48 ∷ []

-- what is said of the burst with these blocks, at each of them
normal_said : ℕ → (blk1 blk2 : List ℕ) → List (List ℕ)
normal_said train blk1 blk2 = map (λ offset. finding_bytes (check_slot UlFull (normal_window train blk1 blk2 offset))) offsets

control_said : (blk1 blk2 : List ℕ) → List (List ℕ)
control_said blk1 blk2 = map (λ offset. finding_bytes (check_slot UlSub (control_window blk1 blk2 offset))) offsets

-- its type, no error, the offset, and its length in two bytes
own : (type low high : ℕ) → List (List ℕ)
own type low high = map (λ offset. type ∷ 0 ∷ offset ∷ 0 ∷ low ∷ high ∷ []) offsets

-- n times 100101
mixed : ℕ → List ℕ
mixed zero = []
mixed (suc n) = 1 ∷ 0 ∷ 0 ∷ 1 ∷ 0 ∷ 1 ∷ mixed n

zeros : ℕ → List ℕ
zeros n = replicate n 0

ones : ℕ → List ℕ
ones n = replicate n 1

-- three contents of a burst with sequence 1, one with 2 and a control burst
reported_each :
    (normal_said 1 (zeros 216) (zeros 216) ≡ own 1 206 1) × (normal_said 1 (ones 216) (ones 216) ≡ own 1 206 1) × (normal_said 1 (mixed 36) (mixed 36) ≡ own 1 206 1)
    × (normal_said 2 (zeros 216) (zeros 216) ≡ own 2 206 1) × (normal_said 2 (ones 216) (ones 216) ≡ own 2 206 1) × (normal_said 2 (mixed 36) (mixed 36) ≡ own 2 206 1)
    × (control_said (zeros 84) (zeros 84) ≡ own 3 206 0) × (control_said (ones 84) (ones 84) ≡ own 3 206 0) × (control_said (mixed 14) (mixed 14) ≡ own 3 206 0)
unfolding normal_said control_said own offsets mixed zeros ones finding_bytes check_slot check_normal check_sequence or_else finding_of not_found best better placings errors_at hamming_distance normal_window control_window normal_uplink control_uplink uplink_unless pair_refusal length_or_bit training_refusal training_of wrong_length not_bits uplink placed uplink_bits normal1 normal2 extended tail
reported_each = (refl, refl, refl, refl, refl, refl, refl, refl, refl)

-- ---- the two exceptions, each at offset 24

-- the sequence stands at the end of the first block too, 22 bits before its place: it is reported at 2
copied : List ℕ
copied = normal_window 1 (replicate 194 0 ++ normal1) (replicate 216 0) 24

earlier_happens : Earlier copied normal1 220 12 × (finding_bytes (check_slot UlFull copied) ≡ 1 ∷ 0 ∷ 2 ∷ 0 ∷ 206 ∷ 1 ∷ [])
unfolding copied finding_bytes check_slot check_normal check_sequence or_else finding_of not_found best better placings errors_at hamming_distance normal_window control_window normal_uplink control_uplink uplink_unless pair_refusal length_or_bit training_refusal training_of wrong_length not_bits uplink placed uplink_bits normal1 normal2 extended tail
earlier_happens = (record { half = 1; before = lit< tt; exact = refl }, refl)

-- a burst with sequence 2 that has sequence 1 there, its last bit wrong: sequence 1 is reported, at 2 with one error
almost : List ℕ
almost = normal_window 2 (replicate 194 0 ++ take 21 normal1 ++ 1 ∷ []) (replicate 216 0) 24

tried_happens : TriedBefore almost × (finding_bytes (check_slot UlFull almost) ≡ 1 ∷ 1 ∷ 2 ∷ 0 ∷ 206 ∷ 1 ∷ [])
unfolding almost finding_bytes check_slot check_normal check_sequence or_else finding_of not_found best better placings errors_at hamming_distance normal_window control_window normal_uplink control_uplink uplink_unless pair_refusal length_or_bit training_refusal training_of wrong_length not_bits uplink placed uplink_bits normal1 normal2 extended tail
tried_happens = (record { half = 1; inside = lit< tt; close = lit≤ tt }, refl)
