-- What holds of a built burst, said of its bits alone (01, "Burst bits"; 02, point 1): the fields at their places, end excluded, and a downlink burst's two
-- adjustment symbols.
-- proofs/Places.antt proves it of every burst that the builders make.
use Rattle.std.specs.Prelude.{◌≡◌, ℕ, ◌-◌, ◌*◌, ◌<◌, List, [], ◌∷◌, ◌+ℤ◌, length, take, drop}
use Rattle.std.proofs.Math.Seq.{slice}
use Rattle.train_consts.specs.Training.{normal3, extended, synchronization, frequency_correction, tail}
use Rattle.dsp_types.specs.Phases.{phase_of, modulo8}
use Rattle.slotter.specs.Phases.{phase_sum}
use Rattle.slotter.specs.Bursts.{training_of}

-- the symbols `from` to `to` of a burst, counted from 1
abbrev pub symbols : ℕ → ℕ → List ℕ → List ℕ
symbols from to bits = slice (2 * (from - 1)) (2 * to) bits

-- clause 9.4.4.3: of the four symbols, exactly the one at `place` has a phase whose sum with the window's is 0 modulo 8
pub record Adjusts (place from to : ℕ) (bits : List ℕ) : Type 0 where
  pub zero_sum : modulo8 (phase_sum (symbols place place bits) +ℤ phase_sum (symbols from to bits)) ≡ 0
  pub only : (a b : ℕ) → a < 2 → b < 2 → modulo8 (phase_of a b +ℤ phase_sum (symbols from to bits)) ≡ 0 → symbols place place bits ≡ a ∷ b ∷ []

-- clause 9.4.4.2.6
pub record SyncPlaces (blk1 bbk blk2 bits : List ℕ) : Type 0 where
  pub whole : length bits ≡ 510
  pub head : slice 0 12 bits ≡ drop 10 normal3
  pub hc : Adjusts 7 8 108 bits
  pub f : slice 14 94 bits ≡ frequency_correction
  pub first : slice 94 214 bits ≡ blk1
  pub y : slice 214 252 bits ≡ synchronization
  pub middle : slice 252 282 bits ≡ bbk
  pub last : slice 282 498 bits ≡ blk2
  pub hd : Adjusts 250 109 249 bits
  pub tail : slice 500 510 bits ≡ take 10 normal3

-- clause 9.4.4.2.5, with the training sequence of that number
pub record NormalPlaces (n : ℕ) (blk1 bbk blk2 bits : List ℕ) : Type 0 where
  pub whole : length bits ≡ 510
  pub head : slice 0 12 bits ≡ drop 10 normal3
  pub ha : Adjusts 7 8 122 bits
  pub first : slice 14 230 bits ≡ blk1
  pub middle_first : slice 230 244 bits ≡ take 14 bbk
  pub training : slice 244 266 bits ≡ training_of n
  pub middle_last : slice 266 282 bits ≡ drop 14 bbk
  pub last : slice 282 498 bits ≡ blk2
  pub hb : Adjusts 250 123 249 bits
  pub tail : slice 500 510 bits ≡ take 10 normal3

-- clause 9.4.4.2.4, with the training sequence of that number
pub record NormalUplinkPlaces (n : ℕ) (blk1 blk2 bits : List ℕ) : Type 0 where
  pub whole : length bits ≡ 462
  pub head : slice 0 4 bits ≡ tail
  pub first : slice 4 220 bits ≡ blk1
  pub training : slice 220 242 bits ≡ training_of n
  pub last : slice 242 458 bits ≡ blk2
  pub end : slice 458 462 bits ≡ tail

-- clause 9.4.4.2.1
pub record ControlUplinkPlaces (blk1 blk2 bits : List ℕ) : Type 0 where
  pub whole : length bits ≡ 206
  pub head : slice 0 4 bits ≡ tail
  pub first : slice 4 88 bits ≡ blk1
  pub training : slice 88 118 bits ≡ extended
  pub last : slice 118 202 bits ≡ blk2
  pub end : slice 202 206 bits ≡ tail
