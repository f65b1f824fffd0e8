-- The past (01, "The past"; history.rs): what its rings hold, as lists, newest first. Any index counts modulo 2,048.
use Rattle.std.specs.Prelude.{List, [], ◌∷◌, ℕ, ◌%◌, take, Float}
use Rattle.std.specs.Float.{nan}
use Rattle.dsp_types.specs.declared.ComplexSample.{ComplexSample}
use Rattle.dsp_types.specs.Ring.{ring_at, ring_sample, newest}

-- the elements of a ring whose newest stands at `at`
unfoldable pub held_in : List Float → ℕ → List Float
held_in ring at = newest 2048 (ring_at nan 2048 ring (at % 2048))

-- the samples of two such rings
unfoldable pub samples_in : List Float → List Float → ℕ → List ComplexSample
samples_in re im at = newest 2048 (ring_sample 2048 re im (at % 2048))

-- the newest 2,048 after xs, oldest first, are written one by one
unfoldable pub held_after : {A : Type 0} → List A → List A → List A
held_after held [] = held
held_after held (x ∷ xs) = held_after (take 2048 (x ∷ held)) xs
