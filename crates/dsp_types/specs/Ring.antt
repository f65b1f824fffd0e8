-- A ring of n elements whose newest stands at `at`, over any length and element type: the filter line is a ring of 32, the past one of 2,048.
-- Definitions only; proofs/RingLaws has the laws.
use Rattle.std.specs.Prelude.{ℕ, zero, suc, ◌+◌, ◌-◌, ◌%◌, List, [], ◌∷◌, get_or, Float}
use Rattle.std.specs.Float.{nan}
use Rattle.dsp_types.specs.declared.ComplexSample.{ComplexSample}

-- the place of the element d steps ago
unfoldable pub place_of : ℕ → ℕ → ℕ → ℕ
place_of n at d = (at + n - d) % n

-- what the ring holds d steps ago
unfoldable pub ring_at : {A : Type 0} → A → ℕ → List A → ℕ → ℕ → A
ring_at z n buf at d = get_or buf (place_of n at d) z

-- two rings that hold the parts of samples, with one index
unfoldable pub ring_sample : ℕ → List Float → List Float → ℕ → ℕ → ComplexSample
ring_sample n re im at d = record { re = ring_at nan n re at d; im = ring_at nan n im at d }

-- the newest n of a record, newest first. Keep it shut at a large numeral n: it would be written out
unfoldable pub newest : {A : Type 0} → ℕ → (ℕ → A) → List A
newest zero f = []
newest (suc n) f = f zero ∷ newest n (λ d. f (suc d))
