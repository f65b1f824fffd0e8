-- The loop over a block: a turn, and what all turns leave. Assumes nothing.
use mathlib.Core.Path.{◌≡◌, refl, ap}
use mathlib.Core.List.{List, [], ◌∷◌}
use Prim.Native.Nat.{ℕ, zero, suc, ◌+◌, ◌<◌, min}
use native.Mathlib.Numerals.{add-one}
use native.Mathlib.Omega.{arith}
use lib.ListN.{length, get_or, set, take}
use lib.Ieee.{Float, nan}
use Rattle.magnitude.specs.Magnitude.{magnitude_of, magnitudes_in}

stored : (i : ℕ) (re im old : List Float) → i < length re → i < length im → i < length old
    → set (magnitudes_in (take i re) (take i im) old) i (magnitude_of (get_or re i nan) (get_or im i nan)) ≡ magnitudes_in (take (suc i) re) (take (suc i) im) old
unfolding magnitudes_in
stored i [] im old a b c = absurd (omega arith)
stored i (x ∷ re) [] old a b c = absurd (omega arith)
stored i (x ∷ re) (y ∷ im) [] a b c = absurd (omega arith)
stored zero (x ∷ re) (y ∷ im) (o ∷ old) a b c = refl
stored (suc i) (x ∷ re) (y ∷ im) (o ∷ old) a b c = ap (λ (l : List Float). magnitude_of x y ∷ l) (stored i re im old (omega arith) (omega arith) (omega arith))

pub one_more : (i : ℕ) (re im old : List Float) → i < length re → i < length im → i < length old
    → set (magnitudes_in (take i re) (take i im) old) i (magnitude_of (get_or re i nan) (get_or im i nan)) ≡ magnitudes_in (take (i + 1) re) (take (i + 1) im) old
one_more i re im old a b c = rw (add-one i) (stored i re im old a b c)

pub all_of : (n : ℕ) (re im old : List Float) → n ≡ min (min (length re) (length im)) (length old) → magnitudes_in (take n re) (take n im) old ≡ magnitudes_in re im old
unfolding magnitudes_in
all_of zero [] im old e = refl
all_of (suc n) [] im old e = absurd (omega arith)
all_of zero (x ∷ re) [] old e = refl
all_of (suc n) (x ∷ re) [] old e = absurd (omega arith)
all_of zero (x ∷ re) (y ∷ im) [] e = refl
all_of (suc n) (x ∷ re) (y ∷ im) [] e = absurd (omega arith)
all_of zero (x ∷ re) (y ∷ im) (o ∷ old) e = absurd (omega arith)
all_of (suc n) (x ∷ re) (y ∷ im) (o ∷ old) e = ap (λ (l : List Float). magnitude_of x y ∷ l) (all_of n re im old (omega arith))
