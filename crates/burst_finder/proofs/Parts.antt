-- To search a part of the bits is to search the bits from the part's start on: each placing in the part has the same differences.
use mathlib.Core.Path.{◌≡◌, refl}
use mathlib.Core.List.{List, [], ◌∷◌}
use Prim.Native.Nat.{ℕ, zero, suc, ◌+◌, ◌*◌, ◌-◌, ◌≤◌}
use native.Mathlib.Omega.{arith}
use lib.ListN.{length, take, drop, length-drop}
use lib.Seq.{drop-drop, length-take-le}
use Rattle.burst_finder.specs.Search.{hamming_distance, errors_at, placings, best, find_sequence}
use Rattle.burst_finder.proofs.Distance.{distance_take}
use Rattle.burst_finder.proofs.Turns.{within}

part_distance : (p m : ℕ) (bits sequence : List ℕ) → p + length sequence ≤ m → hamming_distance (drop p (take m bits)) sequence ≡ hamming_distance (drop p bits) sequence
part_distance zero m bits sequence h = distance_take m bits sequence (omega arith)
part_distance (suc p) zero bits sequence h = absurd (omega arith)
part_distance (suc p) (suc m) [] sequence h = refl
part_distance (suc p) (suc m) (b ∷ bits) sequence h = part_distance p m bits sequence (omega arith)

module _ (bits sequence : List ℕ) (a : ℕ) where
  rest_errors : (p : ℕ) → errors_at (drop a bits) sequence (0 + p) ≡ errors_at bits sequence (a + p)
  unfolding errors_at
  rest_errors p = rw (e, drop-drop p a bits)
    where
      e : 0 + p ≡ p
      e = omega arith

  pub rest_best : (n : ℕ) → best (drop a bits) sequence 0 n ≡ best bits sequence a n
  unfolding best
  rest_best zero = refl
  rest_best (suc n) = rw (rest_best n, rest_errors (2 * n))

module _ (bits sequence : List ℕ) (a m : ℕ) where
  part_errors : (p : ℕ) → p + length sequence ≤ m → errors_at (take m (drop a bits)) sequence (0 + p) ≡ errors_at bits sequence (a + p)
  unfolding errors_at
  part_errors p h = rw (e, part_distance p m (drop a bits) sequence h, drop-drop p a bits)
    where
      e : 0 + p ≡ p
      e = omega arith

  pub part_best : (n : ℕ) → n ≤ placings m (length sequence) → best (take m (drop a bits)) sequence 0 n ≡ best bits sequence a n
  unfolding best
  part_best zero h = refl
  part_best (suc n) h = rw (part_best n (omega arith), part_errors (2 * n) (within m (length sequence) n h))

-- the part in which the sequence stands `a` bits into a burst that lies within the bits
pub part_search : (bits sequence : List ℕ) (a burst_len m : ℕ) → burst_len ≤ length bits → a + length sequence ≤ burst_len → m ≡ length bits - burst_len + length sequence
    → find_sequence (take m (drop a bits)) sequence ≡ best bits sequence a (placings (length bits) burst_len)
unfolding find_sequence placings
part_search bits sequence a burst_len m h k e =
    let l : length (take m (drop a bits)) ≡ m = length-take-le m (drop a bits) (omega (arith, length-drop a bits)) in
    let f : placings m (length sequence) ≡ placings (length bits) burst_len = omega arith in
    rw (l, ← f) (part_best bits sequence a m (placings m (length sequence)) (omega arith))
