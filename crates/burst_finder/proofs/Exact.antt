-- A sequence that stands with no bit wrong: the earliest such placing is the best. For any bits, sequence and number of placings.
use mathlib.Core.Path.{◌≡◌, refl, ap, sym, ◌∙◌}
use mathlib.Core.List.{List, [], ◌∷◌}
use Prim.Native.Nat.{ℕ, zero, suc, ◌+◌, ◌*◌, ◌≤◌, ◌<◌}
use native.Mathlib.Omega.{arith}
use native.Mathlib.Decide.{dec_le}
use lib.ListN.{length, take, drop}
use lib.Seq.{slice, take-add, drop_at, length-take-le}
use borrow.Author.Tests.{eq-eqb}
use Rattle.burst_finder.specs.declared.Found.{Found}
use Rattle.burst_finder.specs.Search.{hamming_distance, errors_at, best}
use Rattle.burst_finder.specs.Exact.{Earliest}
use Rattle.burst_finder.proofs.Distance.{distance_take}
use Rattle.burst_finder.proofs.Best.{IsBest, is_best}

distance_self : (s : List ℕ) → hamming_distance s s ≡ 0
unfolding hamming_distance
distance_self [] = refl
distance_self (b ∷ s) = rw (eq-eqb b b refl) (omega (arith, distance_self s))

-- a sequence that stands at a place has no bit wrong there
pub exact_at : (sent sequence : List ℕ) (place n : ℕ) → place ≤ length sent → slice place (place + n) sent ≡ sequence → length sequence ≤ n → errors_at sent sequence place ≡ 0
unfolding errors_at
exact_at sent sequence place n h e l =
    sym (distance_take n (drop place sent) sequence l) ∙ ap (λ (f : List ℕ). hamming_distance f sequence) (sym whole ∙ e) ∙ distance_self sequence
  where
    whole : slice place (place + n) sent ≡ take n (drop place sent)
    whole = rw (take-add place n sent) (drop_at (take place sent) (take n (drop place sent)) place (length-take-le place sent h))

-- the best of n placings is the earliest exact one, which is not behind placing k
pub record Reached (bits sequence : List ℕ) (start n k : ℕ) : Type 0 where
  pub half : ℕ
  pub soon : half ≤ k
  pub earliest : Earliest bits sequence start half
  pub is : best bits sequence start n ≡ record { pos = 2 * half; dist = 0 }

module _ (bits sequence : List ℕ) (start : ℕ) where
  -- placing k is exact
  pub reached : (n k : ℕ) → k < n → errors_at bits sequence (start + 2 * k) ≡ 0 → Reached bits sequence start n k
  reached zero k inside exact = absurd (omega arith)
  reached (suc n) k inside exact =
      let f : Found = best bits sequence start (suc n) in
      let b : IsBest bits sequence start (suc n) f = is_best bits sequence start n in
      let none : f.dist ≡ 0 = omega (arith, b.fewest k inside) in
      record {
        half = b.half;
        soon = elim (dec_le b.half k) [ yes h ↦ h | no h ↦ absurd (omega (arith, b.earliest k (omega (arith, h)))) ];
        earliest = record { exact = omega (arith, b.count, none); none = λ e. omega (arith, b.earliest e.half e.before, e.exact) };
        is = rw (← b.place, ← none);
      }

  -- .. and none before it is: the best is placing k
  pub exact_best : (n k : ℕ) → k < n → Earliest bits sequence start k → best bits sequence start n ≡ record { pos = 2 * k; dist = 0 }
  exact_best n k inside e =
      let r = reached n k inside e.exact in
      let same : r.half ≡ k = elim (dec_le k r.half) [
        | yes h ↦ omega (arith, r.soon, h)
        | no h ↦ absurd (e.none (record { half = r.half; before = omega (arith, h); exact = r.earliest.exact }))
      ] in
      r.is ∙ rw same
