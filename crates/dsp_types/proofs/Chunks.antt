-- The pieces of one length that a list is cut into. Assumes nothing.
use mathlib.Core.Path.{◌≡◌, ap, ◌∙◌}
use mathlib.Core.List.{List, []}
use Prim.Native.Nat.{ℕ, zero, suc, ◌+◌, ◌*◌, ◌<◌}
use native.Mathlib.Omega.{arith}
use native.Mathlib.Nat.{mul-suc}
use lib.ListN.{get_or, take, drop}
use lib.Seq.{drop-drop}
use Rattle.std.specs.Simd.{first_chunks}

module _ {A : Type 0} where
  chunk_at : (w m n : ℕ) (xs : List A) (d : List A) → n < m → get_or (first_chunks w m xs) n d ≡ take w (drop (w * n) xs)
  chunk_at w zero n xs d h = absurd (omega arith)
  chunk_at w (suc m) zero xs d h = let z : w * 0 ≡ 0 = omega arith in rw z
  chunk_at w (suc m) (suc n) xs d h =
      let e : w * suc n ≡ w + w * n = omega (arith, mul-suc w n) in
      rw (e, ← drop-drop (w * n) w xs) (chunk_at w m n (drop w xs) d (omega arith))

  pub chunk_is : (w m k : ℕ) (xs : List A) (chunks : List (List A)) → chunks ≡ first_chunks w m xs → k < m → get_or chunks k [] ≡ take w (drop (w * k) xs)
  chunk_is w m k xs chunks e h = ap (λ (l : List (List A)). get_or l k []) e ∙ chunk_at w m k xs [] h
