-- A window with a burst in it, as the code leaves it, and what stands in it: for any window, offset and burst.
use mathlib.Core.Path.{◌≡◌, refl, sym, ap, ◌∙◌}
use mathlib.Core.List.{List, [], ◌++◌, append_assoc, append-nil}
use Prim.Native.Nat.{ℕ, ◌+◌, ◌-◌, ◌≤◌}
use native.Mathlib.Omega.{arith}
use native.Mathlib.Decide.{dec_le}
use lib.ListN.{length, take, drop, replicate, length-append, length-replicate, take-append-drop}
use lib.Seq.{take-append-add, take-length, length-take-le}
use Rattle.std.specs.Prelude.{min}
use Rattle.std.proofs.lemmas.List.{take-append-le, take-replicate, drop-replicate}
use Rattle.slotter.specs.Uplink.{placed}

abbrev zeros : ℕ → List ℕ
zeros n = replicate n 0

zeros_length : (n : ℕ) → length (zeros n) ≡ n
zeros_length n = length-replicate n 0

-- what a window is the first bits of
abbrev line : ℕ → ℕ → List ℕ → List ℕ
line n offset burst = zeros offset ++ burst ++ zeros n

module _ (offset : ℕ) (burst : List ℕ) where
  line_length : (n : ℕ) → n ≤ length (line n offset burst)
  line_length n = simp length-append (omega (arith, zeros_length n))

  -- ---- as the code leaves it

  -- an offset behind the end
  off : (n : ℕ) → n ≤ offset → take n (line n offset burst) ≡ zeros n
  off n h =
      ap (take n) (append_assoc (zeros offset) burst (zeros n))
      ∙ take-append-le n (zeros offset) (burst ++ zeros n) (omega (arith, zeros_length offset))
      ∙ take-replicate n offset 0 h

  -- one before it
  on : (n : ℕ) → offset ≤ n → take n (line n offset burst) ≡ zeros offset ++ take (n - offset) (burst ++ zeros n)
  on n h =
      let e : length (zeros offset) + (n - offset) ≡ n = omega (arith, zeros_length offset) in
      ap (take n) (append_assoc (zeros offset) burst (zeros n)) ∙ rw e at (take-append-add (zeros offset) (burst ++ zeros n) (n - offset))

  -- k bits from the offset on
  part : (n k : ℕ) → k ≤ n → take k (burst ++ zeros n) ≡ take (min (length burst) k) burst ++ zeros (k - min (length burst) k)
  part n k h =
      elim (dec_le k (length burst)) [
        | yes l ↦
            let m : min (length burst) k ≡ k = omega arith in
            let z : k - k ≡ 0 = omega arith in
            take-append-le k burst (zeros n) l ∙ rw (m, z) (sym (append-nil (take k burst)))
        | no l ↦
            let m : min (length burst) k ≡ length burst = omega (arith, l) in
            let e : length burst + (k - length burst) ≡ k = omega (arith, l) in
            rw (m, take-length burst) (rw e at (take-append-add burst (zeros n) (k - length burst)) ∙ ap (λ (r : List ℕ). burst ++ r) (take-replicate (k - length burst) n 0 (omega arith)))
      ]

  -- zeros, and over them what fits of the burst
  pub left_as : {w c : List ℕ} {start len k : ℕ} (n : ℕ) → w ≡ zeros n → start ≡ min offset n → len ≡ min (length burst) (n - start) → c ≡ take len burst → k ≡ len
      → take start w ++ (c ++ drop k (drop start w)) ≡ placed n offset burst
  unfolding placed
  left_as {start = start} {len = len} n e f g p q =
      rw (e, p, q, drop-replicate {X = ℕ} start n 0, drop-replicate {X = ℕ} len (n - start) 0)
      (elim (dec_le n offset) [
        | yes h ↦
            let s : start ≡ n = f ∙ omega arith in
            let l : len ≡ 0 = g ∙ omega arith in
            let z : n - n - 0 ≡ 0 = omega arith in
            rw (l, s, z, take-replicate {X = ℕ} n n 0 (omega arith)) (append-nil (zeros n) ∙ sym (off n h))
        | no h ↦
            let s : start ≡ offset = f ∙ omega (arith, h) in
            rw (g, s, take-replicate {X = ℕ} offset n 0 (omega (arith, h)))
            (sym (on n (omega (arith, h)) ∙ ap (λ (r : List ℕ). zeros offset ++ r) (part n (n - offset) (omega arith))))
      ])

  -- ---- what stands in a window
  module _ (n : ℕ) where
    pub placed_length : length (placed n offset burst) ≡ n
    unfolding placed
    placed_length = length-take-le n (line n offset burst) (line_length n)

    -- a burst that fits, with zeros around it
    pub placed_whole : offset + length burst ≤ n → placed n offset burst ≡ zeros offset ++ burst ++ take (n - (offset + length burst)) (zeros n)
    unfolding placed
    placed_whole h =
        let l : List ℕ = zeros offset ++ burst in
        let m : length l ≡ offset + length burst = length-append (zeros offset) burst ∙ omega (arith, zeros_length offset) in
        let e : length l + (n - (offset + length burst)) ≡ n = omega (arith, m) in
        rw e at (take-append-add l (zeros n) (n - (offset + length burst)))

-- no burst leaves zeros
pub placed_nothing : (n offset : ℕ) → placed n offset [] ≡ zeros n
placed_nothing n offset =
    sym (left_as offset [] {w = zeros n} {c = []} {start = min offset n} {len = 0} {k = 0} n refl refl (omega arith) refl refl)
    ∙ take-append-drop (min offset n) (zeros n)
