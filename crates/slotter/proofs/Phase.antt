-- The sum over a window's symbols, as the code's loop meets them.
use mathlib.Core.Path.{◌≡◌, refl, ap, sym, ◌∙◌}
use mathlib.Core.List.{List, [], ◌∷◌}
use Prim.Native.Nat.{ℕ, zero, suc, ◌+◌, ◌*◌, ◌/◌, ◌≤◌, ◌<◌}
use native.Mathlib.Omega.{arith}
use lib.IntN.{ℤ, pos, negsuc, ◌+ℤ◌, +ℤ_assoc, +ℤ_idr}
use lib.ListN.{length, take, drop, get_or, length-drop}
use lib.Dec.{lit≤}
use lib.Seq.{drop-drop}
use mir.Syntax.{w32}
use mir.Val.{SFits}
use Rattle.std.specs.Simd.{first_chunks}
use Rattle.dsp_types.specs.Ints.{up, dn}
use Rattle.dsp_types.proofs.IntLaws.{sum}
use Rattle.dsp_types.specs.Phases.{phase_of}
use Rattle.slotter.specs.Phases.{phase_sum}

-- ---- one turn of the loop that sums

-- symbol i is the bits from 2i on
symbol_at : (bits : List ℕ) (n i : ℕ) → i < n → get_or (first_chunks 2 n bits) i [] ≡ take 2 (drop (2 * i) bits)
symbol_at bits zero i h = absurd (omega arith)
symbol_at bits (suc n) zero h = refl
symbol_at bits (suc n) (suc i) h =
    let e : 2 + 2 * i ≡ 2 * suc i = omega arith in
    symbol_at (drop 2 bits) n i (omega arith) ∙ ap (take 2) (drop-drop (2 * i) 2 bits ∙ ap (λ (k : ℕ). drop k bits) e)

first_symbol : (s : List ℕ) → 1 < length s → phase_sum s ≡ phase_of (get_or (take 2 s) 0 0) (get_or (take 2 s) 1 0) +ℤ phase_sum (drop 2 s)
unfolding phase_sum
first_symbol [] h = absurd (omega arith)
first_symbol (a ∷ []) h = absurd (omega arith)
first_symbol (a ∷ b ∷ s) h = refl

module _ (bits : List ℕ) (symbols : List (List ℕ)) (z : ℤ) (i : ℕ) (c : symbols ≡ first_chunks 2 (length bits / 2) bits)
    (e : phase_sum bits ≡ z +ℤ phase_sum (drop (2 * i) bits)) where
  -- the phase of symbol i goes from what is left to the sum
  pub one_more : i < length bits / 2 → phase_sum bits ≡ z +ℤ phase_of (get_or (get_or symbols i []) 0 0) (get_or (get_or symbols i []) 1 0) +ℤ phase_sum (drop (2 * (i + 1)) bits)
  one_more h =
      let s : List ℕ = drop (2 * i) bits in
      let here : get_or symbols i [] ≡ take 2 s = ap (λ (l : List (List ℕ)). get_or l i []) c ∙ symbol_at bits (length bits / 2) i h in
      let k : 2 * i + 2 ≡ 2 * (i + 1) = omega arith in
      let left : drop 2 s ≡ drop (2 * (i + 1)) bits = drop-drop 2 (2 * i) bits ∙ ap (λ (n : ℕ). drop n bits) k in
      rw (here, ← left)
      (e
      ∙ ap (λ (y : ℤ). z +ℤ y) (first_symbol s (omega (arith, length-drop (2 * i) bits)))
      ∙ sym (+ℤ_assoc z (phase_of (get_or (take 2 s) 0 0) (get_or (take 2 s) 1 0)) (phase_sum (drop 2 s))))

alone : (bits : List ℕ) → length bits ≤ 1 → phase_sum bits ≡ pos 0
unfolding phase_sum
alone [] h = refl
alone (a ∷ []) h = refl
alone (a ∷ b ∷ bits) h = absurd (omega arith)

-- no symbol is left
pub no_more : (bits : List ℕ) (z : ℤ) (i : ℕ) → length bits / 2 ≤ i → phase_sum bits ≡ z +ℤ phase_sum (drop (2 * i) bits) → z ≡ phase_sum bits
no_more bits z i h e = sym (e ∙ ap (λ (s : ℤ). z +ℤ s) (alone (drop (2 * i) bits) (omega (arith, length-drop (2 * i) bits))) ∙ +ℤ_idr z)

-- ---- how far a sum can go

-- at most n either side of zero
pub record Small (z : ℤ) (n : ℕ) : Type 0 where
  pub above : up z ≤ n
  pub below : dn z ≤ n

small : (z : ℤ) (n : ℕ) → up z ≤ n + dn z → dn z ≤ n + up z → Small z n
small (pos k) n h l = record { above = omega arith; below = omega arith }
small (negsuc k) n h l = record { above = omega arith; below = omega arith }

small_sum : (x y : ℤ) (n : ℕ) → Small x n → Small y 3 → Small (x +ℤ y) (n + 3)
small_sum x y n h k = small (x +ℤ y) (n + 3) (omega (arith, sum x y)) (omega (arith, sum x y))

small_phase : (a b : ℕ) → Small (phase_of a b) 3
unfolding phase_of
small_phase zero zero = record { above = lit≤ tt; below = lit≤ tt }
small_phase zero (suc b) = record { above = lit≤ tt; below = lit≤ tt }
small_phase (suc a) zero = record { above = lit≤ tt; below = lit≤ tt }
small_phase (suc a) (suc b) = record { above = lit≤ tt; below = lit≤ tt }

pub small_more : (z : ℤ) (a b i : ℕ) → Small z (3 * i) → Small (z +ℤ phase_of a b) (3 * (i + 1))
small_more z a b i h =
    let s = small_sum z (phase_of a b) (3 * i) h (small_phase a b) in
    record { above = omega (arith, s.above); below = omega (arith, s.below) }

pub small_fits : {z : ℤ} {n : ℕ} → Small z n → n < 2048 → SFits w32 z
small_fits {z = pos k} h l = record { sfits = omega arith }
small_fits {z = negsuc k} h l = record { sfits = omega arith }
