-- The first averaged timing error is within ±0.5, an error of 2 at most weighing a tenth, and the reference time moves by at most one. Assumes nothing.
use mathlib.Core.Path.{◌≡◌, refl, sym}
use mathlib.Core.Logic.{◌⊎◌, inl, inr}
use Prim.Native.Nat.{◌*◌}
use native.Mathlib.Nat.{zero-lt-suc}
use native.Mathlib.Omega.{arith}
use mathlib.Core.Bool.{Bool, true, false, cond, true≢false}
use lib.IntN.{pos, negsuc, ◌+ℤ◌}
use lib.Dec.{lit≤, lit<}
use borrow.Author.Tests.{le-ltb}
use lib.Ieee.{Float, nan, inf, fin, binary32, up, down, round, sub, is_nan, of_bits}
use lib.Ieee.Fits.{down_pos}
use Rattle.dsp_types.specs.Samples.{zero_f}
use Rattle.timing.specs.Floats.{two_f, tenth}
use Rattle.timing.specs.Document.{InTurn}
use Rattle.timing.specs.Tracking.{averaged_of, late, early, lowered_of, settled_of, moved_of}
use Rattle.timing.proofs.Sizes.{Bounded, Holds, weaken, apart_bounded, add_bounded, sub_bounded, mul_bounded}
use Rattle.timing.proofs.Parts.{under_four}

holds_2 : Holds 2 1
unfolding round
holds_2 = (refl, refl)

holds_2_8 : Holds 2 8
unfolding round
holds_2_8 = (refl, refl)

-- ---- the timing error t − 2 is at most 2 in size
error_bounded : (t : Float) → InTurn t → Bounded (sub binary32 t two_f) 2 1
unfolding sub of_bits
error_bounded nan h = absurd (true≢false (sym h.is_finite))
error_bounded (inf s) h = absurd (true≢false (sym h.is_finite))
error_bounded (fin true m e) h = absurd (true≢false h.not_signed)
error_bounded (fin false m e) h =
    let l = under_four m e h in
    apart_bounded false (m * up e * 1) (2 * down e) (down e * 1) 2 1 (omega (arith, down_pos e)) (zero-lt-suc 0) holds_2 (omega arith) (omega arith)

tenth_bounded : Bounded tenth 1 8
unfolding tenth
tenth_bounded = (false, record { over = lit< tt; size = (refl, lit≤ tt) })

zero_bounded : Bounded zero_f 0 1
unfolding of_bits
zero_bounded = (false, record { over = lit< tt; size = (refl, lit≤ tt) })

-- ---- so the first average is within 2/8
first_bounded : (t : Float) → InTurn t → Bounded (averaged_of zero_f t) 2 8
unfolding averaged_of
first_bounded t h = add_bounded holds_2_8 zero_bounded (mul_bounded holds_2_8 (sub_bounded holds_2 (error_bounded t h) zero_bounded) tenth_bounded)

-- ---- within 1/2 is settled: a number for which neither test passes

pub record Settled (averaged : Float) : Type 0 where
  pub number : is_nan averaged ≡ false
  pub not_late : late averaged ≡ false
  pub not_early : early averaged ≡ false

bounded_settled : (a : Float) → Bounded a 1 2 → Settled a
unfolding is_nan late early of_bits
bounded_settled nan b = absurd b.1.size
bounded_settled (inf s) b = absurd b.1.size
bounded_settled (fin true m e) b = record { number = refl; not_late = refl; not_early = le-ltb (1 * down e) (m * up e * 2) b.1.size.1 }
bounded_settled (fin false m e) b = record { number = refl; not_late = le-ltb (1 * down e) (m * up e * 2) b.1.size.1; not_early = refl }

-- the first tracked error never moves the reference time
pub first_settled : (t : Float) → InTurn t → Settled (averaged_of zero_f t)
first_settled t h = let b = first_bounded t h in bounded_settled (averaged_of zero_f t) (b.0, weaken 1 2 (lit< tt) (lit≤ tt) b.1)

-- ---- what the two tests do, of any averaged error
-- a settled one is left as it is
pub settled_stays : (a : Float) → Settled a → (settled_of a ≡ a) × (moved_of a ≡ pos 0)
unfolding settled_of moved_of
settled_stays a h = (simp (h.not_late, h.not_early), simp (h.not_late, h.not_early))

-- the reference time moves by at most one sample
pub moved_law : (a : Float) → (moved_of a ≡ pos 0) ⊎ ((moved_of a ≡ pos 1) ⊎ (moved_of a ≡ negsuc 0))
unfolding moved_of
moved_law a = go (late a) (early (lowered_of a))
  where
    go : (p q : Bool) → (let n = cond p (pos 1) (pos 0) +ℤ cond q (negsuc 0) (pos 0) in (n ≡ pos 0) ⊎ ((n ≡ pos 1) ⊎ (n ≡ negsuc 0)))
    go true true = inl refl
    go true false = inr (inl refl)
    go false true = inr (inr refl)
    go false false = inl refl
