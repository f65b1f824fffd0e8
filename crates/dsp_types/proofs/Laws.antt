-- Laws of slot numbers, and of the tests and lists that several crates share. Assumes nothing.
use mathlib.Core.Path.{◌≡◌, refl, sym, subst}
use mathlib.Core.Bool.{Bool, true, false, not, ◌&&◌, ◌||◌, true≢false}
use mathlib.Core.List.{List, [], ◌∷◌}
use Prim.Native.Nat.{ℕ, zero, suc, ◌-◌, ◌<◌, ◌≤◌}
use native.Mathlib.Nat.{mod-lt}
use native.Mathlib.Omega.{arith}
use lib.Dec.{T, eqb, lit<}
use lib.IntN.{ℤ, pos, negsuc}
use lib.Ieee.{Float, nan, inf, fin, ne, is_nan}
use lib.ListN.{length, take, drop}
use lib.Seq.{take-nil}
use lib.Signed.{lt_z}
use borrow.Author.Tests.{eqb-true, le-ltb, not-false}
use Rattle.dsp_types.specs.Refusals.{last_counter, out_of_count, wrong_length}
use Rattle.dsp_types.specs.Times.{slots, slot_of}

pub slot_below : (z : ℤ) → slot_of z < slots
unfolding slot_of
slot_below (pos n) = mod-lt n (lit< tt)
slot_below (negsuc n) = omega arith

-- a counter below 0 or above the last is out of count
pub out_of_count_lem : (c : ℤ) → (lt_z c (pos 0) || lt_z (pos last_counter) c) ≡ out_of_count c
unfolding out_of_count
out_of_count_lem (pos n) = rw (le-ltb n 0 (omega arith))
out_of_count_lem (negsuc n) = refl

-- of two tests neither passes, or both do
pub neither : (a b : Bool) → (a || b) ≡ false → (a ≡ false) × (b ≡ false)
neither true b e = absurd (true≢false e)
neither false b e = (refl, e)

pub both_true : (a b : Bool) → (a && b) ≡ true → (a ≡ true) × (b ≡ true)
both_true true b e = (refl, e)
both_true false b e = absurd (true≢false (sym e))

pub right_length : {A : Type 0} (n : ℕ) (xs : List A) → wrong_length n xs ≡ false → length xs ≡ n
unfolding wrong_length
right_length n xs e = eqb-true (length xs) n (not-false (eqb (length xs) n) e)

-- a number that is equal to itself is none that is not a number
pub not_nan : (x : Float) → ne x x ≡ false → T (not (is_nan x))
unfolding ne is_nan
not_nan nan e = subst T e tt
not_nan (inf s) e = tt
not_nan (fin s m e') e = tt

pub drop_take : {A : Type 0} (t n : ℕ) (l : List A) → t ≤ n → drop t (take n l) ≡ take (n - t) (drop t l)
drop_take zero n l h = let w : n - 0 ≡ n = omega arith in rw w
drop_take (suc t) zero l h = absurd (omega arith)
drop_take (suc t) (suc n) [] h = sym (take-nil (suc n - suc t))
drop_take (suc t) (suc n) (x ∷ l) h =
    let w : suc n - suc t ≡ n - t = omega arith in
    rw w (drop_take t n l (omega arith))
