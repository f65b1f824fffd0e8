-- A type's name is short. Assumes nothing.
use Prim.Native.Nat.{ℕ, ◌≤◌}
use mathlib.Core.Bool.{Bool, true, false, cond}
use native.Mathlib.Omega.{arith}
use lib.Dec.{eqb}
use lib.ListN.{length}
use Rattle.text.specs.Text.{ascii, type_name}

pub length_name : (type : ℕ) → length (type_name type) ≤ 8
unfolding type_name ascii
length_name type = go (eqb type 1) (eqb type 2) (eqb type 3) (eqb type 4)
  where
    go : (a b c d : Bool) → length (cond a (ascii "normal1") (cond b (ascii "normal2") (cond c (ascii "extended") (cond d (ascii "sync") (ascii "none"))))) ≤ 8
    go true b c d = omega arith
    go false true c d = omega arith
    go false false true d = omega arith
    go false false false true = omega arith
    go false false false false = omega arith
