-- The length of a normal training sequence.
use mathlib.Core.Path.{◌≡◌, refl}
use mathlib.Core.Bool.{Bool, true, false, cond}
use Prim.Native.Nat.{ℕ}
use lib.Dec.{eqb}
use lib.ListN.{length}
use Rattle.train_consts.specs.Training.{normal1, normal2}
use Rattle.slotter.specs.Bursts.{training_of}

pub training_length : (n : ℕ) → length (training_of n) ≡ 22
unfolding training_of normal1 normal2
training_length n = go (eqb n 1)
  where
    go : (b : Bool) → length (cond b normal1 normal2) ≡ 22
    go true = refl
    go false = refl
