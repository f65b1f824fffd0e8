-- The blocks of a burst, as parts of the bits that its characters stand for.
use mathlib.Core.Path.{◌≡◌, ◌∙◌}
use mathlib.Core.Bool.{Bool, true, false, cond}
use mathlib.Core.List.{List, map}
use Prim.Native.Nat.{ℕ, ◌+◌, ◌≤◌}
use native.Mathlib.Omega.{arith}
use lib.Dec.{eqb}
use lib.ListN.{length, take, drop, length-map, length-drop}
use lib.Seq.{take_all}
use borrow.Author.Tests.{eq-eqb, ne_eqb}
use Rattle.slotter.specs.Bursts.{sync_burst, normal_burst}
use Rattle.slotter.specs.Uplink.{normal_uplink, control_uplink}
use Rattle.block_text.specs.BlockText.{wanted, character_bit, burst_of}
use Rattle.block_text.specs.UplinkLines.{uplink_wanted, uplink_burst}

pub wanted_most : (type : ℕ) → wanted type ≤ 462
unfolding wanted
wanted_most type = go (eqb type 4)
  where
    go : (b : Bool) → cond b 366 462 ≤ 462
    go true = omega arith
    go false = omega arith

-- the last part
rest : (M : List ℕ) (a n : ℕ) → a + n ≡ length M → take n (drop a M) ≡ drop a M
rest M a n h = take_all n (drop a M) (omega (arith, length-drop a M))

module _ {w : List ℕ} (type : ℕ) (cs : List ℕ) (n : length cs ≡ wanted type) (e : w ≡ map character_bit cs) where
  pub sync_blocks : type ≡ 4 → sync_burst (take 120 w) (take 30 (drop 120 w)) (take 216 (drop 150 w)) ≡ burst_of type (map character_bit cs)
  unfolding wanted burst_of
  sync_blocks k =
      let M : List ℕ = map character_bit cs in
      let l : length M ≡ 366 = length-map cs character_bit ∙ (rw (eq-eqb type 4 k) at n) in
      rw (e, eq-eqb type 4 k, rest M 150 216 (omega arith))

  pub normal_blocks : (type ≡ 4 → ⊥) → normal_burst type (take 216 w) (take 30 (drop 216 w)) (take 216 (drop 246 w)) ≡ burst_of type (map character_bit cs)
  unfolding wanted burst_of
  normal_blocks k =
      let M : List ℕ = map character_bit cs in
      let l : length M ≡ 462 = length-map cs character_bit ∙ (rw (ne_eqb type 4 k) at n) in
      rw (e, ne_eqb type 4 k, rest M 246 216 (omega arith))

-- ---- an uplink's burst

pub uplink_most : (type : ℕ) → uplink_wanted type ≤ 432
unfolding uplink_wanted
uplink_most type = go (eqb type 3)
  where
    go : (b : Bool) → cond b 168 432 ≤ 432
    go true = omega arith
    go false = omega arith

module _ {w : List ℕ} (type : ℕ) (cs : List ℕ) (n : length cs ≡ uplink_wanted type) (e : w ≡ map character_bit cs) where
  pub control_blocks : type ≡ 3 → control_uplink (take 84 w) (take 84 (drop 84 w)) ≡ uplink_burst type (map character_bit cs)
  unfolding uplink_wanted uplink_burst
  control_blocks k =
      let M : List ℕ = map character_bit cs in
      let l : length M ≡ 168 = length-map cs character_bit ∙ (rw (eq-eqb type 3 k) at n) in
      rw (e, eq-eqb type 3 k, rest M 84 84 (omega arith))

  pub uplink_blocks : (type ≡ 3 → ⊥) → normal_uplink type (take 216 w) (take 216 (drop 216 w)) ≡ uplink_burst type (map character_bit cs)
  unfolding uplink_wanted uplink_burst
  uplink_blocks k =
      let M : List ℕ = map character_bit cs in
      let l : length M ≡ 432 = length-map cs character_bit ∙ (rw (ne_eqb type 3 k) at n) in
      rw (e, ne_eqb type 3 k, rest M 216 216 (omega arith))
