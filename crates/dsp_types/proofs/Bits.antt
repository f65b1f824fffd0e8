-- Bit bytes, one turn of the loop that looks at them. Assumes nothing.
use mathlib.Core.Path.{◌≡◌, sym, ◌∙◌}
use mathlib.Core.Bool.{Bool, ◌||◌, or_assoc, or-false}
use Prim.Native.Nat.{ℕ, suc, ◌+◌, ◌≤◌, ◌<◌}
use native.Mathlib.Numerals.{add-one}
use mathlib.Core.List.{List}
use lib.ListN.{length, drop, get_or, drop_of_length-le}
use lib.Seq.{drop-cons}
use lib.Dec.{ltb}
use Rattle.dsp_types.specs.Refusals.{not_bits}

pub one_more : (bs : List ℕ) (found : Bool) (i : ℕ) → i < length bs → not_bits bs ≡ (found || not_bits (drop i bs))
    → not_bits bs ≡ ((found || ltb 1 (get_or bs i 0)) || not_bits (drop (i + 1) bs))
unfolding not_bits
one_more bs found i h e =
    e ∙ rw (drop-cons bs i 0 h, add-one i) (sym (or_assoc found (ltb 1 (get_or bs i 0)) (not_bits (drop (suc i) bs))))

pub no_more : (bs : List ℕ) (found : Bool) (i : ℕ) → length bs ≤ i → not_bits bs ≡ (found || not_bits (drop i bs)) → found ≡ not_bits bs
unfolding not_bits
no_more bs found i h e = sym (e ∙ rw (drop_of_length-le bs h) (or-false found))
