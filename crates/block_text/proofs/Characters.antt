-- The characters of blocks, one turn of the loop that looks at them, for any number of them.
use mathlib.Core.Path.{◌≡◌, sym, ◌∙◌}
use mathlib.Core.Bool.{Bool, ◌||◌, or_assoc, or-false}
use mathlib.Core.List.{List}
use Prim.Native.Nat.{ℕ, suc, ◌+◌, ◌≤◌, ◌<◌}
use native.Mathlib.Numerals.{add-one}
use lib.ListN.{length, drop, get_or, drop_of_length-le}
use lib.Seq.{drop-cons}
use Rattle.block_text.specs.BlockText.{not_character, not_characters}

pub one_more : (cs : List ℕ) (found : Bool) (i : ℕ) → i < length cs → not_characters cs ≡ (found || not_characters (drop i cs))
    → not_characters cs ≡ ((found || not_character (get_or cs i 0)) || not_characters (drop (i + 1) cs))
unfolding not_characters
one_more cs found i h e = e ∙ rw (drop-cons cs i 0 h, add-one i) (sym (or_assoc found (not_character (get_or cs i 0)) (not_characters (drop (suc i) cs))))

pub no_more : (cs : List ℕ) (found : Bool) (i : ℕ) → length cs ≤ i → not_characters cs ≡ (found || not_characters (drop i cs)) → found ≡ not_characters cs
unfolding not_characters
no_more cs found i h e = sym (e ∙ rw (drop_of_length-le cs h) (or-false found))
