-- Texts that are made piece by piece: a piece that is cut off changes nothing of what is kept, and a short text is not cut. Assumes nothing.
use mathlib.Core.Path.{◌≡◌, sym, ap, ◌∙◌}
use mathlib.Core.Logic.{⊎_elim}
use mathlib.Core.List.{List, ◌++◌, append_assoc}
use Prim.Native.Nat.{ℕ, ◌≤◌, ◌<◌}
use native.Mathlib.Omega.{arith}
use lib.ListN.{length}
use lib.Seq.{take_all, take-take, take-append-le, length-take-le}
use Rattle.dsp_types.proofs.RingLaws.{le_or_lt}
use Rattle.text.specs.Text.{cut}

-- a short text is not cut
pub short : (a : List ℕ) → length a ≤ 2048 → cut a ≡ a
unfolding cut
short a h = take_all 2048 a h

pub cut_append : (a b : List ℕ) → cut (cut a ++ b) ≡ cut (a ++ b)
unfolding cut
cut_append a b =
    ⊎_elim
    (λ (h : length a ≤ 2048). rw (take_all 2048 a h))
    (λ (h : 2048 < length a).
    take-append-le 2048 (cut a) b (omega (arith, length-take-le 2048 a (omega arith))) ∙ take-take 2048 2048 a (omega arith) ∙ sym (take-append-le 2048 a b (omega arith)))
    (le_or_lt (length a) 2048)

-- a piece more
pub then : {t u : List ℕ} (a b : List ℕ) → t ≡ cut a → u ≡ cut (t ++ b) → u ≡ cut (a ++ b)
then a b e f = f ∙ rw e (cut_append a b)

-- two pieces behind a text are one
pub onto : {u v : List ℕ} (t a b : List ℕ) → u ≡ cut (t ++ a) → v ≡ cut (u ++ b) → v ≡ cut (t ++ (a ++ b))
onto t a b e f = then (t ++ a) b e f ∙ ap cut (append_assoc t a b)
