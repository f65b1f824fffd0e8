-- Each bit is its character's, for the calls leave the closure as it is.
use Rattle.std.proofs.Common.{◌≡◌, ◌∙◌, refl, sym, subst, rules, arith, Bor, List, ℕ, zero, suc, ◌+◌, ◌<◌, map, get_or}
use Rattle.std.proofs.lemmas.List.{ext_get_or, length-map, get_or-map}
use Rattle.std.specs.Array.{IsFromFnResultFrom}
use denote.Param.Members.{Mut, Called}
use Rattle.block_text.specs.BlockText.{character_bit}
use Rattle.block_text.proofs.bits_of.Goals as goal

-- what calls at the n numbers from i on gave, where each leaves a closure that is the same as before
calls_gave : {F : Type 0} {g : Mut F (ℕ × Unit {0}) ℕ} (ys : List ℕ) (f : F) (i n : ℕ) → IsFromFnResultFrom g f ys i n → (Same : F → Type 0) (h : ℕ → ℕ)
    → ((p : F) (k y : ℕ) (q : F) → Same p → Called g p (k, tt) y q → (y ≡ h k) × Same q) → Same f → (k j : ℕ) → k < n → i + k ≡ j → get_or ys j 0 ≡ h j
calls_gave ys f i zero r Same h step s k j l e = absurd (omega arith)
calls_gave ys f i (suc n) r Same h step s zero j l e = let at : j ≡ i = omega arith in rw at (r.2.1 0 ∙ (step f i r.1 r.0 s r.3).0)
calls_gave ys f i (suc n) r Same h step s (suc k) j l e = calls_gave ys r.0 (i + 1) n r.4 Same h step (step f i r.1 r.0 s r.3).1 k j (omega arith) (omega arith)

pub returns : goal.returns
returns g c =
    let items = c.from_fn.ensures.items in
    let text = c.args.characters.now in
    let gave = calls_gave {F = record { 0 : Bor (List ℕ) }} c.from_fn.result _ 0 _ items.each (λ p. p.0.now ≡ text) (λ i. character_bit (get_or text i 0))
    (λ p i y q s m. (rw (sym s) (search (rules, m.met)), rw (sym s) (search (rules, m.met)))) refl in
    ext_get_or 0 c.from_fn.result (map character_bit text) (items.long ∙ sym c.requires ∙ sym (length-map text character_bit))
    (λ i l. gave i i (subst (λ n. i < n) items.long l) (omega arith) ∙ sym (get_or-map character_bit text i 0 0 (omega (arith, items.long))))
