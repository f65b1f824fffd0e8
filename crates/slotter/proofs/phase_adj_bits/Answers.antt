-- Each arm is a case of `named`.
use Rattle.std.proofs.Common.{◌≡◌, sym, ap, ◌∙◌, ℕ, ℤ, pos, ne_eqb, rules}
use Rattle.std.specs.Int.{int_rem_euclid}
use mir.Syntax.{w32}
use mir.Val.{SFits, to_z, of_z}
use mir.ValLaws.{to_z-of_z}
use Rattle.dsp_types.specs.Phases.{modulo8}
use Rattle.slotter.proofs.Adjustment.{names, rest_number}
use Rattle.slotter.proofs.phase_adj_bits.Goals as goal

rest : {r sum : ℤ} → SFits w32 sum → r ≡ int_rem_euclid (to_z w32 (of_z w32 sum)) (pos 8) → modulo8 sum ≡ of_z w32 r
rest {r} {sum} f e = sym (ap (of_z w32) (e ∙ ap (λ (z : ℤ). int_rem_euclid z (pos 8)) (to_z-of_z w32 sum f)) ∙ rest_number sum)

pub returns-in-7 : goal.returns-in-7
returns-in-7 c =
    let h : of_z w32 c.rem_euclid.result ≡ 7 = search rules in
    sym (rw (rest c.ranges.sum c.rem_euclid.ensures.value ∙ h) at (names c.args.sum))

pub returns-in-5 : goal.returns-in-5
returns-in-5 c =
    let h : of_z w32 c.rem_euclid.result ≡ 5 = search rules in
    sym (rw (rest c.ranges.sum c.rem_euclid.ensures.value ∙ h) at (names c.args.sum))

pub returns-in-1 : goal.returns-in-1
returns-in-1 c =
    let h : of_z w32 c.rem_euclid.result ≡ 1 = search rules in
    sym (rw (rest c.ranges.sum c.rem_euclid.ensures.value ∙ h) at (names c.args.sum))

pub returns-in_default : goal.returns-in_default
returns-in_default c =
    let m : ℕ = of_z w32 c.rem_euclid.result in
    let h7 : m ≡ 7 → ⊥ = search rules in
    let h5 : m ≡ 5 → ⊥ = search rules in
    let h1 : m ≡ 1 → ⊥ = search rules in
    sym (rw (rest c.ranges.sum c.rem_euclid.ensures.value, ne_eqb m 7 h7, ne_eqb m 5 h5, ne_eqb m 1 h1) at (names c.args.sum))
