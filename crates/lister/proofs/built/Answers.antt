-- A piece behind the other.
use Rattle.std.proofs.Common.{◌≡◌, map, rules, arith, length, take, drop}
use mir.Syntax.{w32}
use mir.ValLaws.{to_z-of_z}
use Rattle.text.specs.Text.{cut, ascii, character_of, type_name}
use Rattle.text.proofs.Cutting.{then}
use Rattle.block_text.specs.BlockText.{type_or_0}
use Rattle.lister.specs.Listing.{signed_decimal, burst_lines}
use Rattle.lister.proofs.Judged.{number_is}
use Rattle.lister.proofs.Short.{part}
use Rattle.lister.proofs.built.Goals as goal

pub returns : goal.returns
unfolding ascii burst_lines
returns c =
    let b = c.args.burst in
    let h : length b.bits ≡ 510 = search rules in
    let k = number_is c.args.burst_type c.map_or-number.result c.map_or-number.ensures in
    let t₁ : c.append.result ≡ cut (ascii "kind=") = rw c.new.ensures at c.append.ensures in
    let t₂ = then _ (type_name (type_or_0 c.args.burst_type)) t₁ (rw k at c.type_name-named.ensures) in
    let t₃ = then _ (ascii "\nsum_first=") t₂ c.append-2.ensures in
    let t₄ = then _ (signed_decimal b.first_sum) t₃ (rw (to_z-of_z w32 b.first_sum (search rules)) at c.with_signed.ensures) in
    let t₅ = then _ (ascii "\nadj_first=") t₄ c.append-3.ensures in
    let t₆ = then _ (map character_of (take 2 (drop 12 b.bits))) t₅ c.bits-one.ensures in
    let t₇ = then _ (ascii "\nsum_last=") t₆ c.append-4.ensures in
    let t₈ = then _ (signed_decimal b.last_sum) t₇ (rw (to_z-of_z w32 b.last_sum (search rules)) at c.with_signed-2.ensures) in
    let t₉ = then _ (ascii "\nadj_last=") t₈ c.append-5.ensures in
    let t₁₀ = then _ (map character_of (take 2 (drop 498 b.bits))) t₉ c.bits.ensures in
    rw (part 12 2 b.bits (omega (arith, h)), part 498 2 b.bits (omega (arith, h))) (then _ (ascii "\n") t₁₀ c.append-6.ensures)
