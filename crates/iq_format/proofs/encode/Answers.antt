-- A part more is written as its word's four bytes.
use Rattle.std.proofs.Common.{◌≡◌, ◌+◌, ◌*◌, ◌<◌, ◌∙◌, length, ap, arith, refl, rules}
use Rattle.std.proofs.lemmas.List.{get_or-take, length-take-le}
use Rattle.std.proofs.lemmas.Slice.{take-put_mid, drop-put_mid}
use Rattle.std.specs.Float.{nan}
use Rattle.iq_format.specs.Parts.{part_bytes}
use Rattle.iq_format.proofs.Parts.{word_turn, left_turn}
use Rattle.iq_format.proofs.encode.Goals as goal

pub loop-n-init : goal.loop-n-init
unfolding part_bytes
loop-n-init c = (search rules, refl, refl, refl)

pub loop-n-preserved : goal.loop-n-preserved
loop-n-preserved c =
    let l = c.loop-n in
    let w = c.f32_to_bits_with_nan.result in
    let s = c.copy_from_slice.new.self in
    let parts = c.args.parts.now in
    let count = c.min-count.result in
    let h : l.n < count = omega (arith, length-take-le count parts (omega arith), c.loop-n-test.true) in
    let e = rw (get_or-take count parts l.n nan h) at c.f32_to_bits_with_nan.ensures in
    let k : length s ≡ 4 = ap length (c.copy_from_slice.ensures.after ∙ c.to_le_bytes.ensures) in (
      l.invariant.0,
      search rules,
      take-put_mid (4 * l.n) _ l.bytes s (4 * (l.n + 1)) (omega (arith, k)) (search rules)
          ∙ rw (l.invariant.2, c.copy_from_slice.ensures.after, c.to_le_bytes.ensures) (word_turn l.n w parts (omega (arith, h)) c.f32_to_bits_with_nan.type_inv e),
      drop-put_mid (4 * l.n) _ l.bytes s (4 * (l.n + 1)) (omega arith) (search rules) (omega (arith, k)) ∙ left_turn l.n l.bytes c.args.bytes.now l.invariant.3,
    )
