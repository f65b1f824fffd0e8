-- Each part made is that of its bytes.
use Rattle.std.proofs.Common.{◌≡◌, ℕ, ◌<◌, ◌/◌, ◌∙◌, ap, ◌∷◌, [], List, get_or, length, rules, arith}
use Rattle.std.specs.Float.{Float, nan}
use Rattle.iq_format.specs.declared.Format.TheVariants.{Cf32, Cs16, Cu8}
use Rattle.iq_format.specs.Parts.{part_of, word_of}
use Rattle.dsp_types.proofs.Chunks.{chunk_is}
use Rattle.iq_format.proofs.Parts.{part_word, all_read, word_of_one}
use Rattle.iq_format.proofs.decode.Goals as goal

pub returns-in-Cf32-clause-parts : goal.returns-in-Cf32-clause-parts
returns-in-Cf32-clause-parts c = rw c.in-Cf32.is (all_read Cf32 bytes c.args.parts.now made n (search rules) (search rules) c.read.ensures.rest each)
  where
    bytes : List ℕ
    bytes = c.args.bytes.now

    made : List Float
    made = c.read.new.parts

    n : ℕ
    n = c.read.result

    each : (k : ℕ) → k < n → get_or made k nan ≡ part_of Cf32 (part_word Cf32 bytes k)
    each k h =
        let told = c.read.ensures.read k [] h in
        let e : get_or made k nan ≡ part_of Cf32 (word_of (get_or c.as_chunks.result.0.now k [])) = search rules in
        e ∙ ap (λ (raw : List ℕ). part_of Cf32 (word_of raw)) (chunk_is 4 (length bytes / 4) k bytes c.as_chunks.result.0.now c.as_chunks.ensures.front (omega (arith, c.read.ensures.count)))

pub returns-in-Cs16-clause-parts : goal.returns-in-Cs16-clause-parts
returns-in-Cs16-clause-parts c = rw c.in-Cs16.is (all_read Cs16 bytes c.args.parts.now made n (search rules) (search rules) c.read-in-Cs16.ensures.rest each)
  where
    bytes : List ℕ
    bytes = c.args.bytes.now

    made : List Float
    made = c.read-in-Cs16.new.parts

    n : ℕ
    n = c.read-in-Cs16.result

    each : (k : ℕ) → k < n → get_or made k nan ≡ part_of Cs16 (part_word Cs16 bytes k)
    each k h =
        let told = c.read-in-Cs16.ensures.read k [] h in
        let e : get_or made k nan ≡ part_of Cs16 (word_of (get_or c.as_chunks-in-Cs16.result.0.now k [])) = search rules in
        e ∙ ap (λ (raw : List ℕ). part_of Cs16 (word_of raw)) (chunk_is 2 (length bytes / 2) k bytes c.as_chunks-in-Cs16.result.0.now c.as_chunks-in-Cs16.ensures.front (omega (arith, c.read-in-Cs16.ensures.count)))

pub returns-in-Cu8-clause-parts : goal.returns-in-Cu8-clause-parts
returns-in-Cu8-clause-parts c = rw c.in-Cu8.is (all_read Cu8 bytes c.args.parts.now made n (search rules) (search rules) c.read-in-Cu8.ensures.rest each)
  where
    bytes : List ℕ
    bytes = c.args.bytes.now

    made : List Float
    made = c.read-in-Cu8.new.parts

    n : ℕ
    n = c.read-in-Cu8.result

    each : (k : ℕ) → k < n → get_or made k nan ≡ part_of Cu8 (part_word Cu8 bytes k)
    each k h =
        let told = c.read-in-Cu8.ensures.read k 0 h in
        let e : get_or made k nan ≡ part_of Cu8 (word_of (get_or bytes k 0 ∷ [])) = search rules in
        e ∙ rw (word_of_one k bytes (omega (arith, c.read-in-Cu8.ensures.count)))
