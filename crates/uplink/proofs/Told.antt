-- No two answers of a burst built, placed and judged tell the same. Assumes nothing.
use mathlib.Core.Path.{◌≡◌, sym, ap, ◌∙◌}
use Rattle.std.specs.Prelude.{Ok, Err}
use Rattle.dsp_types.proofs.Numbers.{by_number, answer_back}
use Rattle.uplink.specs.declared.Judged.{Judged}
use Rattle.uplink.specs.Judging.{Told, told}

pub told_apart : (a b : Judged) → told a ≡ told b → a ≡ b
unfolding told
told_apart a b e = sym (whole a) ∙ ap judged e ∙ whole b
  where
    judged : Told → Judged
    judged t = record { built = by_number (Ok tt) Err t.number; finding = t.finding; judged = by_number (Ok tt) Err t.refusal; answer = t.answer }

    whole : (j : Judged) → judged (told j) ≡ j
    whole j = rw (answer_back j.built, answer_back j.judged)
