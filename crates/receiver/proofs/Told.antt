-- No two ways in which a block ends tell the same. Assumes nothing.
use mathlib.Core.Path.{◌≡◌, refl, sym, ap, ◌∙◌}
use Rattle.dsp_types.proofs.Numbers.{refusal_of, refusal_back}
use Rattle.receiver.specs.declared.feed.Stop.{Stop}
use Rattle.receiver.specs.declared.feed.Stop.TheVariants.{End, Slot, Refused}
use Rattle.receiver.specs.Feed.{Stopped, at_end, at_slot, at_refusal, stopped}

pub told_apart : (a b : Stop) → stopped a ≡ stopped b → a ≡ b
unfolding stopped
told_apart a b e = sym (back a) ∙ ap stop e ∙ back b
  where
    stop : Stopped → Stop
    stop at_end = End
    stop at_slot = Slot
    stop (at_refusal n) = Refused (refusal_of n)

    back : (a : Stop) → stop (stopped a) ≡ a
    back End = refl
    back Slot = refl
    back (Refused r) = ap Refused (refusal_back r)
