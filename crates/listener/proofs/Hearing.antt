-- One more sample in the filter line and in the rings is one more sample of the signal. Assumes nothing.
use mathlib.Core.Path.{◌≡◌, refl, ◌∙◌}
use mathlib.Core.List.{List, [], ◌∷◌}
use Prim.Native.Nat.{ℕ}
use lib.ListN.{take}
use lib.Ieee.{Float}
use Rattle.dsp_types.specs.declared.ComplexSample.{ComplexSample}
use Rattle.dsp_types.specs.Samples.{silence, ago}
use Rattle.fir.specs.Fir.{filter_of, line_after, outs_of}
use Rattle.magnitude.specs.Magnitude.{magnitude_of}
use Rattle.history.specs.History.{held_in, held_after}
use Rattle.listener.specs.Signal.{Signal, hear, hear_all}
use Rattle.listener.specs.View.{signal_from}
use Rattle.listener.proofs.Rows.{magnitudes_of, heard_rows}

one : (s : Signal) (x : ComplexSample) → hear_all s (x ∷ []) ≡ hear s x
unfolding hear_all
one s x = refl

pub heard : (line next : List ComplexSample) (re im abs re' im' abs' : List Float) (at i j k : ℕ) (x out : ComplexSample) (m : Float)
    → next ≡ take 32 (x ∷ line) → out ≡ filter_of (ago silence (x ∷ line)) → m ≡ magnitude_of out.re out.im
    → held_in re' i ≡ held_after (held_in re at) (out.re ∷ []) → held_in im' j ≡ held_after (held_in im at) (out.im ∷ [])
    → held_in abs' k ≡ held_after (held_in abs at) (m ∷ []) → i ≡ k → j ≡ k → signal_from next re' im' abs' k ≡ hear (signal_from line re im abs at) x
unfolding line_after outs_of magnitudes_of
heard line next re im abs re' im' abs' at i j k x out m n o g a b c p q =
    heard_rows line next (x ∷ []) re im abs re' im' abs' at i j k n (rw o at a) (rw o at b) (rw (g, o) at c) p q
    ∙ one (signal_from line re im abs at) x
