-- Its rings hold zeros.
use Rattle.std.proofs.Common.{◌≡◌, replicate}
use lib.Dec.{lit<}
use Rattle.dsp_types.specs.Samples.{zero_f, silence}
use Rattle.dsp_types.proofs.RingLaws.{ring_zeros, sample_zeros, newest_same}
use Rattle.history.specs.History.{held_in, samples_in}
use Rattle.listener.specs.Signal.{unheard}
use Rattle.listener.specs.View.{signal_from, signal_of}
use Rattle.listener.proofs.Listener.new.Goals as goal

zeros_held : held_in (replicate 2048 zero_f) 0 ≡ replicate 2048 zero_f
unfolding held_in
zeros_held = newest_same 2048 zero_f (λ d k. ring_zeros 2048 (lit< tt) d)

zeros_samples : samples_in (replicate 2048 zero_f) (replicate 2048 zero_f) 0 ≡ replicate 2048 silence
unfolding samples_in
zeros_samples = newest_same 2048 silence (λ d k. sample_zeros 2048 (lit< tt) d)

pub returns : goal.returns
unfolding signal_of signal_from unheard
returns c = rw (c.new.ensures, zeros_samples, zeros_held)
