-- The table as a whole: each row's definition computes to what 01 states.
use mathlib.Core.Path.{◌≡◌, refl}
use mathlib.Core.List.{map}
use Rattle.dsp_types.specs.Refusals.{wrong_length, not_bits}
use lib.Ieee.{of_int}
use Rattle.magnitude.specs.Magnitude.{magnitude_of}
use Rattle.timing.specs.Turns.{quarter_turns}
use Rattle.train_consts.specs.Training.{normal1, normal2, normal3, synchronization, frequency_correction}
use Rattle.dsp_types.specs.Phases.{phase_of, modulo8}
use Rattle.slotter.specs.Phases.{phase_sum, cancels, adjustment}
use Rattle.slotter.specs.Bursts.{sync_fields, normal_fields, training_of, first_window, last_window, downlink, length_or_bit, block_refusal, training_refusal, burst_unless, sync_burst, normal_burst}
use Rattle.figures.specs.Figures.{burst, f32, computed, stated, figures}

pub table : map computed figures ≡ map stated figures
unfolding wrong_length not_bits normal1 normal2 normal3 synchronization frequency_correction phase_of phase_sum modulo8 cancels adjustment sync_fields normal_fields training_of first_window last_window downlink length_or_bit block_refusal training_refusal burst_unless sync_burst normal_burst burst f32 magnitude_of quarter_turns of_int computed stated figures
table = refl
