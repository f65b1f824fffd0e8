-- 01's example, "Checked figures": S and 366 zeros. The definition computes to the whole output.
use mathlib.Core.Path.{◌≡◌, refl}
use mathlib.Core.List.{◌∷◌}
use lib.ListN.{replicate}
use Rattle.dsp_types.specs.Refusals.{wrong_length, not_bits}
use Rattle.train_consts.specs.Training.{normal3, synchronization, frequency_correction}
use Rattle.dsp_types.specs.Phases.{phase_of, modulo8}
use Rattle.slotter.specs.Phases.{phase_sum, cancels, adjustment}
use Rattle.slotter.specs.Bursts.{sync_fields, first_window, last_window, downlink, length_or_bit, block_refusal, burst_unless, sync_burst}
use Rattle.text.specs.Text.{ascii, digit, decimal, character_of, type_name, trimmed}
use Rattle.block_text.specs.BlockText.{letter_type, wanted, not_character, not_characters, wrong_count, characters_refusal, character_bit, burst_of, answer_of}
use Rattle.lister.specs.Listing.{signed_decimal, refusal_line, burst_lines, listed_answer, listed, listing}

pub example : listing (83 ∷ replicate 366 48) ≡ ascii "kind=sync\nsum_first=65\nadj_first=10\nsum_last=127\nadj_last=00\n"
unfolding wrong_length not_bits normal3 synchronization frequency_correction phase_of phase_sum modulo8 cancels adjustment sync_fields first_window last_window downlink length_or_bit block_refusal burst_unless sync_burst ascii trimmed letter_type wanted not_character not_characters wrong_count characters_refusal character_bit burst_of answer_of digit decimal signed_decimal type_name character_of refusal_line burst_lines listed_answer listed listing
example = refl
