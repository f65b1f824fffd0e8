-- What was found, or is found from here on, is found in all.
use Rattle.std.proofs.Common.{◌≡◌, ◌||◌, drop}
use Rattle.block_text.specs.BlockText.{not_characters}
use Rattle.block_text.proofs.not_characters.Given as goal

abbrev pub invariant-loop-c : goal.invariant-loop-c
invariant-loop-c l = not_characters l.characters ≡ (l.found || not_characters (drop l.c-index l.characters))
