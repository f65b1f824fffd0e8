-- So many characters are made.
use Rattle.std.proofs.Common.{◌≡◌, length, take, map}
use Rattle.text.specs.Text.{character_of}
use Rattle.text.proofs.Text.bits.Given as goal

abbrev pub invariant-loop-i : goal.invariant-loop-i
invariant-loop-i l = (length l.characters ≡ 2048) × (take l.i l.characters ≡ take l.i (map character_of l.bits))
