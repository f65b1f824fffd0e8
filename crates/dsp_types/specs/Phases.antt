-- Bits as bytes, and symbol phases in eighths of a turn (01, "Burst bits"; EN 300 392-2, clause 5.4), which the builders sum up and the sender's mapper steps by. Definitions only.
use Rattle.std.specs.Prelude.{ℕ, zero, suc, ◌-◌, ◌%◌, Bool, true, false, ℤ, pos, negsuc}

-- a bit as a bit byte (01, "Refusals", 4)
abbrev pub bit_of : Bool → ℕ
bit_of true = 1
bit_of false = 0

-- the phase of the symbol of two bits (01, "Burst bits"): 00 +1, 01 +3, 10 −1, 11 −3. `negsuc n` is −1 − n
unfoldable pub phase_of : ℕ → ℕ → ℤ
phase_of zero zero = pos 1
phase_of zero (suc b) = pos 3
phase_of (suc a) zero = negsuc 0
phase_of (suc a) (suc b) = negsuc 2

-- a number of eighths modulo 8 (01, "Burst bits", "The sender")
unfoldable pub modulo8 : ℤ → ℕ
modulo8 (pos n) = n % 8
modulo8 (negsuc n) = 7 - n % 8
