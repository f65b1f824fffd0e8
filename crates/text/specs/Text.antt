-- Texts as bytes, and numbers and bits as text. Definitions only.
use Rattle.std.specs.Prelude.{ℕ, zero, suc, ◌+◌, ◌/◌, ◌%◌, cond, List, [], ◌∷◌, ◌++◌, eqb, ltb, take}
use Prim.Native.Char.{code}
use Prim.Native.String.{String}

-- a text as bytes
unfoldable pub ascii : String → List ℕ
ascii String.[] = []
ascii (String.◌∷◌ c s) = code c ∷ ascii s

-- the character of a digit
unfoldable pub digit : ℕ → ℕ
digit n = 48 + n

-- a number in decimal, of at most k digits
unfoldable pub decimal : ℕ → ℕ → List ℕ
decimal zero n = []
decimal (suc k) n = cond (ltb n 10) (digit n ∷ []) (decimal k (n / 10) ++ (digit (n % 10) ∷ []))

-- the character of a bit
unfoldable pub character_of : ℕ → ℕ
character_of bit = cond (eqb bit 0) 48 49

-- a burst type's name (01, "Slot bits and burst views": 0 none, 1 normal 1, 2 normal 2, 3 extended, 4 sync)
unfoldable pub type_name : ℕ → List ℕ
type_name type =
    cond (eqb type 1) (ascii "normal1")
    (cond (eqb type 2) (ascii "normal2")
    (cond (eqb type 3) (ascii "extended")
    (cond (eqb type 4) (ascii "sync") (ascii "none"))))

-- what a text holds of bytes
unfoldable pub cut : List ℕ → List ℕ
cut bytes = take 2048 bytes

-- bytes without one closing byte c
unfoldable pub trimmed : ℕ → List ℕ → List ℕ
trimmed c [] = []
trimmed c (b ∷ []) = cond (eqb b c) [] (b ∷ [])
trimmed c (b ∷ d ∷ rest) = b ∷ trimmed c (d ∷ rest)
