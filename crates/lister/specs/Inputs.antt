-- What is kept of an input that comes in pieces. Definitions only.
use Rattle.std.specs.Prelude.{ℕ, List, take}
use Rattle.lister.specs.declared.Input.{Input}

-- its bytes
unfoldable pub input_bytes : Input → List ℕ
input_bytes i = take i.len i.bytes
