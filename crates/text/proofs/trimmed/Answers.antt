-- By the last byte.
use Rattle.std.proofs.Common.{ap, ◌∙◌, List, ℕ, Bor}
use Rattle.text.proofs.Trimming.{strip_is}
use Rattle.text.proofs.trimmed.Goals as goal

pub returns : goal.returns
returns c = ap (λ (r : Bor (List ℕ)). r.now) c.unwrap_or.ensures ∙ strip_is c.args.c c.args.bytes c.strip_suffix.result c.strip_suffix.ensures.cases
