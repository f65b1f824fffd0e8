-- There is room, or all of the bytes are kept, and then as `replace_last` has it.
use Rattle.std.proofs.Common.{arith, rules}
use Rattle.lister.specs.Inputs.{input_bytes}
use Rattle.lister.proofs.Pieces.{one_more, whole}
use Rattle.lister.proofs.Input.push.Goals as goal

pub returns-then-self-lt465 : goal.returns-then-self-lt465
unfolding input_bytes
returns-then-self-lt465 c = one_more c.args.self.now.bytes c.args.self.now.len c.args.b (search rules)

pub returns-else-self-lt465 : goal.returns-else-self-lt465
unfolding input_bytes
returns-else-self-lt465 c = whole c.args.self.now.bytes _ c.args.self.now.len c.args.b (omega arith) (omega arith) c.replace_last.ensures
