-- The text is what stands before, and the copy; the zeros behind it are those that stood there.
use Rattle.std.proofs.Common.{◌≡◌, ◌+◌, List, ℕ, ◌++◌, length, take, ap, ◌∙◌, arith, rules, length-take-le}
use Rattle.std.proofs.lemmas.Slice.{take-put_mid, drop-put_mid}
use Rattle.std.proofs.lemmas.Grind.{common_steps}
use Rattle.text.proofs.Pieces.{appended, zeros_behind}
use Rattle.text.proofs.Text.append.Goals as goal

-- so many bytes are copied
copied : (c : goal.After-slice_known-1) → (c.copy_from_slice.new.self ≡ take c.min-count.result c.args.s.now) × (length c.copy_from_slice.new.self ≡ c.min-count.result)
copied c =
    let count = c.min-count.result in
    let e : c.copy_from_slice.new.self ≡ take count c.args.s.now = grind (arith, common_steps, c.copy_from_slice.ensures.after) in
    (e, rw e (length-take-le count c.args.s.now (omega arith)))

pub invariant_of-self : goal.invariant_of-self
invariant_of-self c =
    let t = c.self.inside in
    let i = c.self.invariant in
    let count = c.min-count.result in
    let long = (copied c).1 in (
      search rules,
      (omega arith, zeros_behind t.bytes t.len count i.1.1 (drop-put_mid t.len _ t.bytes c.copy_from_slice.new.self (t.len + count) (omega arith) (omega (arith, i)) (omega (arith, long)))),
    )

pub returns : goal.returns
returns c =
    let t = c.self.inside in
    let i = c.self.invariant in
    let count = c.min-count.result in
    let k = copied c in
    appended t.bytes c.args.s.now t.len count (omega (arith, i)) c.min-count.ensures i.1.0 c.self.view_is
    (take-put_mid t.len _ t.bytes c.copy_from_slice.new.self (t.len + count) (omega (arith, k.1)) (omega (arith, i)) ∙ ap (λ (l : List ℕ). take t.len t.bytes ++ l) k.0)
