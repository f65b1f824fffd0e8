-- Three rows, one behind the other.
use Rattle.std.proofs.Common.{◌≡◌, ℕ, length, replicate, arith}
use Rattle.std.proofs.lemmas.List.{length-replicate}
use Rattle.account.proofs.Rows.{copied, copied_within, three}
use Rattle.account.proofs.call.joined.Goals as goal

pub slice_bounds-all-end-3 : goal.slice_bounds-all-end-3
slice_bounds-all-end-3 c =
    let zeros = length-replicate {A = ℕ} 3072 0 in
    copied_within 3072 1024 1024 _ _ _
    (copied_within 3072 0 1024 (replicate 3072 0) _ _ (omega (arith, zeros)) (omega arith) c.copy_from_slice.ensures.after (omega arith))
    (omega arith)
    c.copy_from_slice-2.ensures.after
    (omega arith)

pub returns : goal.returns
returns c =
    let a : length c.args.a.now ≡ 1024 = omega arith in
    let b : length c.args.b.now ≡ 1024 = omega arith in
    let d : length c.args.c.now ≡ 1024 = omega arith in
    three (replicate 3072 0) c.args.a.now c.args.b.now c.args.c.now _ _ _ (length-replicate {A = ℕ} 3072 0) a b d
    (copied 0 1024 _ _ _ c.copy_from_slice.ensures.after (omega arith))
    (copied 1024 1024 _ _ _ c.copy_from_slice-2.ensures.after (omega arith))
    (copied 2048 1024 _ _ _ c.copy_from_slice-3.ensures.after (omega arith))
