-- Each element makes way for the one behind it.
use Rattle.std.proofs.Common.{◌≡◌, [], ◌∷◌, ◌++◌, ◌-◌, ◌+◌, ◌<◌, suc, length, arith, rules, sym, ◌∙◌}
use lib.ListN.{length-append}
use lib.Seq.{drop-append-le}
use Rattle.fir.proofs.Rows.{newest_out, newest_is, one_down, given_on}
use Rattle.fir.proofs.push.Goals as goal

pub loop-k-init : goal.loop-k-init
loop-k-init c = record {
  line = newest_out c.args.line.now c.args.x (search rules);
  next = newest_is c.args.line.now c.args.x (search rules);
}

pub loop-k-preserved : goal.loop-k-preserved
loop-k-preserved c =
    let row = c.args.line.now ++ (c.args.x ∷ []) in
    let j = 31 - c.loop-k.k in
    let n : length c.args.line.now ≡ 32 = search rules in
    let m : 32 - c.loop-k.k ≡ suc j = omega (arith, c.loop-k-test.true) in
    let w : 32 - (c.loop-k.k + 1) ≡ j = omega (arith, c.loop-k-test.true) in
    let h : suc j < length row = omega (arith, n, length-append c.args.line.now (c.args.x ∷ [])) in
    record {
      line = rw (w, c.loop-k.invariant.line, c.loop-k.invariant.next, m) (one_down row j h);
      next = rw (w, c.loop-k.invariant.line, m) (given_on row j h);
    }

pub returns : goal.returns
returns c =
    let z : 32 - c.loop-k.k ≡ 0 = omega arith in
    let n : length c.args.line.now ≡ 32 = search rules in
    c.loop-k.invariant.line ∙ rw z (drop-append-le 1 c.args.line.now (c.args.x ∷ []) (omega (arith, n)))
