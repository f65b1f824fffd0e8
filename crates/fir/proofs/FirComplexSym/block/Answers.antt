-- Both parts take as many samples as all four slices have.
use Rattle.std.proofs.Common.{◌≡◌, ◌∙◌, ap, min, length, List, arith, rules}
use lib.Ieee.{Float}
use Rattle.fir.specs.Fir.{line_of, start_with}
use Rattle.fir.proofs.Blocks.{left_line, left_re, left_im}
use Rattle.fir.proofs.FirComplexSym.block.Goals as goal

pub returns-clause-line : goal.returns-clause-line
unfolding line_of
returns-clause-line c =
    let a = c.args in
    let n = c.min-n.result in
    let v : length a.self.now.re ≡ 32 = search rules in
    let w : length a.self.now.im ≡ 32 = search rules in
    let count : n ≡ min (min (length a.re.now) (length a.im.now)) (min 1024 (min (length a.out_re.now) (length a.out_im.now))) = omega arith in
    left_line a.self.now a.re.now a.im.now a.out_re.now a.out_im.now n v w count c.block_part.new.line c.block_part-2.new.line c.block_part.ensures.line_after c.block_part-2.ensures.line_after

pub returns-clause-outs_re : goal.returns-clause-outs_re
returns-clause-outs_re c =
    let a = c.args in
    let n = c.min-n.result in
    let v : length a.self.now.re ≡ 32 = search rules in
    let w : length a.self.now.im ≡ 32 = search rules in
    let count : n ≡ min (min (length a.re.now) (length a.im.now)) (min 1024 (min (length a.out_re.now) (length a.out_im.now))) = omega arith in
    c.block_part.ensures.out_after ∙ ap (λ (l : List Float). start_with l a.out_re.now) (left_re a.self.now a.re.now a.im.now a.out_re.now a.out_im.now n v w count)

pub returns-clause-outs_im : goal.returns-clause-outs_im
returns-clause-outs_im c =
    let a = c.args in
    let n = c.min-n.result in
    let v : length a.self.now.re ≡ 32 = search rules in
    let w : length a.self.now.im ≡ 32 = search rules in
    let count : n ≡ min (min (length a.re.now) (length a.im.now)) (min 1024 (min (length a.out_re.now) (length a.out_im.now))) = omega arith in
    c.block_part-2.ensures.out_after ∙ ap (λ (l : List Float). start_with l a.out_im.now) (left_im a.self.now a.re.now a.im.now a.out_re.now a.out_im.now n v w count)
