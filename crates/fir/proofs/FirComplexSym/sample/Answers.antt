-- Both parts are shifted, and filtered as they then stand.
use Rattle.std.proofs.Common.{◌≡◌, ◌∙◌, length, rules}
use Rattle.fir.specs.Fir.{line_of, filter_of}
use Rattle.fir.proofs.Rows.{rows_line, rows_out}
use Rattle.fir.proofs.FirComplexSym.sample.Goals as goal

pub returns-clause-out : goal.returns-clause-out
unfolding line_of filter_of
returns-clause-out c =
    let line = c.args.self.now in
    let v : length line.re ≡ 32 = search rules in
    let w : length line.im ≡ 32 = search rules in
    (λ i. record { re = c.filter_part.ensures i; im = c.filter_part-2.ensures i })
    ∙ rw (c.push.ensures, c.push-2.ensures) (rows_out line.re line.im c.args.in_ v w)

pub returns-clause-line : goal.returns-clause-line
unfolding line_of
returns-clause-line c =
    let line = c.args.self.now in
    let v : length line.re ≡ 32 = search rules in
    let w : length line.im ≡ 32 = search rules in
    rw (c.push.ensures, c.push-2.ensures) (rows_line line.re line.im c.args.in_ v w)
