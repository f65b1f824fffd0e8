-- Filter, magnitude and rings, each by its own equation.
use Rattle.std.proofs.Common.{◌∙◌, sym}
use Rattle.fir.specs.Fir.{line_of}
use Rattle.listener.specs.View.{signal_of}
use Rattle.listener.proofs.Hearing.{heard}
use Rattle.listener.proofs.Listener.listen.Goals as goal

pub returns : goal.returns
unfolding signal_of
returns c =
    let a = c.args in
    let l = a.self.now in
    let f = c.sample-out in
    heard
    (line_of l.matched_filter)
    (line_of f.new.self)
    a.re.now
    a.im.now
    a.abs.now
    _
    _
    _
    l.past_index
    _
    _
    _
    a.input
    f.result
    c.magnitude.result
    f.ensures.line
    f.ensures.out
    c.magnitude.ensures
    c.store-self.ensures.held
    c.store-self-2.ensures.held
    c.store-self-3.ensures.held
    (c.store-self.ensures.index ∙ sym c.store-self-3.ensures.index)
    (c.store-self-2.ensures.index ∙ sym c.store-self-3.ensures.index)
