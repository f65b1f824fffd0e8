-- The leaves' equations, at the windows in use.
use Rattle.std.proofs.Common.{◌∙◌}
use Rattle.listener.specs.View.{start_of, symbols_of}
use Rattle.listener.proofs.ReadBits.{timed, decided, starts_within, symbols_within}
use Rattle.listener.proofs.window.Past.read_window.Goals as goal

pub returns : goal.returns
returns c inputs =
    let a = c.args in
    let d = start_of a.window in
    let n = symbols_of a.window in
    let e = c.estimate_timing-timing in
    let t = rw (c.start-start.ensures, c.symbols-symbols.ensures) at e.ensures in
    let timing = t ∙ timed inputs a.self.re.now a.self.im.now a.self.abs.now a.self.index d n (starts_within a.window) (symbols_within a.window) in
    let b = rw (c.start-start.ensures, c.symbols-symbols.ensures) at c.slot_bits.ensures in
    record {
      timing = timing;
      bits =
          decided inputs a.self.re.now a.self.im.now a.self.abs.now a.self.index d n (starts_within a.window) (symbols_within a.window) _ _ _ _ timing c.whole-whole.ensures
          c.fract-fract.ensures b;
    }
