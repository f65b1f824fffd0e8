-- Each byte written is the bit that is there, and zeros stand behind them.
use Rattle.std.proofs.Common.{◌≡◌, ◌∙◌, map, length, length-drop, min, ◌-◌, ◌<◌, take, drop, arith, add-one}
use Rattle.std.proofs.lemmas.List.{get_or-take, length-take, length-take-le, length-map}
use Rattle.rx_slot.proofs.Laws.{fill_none, fill_step, bit, bit_at, filled_up}
use Rattle.rx_slot.proofs.take.fill.Goals as goal

pub loop-i-init : goal.loop-i-init
loop-i-init c = fill_none (map bit c.args.bits.now) c.args.out.now

pub loop-i-preserved : goal.loop-i-preserved
loop-i-preserved c =
    let l = c.loop-i in
    let n = c.min-n.result in
    let h : l.i < n = omega (arith, length-take n c.args.bits.now, c.loop-i-test.true) in
    rw (l.invariant, get_or-take n c.args.bits.now l.i 0 h, ← bit_at c.args.bits.now l.i (omega (arith, h)), add-one l.i)
    (fill_step (map bit c.args.bits.now) c.args.out.now l.i (omega (arith, h)))

pub returns : goal.returns
returns c =
    let l = c.loop-i in
    let n = c.min-n.result in
    let front : length (take n c.args.bits.now) ≡ n = length-take n c.args.bits.now ∙ omega arith in
    let all : l.i ≡ n = omega (arith, front) in
    let count : n ≡ min (length (map bit c.args.bits.now)) (length c.args.out.now) = rw length-map (omega arith) in
    let written = rw all at l.invariant in
    let long : length (take (length l.out - n) (drop n l.out)) ≡ length l.out - n =
    length-take-le (length l.out - n) (drop n l.out) (simp length-drop (omega arith)) in
    let zeros = rw long at (c.fill.ensures.after (λ y e. e)) in
    rw zeros (filled_up (map bit c.args.bits.now) c.args.out.now l.out n count written)
