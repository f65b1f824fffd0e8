-- By `get_burst` and `fill`: the view of the stored burst is the one tested.
use Rattle.std.proofs.Common.{sym, ap, ◌∙◌, length}
use Rattle.rx_slot.specs.Views.{BurstView, no_view, burst_shown, padded}
use Rattle.rx_slot.proofs.Laws.{view_found, view_none, told_found}
use Rattle.rx_slot.proofs.take.take_burst.Goals as goal

pub returns-then-is_found-clause-told : goal.returns-then-is_found-clause-told
returns-then-is_found-clause-told c =
    told_found c.args.burst c.args.bits.now c.get_burst-part.result.now c.get_burst-part.ensures (sym c.is_found.ensures ∙ c.if-is_found.true)

pub returns-then-is_found-clause-bytes : goal.returns-then-is_found-clause-bytes
returns-then-is_found-clause-bytes c =
    let v = view_found c.args.burst c.args.bits.now c.get_burst-part.result.now c.get_burst-part.ensures (sym c.is_found.ensures ∙ c.if-is_found.true) in
    c.fill.ensures ∙ ap (λ (v : BurstView). padded (length c.args.out.now) v.bits) (sym v)

pub returns-clause-told : goal.returns-clause-told
returns-clause-told c =
    let v = view_none c.args.burst c.args.bits.now c.get_burst-part.result.now c.get_burst-part.ensures (sym c.is_found.ensures ∙ c.if-is_found.false) in
    c.no_burst.ensures ∙ ap burst_shown (sym v)

pub returns-clause-bytes : goal.returns-clause-bytes
unfolding no_view
returns-clause-bytes c =
    let v = view_none c.args.burst c.args.bits.now c.get_burst-part.result.now c.get_burst-part.ensures (sym c.is_found.ensures ∙ c.if-is_found.false) in
    c.fill-2.ensures ∙ ap (λ (v : BurstView). padded (length c.args.out.now) v.bits) (sym v)
