-- By whether the uplink is behind.
use Rattle.slot_lines.proofs.Both.{lead_hears, catch_up_hears}
use Rattle.slot_lines.proofs.links.hear_links.Goals as goal

pub returns-then-links-eq0 : goal.returns-then-links-eq0
returns-then-links-eq0 c =
    let h = lead_hears c.args.style.form c.args.style.has_bits c.args.links.now _ _ _ _ _ _ _ _ _ _ _ _ _ _ _ _ _ c.if-links-eq0.true (c.lead.ensures _ _ _) in
    record { step = h.0; whole = h.1 }

pub returns-else-links-eq0 : goal.returns-else-links-eq0
returns-else-links-eq0 c =
    let h = catch_up_hears c.args.style.form c.args.style.has_bits c.args.links.now _ _ _ _ _ _ _ _ _ _ _ _ _ _ _ _ _ c.if-links-eq0.false (c.catch_up.ensures _ _ _) in
    record { step = h.0; whole = h.1 }
