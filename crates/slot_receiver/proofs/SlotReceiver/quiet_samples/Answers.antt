-- Test by test: behind them all, the numbers are so small that neither the sum nor the difference leaves its range.
use Rattle.std.proofs.Common.{rules, w64, to_z-of_z, FitsSigned, ◌≡◌, sym, ◌∙◌, true, false, ◌||◌, ◌^◌, ℤ, pos, negsuc, lit≤, arith}
use Rattle.std.specs.Int.Signed.{lt_z}
use Rattle.slot_receiver.specs.Quiet.{stands, until_close, last_quiet}
use Rattle.slot_receiver.specs.Bounds.{Within}
use Rattle.slot_receiver.specs.View.{clock_of}
use Rattle.slot_receiver.proofs.Signed.{read, minus_is, wider, within_pos, within_sum, plus_few}
use Rattle.slot_receiver.proofs.Keeping.{Between, between, stands_as, quiet_invalid, quiet_late, quiet_none, quiet_some}
use Rattle.slot_receiver.proofs.SlotReceiver.quiet_samples.Goals as goal
use Rattle.slot_receiver.proofs.SlotReceiver.quiet_samples.Goals.{Else-not-stands, Else-is_outside, After-since-left}

-- behind the first test
standing : (c : Else-not-stands) → stands (clock_of c.args.self.now) c.args.self.now.slots_since_last_valid_burst ≡ true
standing c = sym c.stands.ensures ∙ c.if-not-stands.false

-- ... and behind the second
in_count : (c : Else-is_outside) → (lt_z c.args.counter.0 (pos 0) || lt_z (pos last_quiet) c.args.counter.0) ≡ false
in_count c =
    let f : FitsSigned w64 c.args.counter.0 = search rules in
    rw (to_z-of_z f) at (sym c.is_outside.ensures ∙ c.if-is_outside.false)

counter_within : (c : Else-is_outside) → Within (2 ^ 61) c.args.counter.0
counter_within c = go c.args.counter.0 (between (pos 0) c.args.counter.0 (pos last_quiet) (in_count c))
  where
    go : (z : ℤ) → Between (pos 0) z (pos last_quiet) → Within (2 ^ 61) z
    go (pos n) h = record { high = omega (arith, h.most); low = omega arith }
    go (negsuc n) h = absurd (omega (arith, h.least))

-- how many samples are left before the window closes
left : (c : After-since-left) → stands (clock_of c.args.self.now) c.args.self.now.slots_since_last_valid_burst ≡ true → Within (2 ^ 61) c.args.counter.0
    → c.since-left.result ≡ until_close (clock_of c.args.self.now) c.args.counter.0
unfolding until_close
left c s n =
    let w = (stands_as (clock_of c.args.self.now) _ s).ready in
    let r = within_sum _ _ w (within_pos {n = 16} 16 (lit≤ tt)) in
    rw (c.since-left.ensures, c.plus.ensures, plus_few 16 (lit≤ tt) (lit≤ tt) w)
    (minus_is (wider (2 ^ 61) (lit≤ tt) r) n)

pub returns-then-not-stands : goal.returns-then-not-stands
returns-then-not-stands c = quiet_invalid (clock_of c.args.self.now) _ _ (sym c.stands.ensures ∙ c.if-not-stands.true)

pub returns-then-is_outside : goal.returns-then-is_outside
returns-then-is_outside c =
    let f : FitsSigned w64 c.args.counter.0 = search rules in
    quiet_late (clock_of c.args.self.now) _ c.args.counter.0 (standing (goal.at.returns-then-is_outside c).Else-not-stands) (rw (to_z-of_z f) at (sym c.is_outside.ensures ∙ c.if-is_outside.true))

pub returns-then-is_outside-2 : goal.returns-then-is_outside-2
returns-then-is_outside-2 c =
    let k = goal.at.returns-then-is_outside-2 c in
    let s = standing k.Else-not-stands in
    let l = left k.After-since-left s (counter_within k.Else-is_outside) in
    quiet_none (clock_of c.args.self.now) _ c.args.counter.0 s (in_count k.Else-is_outside) (rw (read _ c.since-left.type_inv, l) at (sym c.is_outside-2.ensures ∙ c.if-is_outside-2.true))

pub returns : goal.returns
returns c =
    let k = goal.at.returns c in
    let s = standing k.Else-not-stands in
    let l = left k.After-since-left s (counter_within k.Else-is_outside) in
    rw (c.unsigned.ensures, read _ c.since-left.type_inv, l)
    (quiet_some (clock_of c.args.self.now) _ c.args.counter.0 s (in_count k.Else-is_outside) (rw (read _ c.since-left.type_inv, l) at (sym c.is_outside-2.ensures ∙ c.if-is_outside-2.false)))
