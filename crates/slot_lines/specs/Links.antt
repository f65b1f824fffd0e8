-- What a downlink prints and the uplink beside it, which follows it, on one axis of counters. Definitions only.
use Rattle.std.specs.Prelude.{ℕ, zero, suc, ◌-◌, Bool, true, false, not, ◌&&◌, ◌||◌, List, [], ◌∷◌, ◌++◌, take, drop, ℤ, pos, ◌+ℤ◌, Float, is_some}
use Rattle.std.specs.Int.Signed.{lt_z}
use Rattle.dsp_types.specs.Answers.{end_number}
use Rattle.dsp_types.specs.Times.{fitted}
use Rattle.dsp_types.specs.declared.ComplexSample.{ComplexSample}
use Rattle.slot_receiver.specs.declared.Mode.{Mode}
use Rattle.slot_receiver.specs.declared.Mode.TheVariants.{Idle, DlUnsynchronized, Dl, Ul}
use Rattle.slot_receiver.specs.Receiver.{Receiver}
use Rattle.slot_receiver.specs.Calls.{follow_outcome}
use Rattle.receiver.specs.View.{receiver_of}
use Rattle.slot_text.specs.declared.Form.{Form}
use Rattle.slot_text.specs.declared.Link.TheVariants.{Down, Up}
use Rattle.slot_text.specs.declared.Style.{Style}
use Rattle.slot_lines.specs.declared.links.Links.{Links}
use Rattle.slot_lines.specs.declared.listen.Heard.{Heard}
use Rattle.slot_lines.specs.Blocks.{hear_one, step_of, line_of}

unfoldable pub down_style : Form → Bool → Style
down_style form has_bits = record { form = form; has_bits = has_bits; link = Down }

unfoldable pub up_style : Form → Bool → Style
up_style form has_bits = record { form = form; has_bits = has_bits; link = Up }

-- an uplink receiver beside a downlink one: where that handed a slot over, it is told to follow
unfoldable pub follow_if : Bool → (up down : Receiver) → Receiver
follow_if true up down = (follow_outcome up down).receiver
follow_if false up down = up

-- ---- a receiver that begins to follow keeps the time of its next window where that is still to come: its first slot closes by
-- its old timing, so that its bursts can be those of the next slot (docs/DIFFERENCES.md), and is not printed

unfoldable pub is_uplink : Mode → Bool
is_uplink Idle = false
is_uplink DlUnsynchronized = false
is_uplink Dl = false
is_uplink Ul = true

-- the time of the next window is past for a sample with the counter c, so that it is set anew
unfoldable pub is_past : Receiver → ℤ → Bool
is_past r c = lt_z (fitted (r.clock.slot_ready_time +ℤ pos 16)) c

-- whether the next slot is such a first one: behind an order to follow, where the next sample has the counter c
unfoldable pub begins_if : Bool → Receiver → ℤ → Bool → Bool
begins_if true up c begins = begins || not (is_uplink up.mode || is_past up c)
begins_if false up c begins = begins

-- and behind a sample that may have handed it over
unfoldable pub still_begins : Bool → Bool → Bool
still_begins begins slot = begins && not slot

-- what is shown of what was printed
unfoldable pub shown_of : Bool → List ℕ → List ℕ
shown_of true lines = []
shown_of false lines = lines

-- and whether that is a slot's line
unfoldable pub is_shown : Bool → Bool → Bool
is_shown begins slot = not begins && slot

-- ---- sample by sample

-- samples of both with the counters c, c + 1, ..: at each counter the uplink's line comes first
unfoldable pub both_printed : Form → Bool → (down up : Receiver) → (begins : Bool) → (xs ys : List ComplexSample) → ℤ → List ℕ
both_printed form has_bits down up begins [] ys c = []
both_printed form has_bits down up begins (x ∷ xs) [] c = []
both_printed form has_bits down up begins (x ∷ xs) (y ∷ ys) c =
    let u = hear_one (up_style form has_bits) up y c in
    let d = hear_one (down_style form has_bits) down x c in
    shown_of begins u.lines
    ++ (d.lines
    ++ both_printed form has_bits d.receiver (follow_if d.slot u.receiver d.receiver) (begins_if d.slot u.receiver (c +ℤ pos 1) (still_begins begins u.slot)) xs ys (c +ℤ pos 1))

-- ---- step by step: the downlink leads up to a slot, and the uplink comes after it

-- the uplink's own samples: what they print, the receiver after them, and whether its first slot is still to come
pub record UpPrinted : Type 0 where
  pub lines : List ℕ
  pub receiver : Receiver
  pub begins : Bool

unfoldable pub up_printed : Style → Receiver → Bool → List ComplexSample → ℤ → UpPrinted
up_printed style r begins [] c = record { lines = []; receiver = r; begins = begins }
up_printed style r begins (x ∷ xs) c =
    let p = hear_one style r x c in
    let rest = up_printed style p.receiver (still_begins begins p.slot) xs (c +ℤ pos 1) in
    record { lines = shown_of begins p.lines ++ rest.lines; receiver = rest.receiver; begins = rest.begins }

-- both receivers; so many samples the uplink is behind; whether the last of them handed a slot over; what it printed of the
-- downlink, which waits until then, and whether that is a slot's line
pub record Both : Type 0 where
  pub down : Receiver
  pub up : Receiver
  pub begins : Bool
  pub behind : ℕ
  pub slot : Bool
  pub has_line : Bool
  pub line : List ℕ

-- what is still to be printed
unfoldable pub rest_printed : Form → Bool → Both → (xs ys : List ComplexSample) → ℤ → List ℕ
rest_printed form has_bits b xs ys c =
    let u = up_printed (up_style form has_bits) b.up b.begins (take b.behind ys) c in
    u.lines
    ++ (b.line
    ++ both_printed form has_bits b.down (follow_if b.slot u.receiver b.down) (begins_if b.slot u.receiver (c +ℤ pos b.behind) u.begins) (drop b.behind xs) (drop b.behind ys) (c +ℤ pos b.behind))

-- how many samples both are done with, the refusal of the last that was heard, what is printed and whether that is a slot's line,
-- and both after it
pub record BothStep : Type 0 where
  pub taken : ℕ
  pub refusal : ℕ
  pub line : List ℕ
  pub is_shown : Bool
  pub both : Both

-- the uplink is not behind: it follows where it is told to, and the downlink leads
unfoldable pub lead_step : Form → Bool → Both → List ComplexSample → ℤ → BothStep
lead_step form has_bits b xs c =
    let s = step_of (down_style form has_bits) b.down xs c in
    record {
      taken = 0;
      refusal = s.refusal;
      line = b.line;
      is_shown = b.has_line;
      both =
          record {
            down = s.heard.receiver;
            up = follow_if b.slot b.up b.down;
            begins = begins_if b.slot b.up c b.begins;
            behind = s.taken;
            slot = s.heard.slot;
            has_line = s.heard.slot;
            line = s.heard.lines;
          };
    }

-- the uplink comes after it
unfoldable pub catch_up_step : Form → Bool → Both → List ComplexSample → ℤ → BothStep
catch_up_step form has_bits b ys c =
    let s = step_of (up_style form has_bits) b.up (take b.behind ys) c in
    record {
      taken = s.taken;
      refusal = s.refusal;
      line = shown_of b.begins s.heard.lines;
      is_shown = is_shown b.begins s.heard.slot;
      both = record { down = b.down; up = s.heard.receiver; begins = still_begins b.begins s.heard.slot; behind = b.behind - s.taken; slot = b.slot; has_line = b.has_line; line = b.line };
    }

unfoldable pub step_by : ℕ → Form → Bool → Both → (xs ys : List ComplexSample) → ℤ → BothStep
step_by zero form has_bits b xs ys c = lead_step form has_bits b xs c
step_by (suc n) form has_bits b xs ys c = catch_up_step form has_bits b ys c

unfoldable pub both_step : Form → Bool → Both → (xs ys : List ComplexSample) → ℤ → BothStep
both_step form has_bits b xs ys c = step_by b.behind form has_bits b xs ys c

-- ---- as they are stored, with the rings of both pasts

unfoldable pub both_of : Links → (re im abs up_re up_im up_abs : List Float) → Both
both_of l re im abs up_re up_im up_abs = record { down = receiver_of l.down re im abs; up = receiver_of l.up up_re up_im up_abs; begins = l.begins; behind = l.behind; slot = l.slot; has_line = is_some l.line; line = line_of l.line }

unfoldable pub both_made : Heard → Links → (re im abs up_re up_im up_abs : List Float) → BothStep
both_made h l re im abs up_re up_im up_abs = record { taken = h.taken; refusal = end_number h.refusal; line = line_of h.line; is_shown = is_some h.line; both = both_of l re im abs up_re up_im up_abs }
