-- A step of both links prints the first of what both print, and what is left prints the rest. Assumes nothing.
use Prim.Native.Nat.{ℕ, zero, suc, ◌+◌, ◌*◌, ◌-◌, ◌/◌, ◌<◌, ◌≤◌, min}
use mathlib.Core.Path.{◌≡◌, refl, sym, ap, ◌∙◌}
use mathlib.Core.Bool.{Bool, true, false, not}
use mathlib.Core.List.{List, [], ◌∷◌, ◌++◌, append_assoc, append-nil}
use native.Mathlib.Omega.{arith}
use lib.IntN.{ℤ, pos, ◌+ℤ◌, +ℤ_idr}
use lib.ListN.{length, take, drop, length-take}
use lib.Seq.{drop-drop, take-nil, take_all}
use Rattle.dsp_types.proofs.RingLaws.{le_or_lt}
use mathlib.Core.Logic.{⊎_elim}
use native.Mathlib.Nat.{min-eq_left}
use lib.Ieee.{Float}
use Rattle.dsp_types.specs.declared.ComplexSample.{ComplexSample}
use Rattle.dsp_types.proofs.IntLaws.{sum, same}
use Rattle.dsp_types.proofs.Laws.{drop_take}
use Rattle.slot_receiver.specs.Receiver.{Receiver}
use Rattle.receiver.specs.Feed.{interleaved, feed_of}
use Rattle.slot_text.specs.declared.Form.{Form}
use Rattle.slot_text.specs.declared.Style.{Style}
use Rattle.slot_lines.specs.Blocks.{line_of, hear_one, Step, stretch_of, stretch_by, mended_by, step_of}
use Rattle.slot_lines.specs.Links.{down_style, up_style, follow_if, begins_if, still_begins, shown_of, is_shown, UpPrinted, up_printed, both_printed, Both, rest_printed, BothStep, lead_step, catch_up_step, step_by, both_step, both_of, both_made}
use Rattle.slot_lines.specs.declared.links.Links.{Links}
use Rattle.slot_lines.specs.declared.listen.Heard.{Heard}
use Rattle.slot_lines.proofs.Steps.{counts, First, on, ends, first, step_goes, samples_count}

counts_both : (c : ℤ) (t n : ℕ) → t ≤ n → (c +ℤ pos t) +ℤ pos (n - t) ≡ c +ℤ pos n
counts_both c t n h = same ((c +ℤ pos t) +ℤ pos (n - t)) (c +ℤ pos n) (omega (arith, sum (c +ℤ pos t) (pos (n - t)), sum c (pos t), sum c (pos n)))

-- ---- the uplink's own samples

shown_none : (begins : Bool) → shown_of begins [] ≡ []
unfolding shown_of
shown_none true = refl
shown_none false = refl

still_none : (begins : Bool) → still_begins begins false ≡ begins
unfolding still_begins
still_none true = refl
still_none false = refl

-- a step, and what the samples behind it print
abbrev up_from : Style → Bool → Step → List ComplexSample → ℤ → UpPrinted
up_from style begins s xs c =
    let rest = up_printed style s.heard.receiver (still_begins begins s.heard.slot) (drop s.taken xs) (c +ℤ pos s.taken) in
    record { lines = shown_of begins s.heard.lines ++ rest.lines; receiver = rest.receiver; begins = rest.begins }

up_whole : (style : Style) (r : Receiver) (begins : Bool) (xs : List ComplexSample) (c : ℤ) → up_printed style r begins xs c ≡ up_from style begins (step_of style r xs c) xs c
unfolding up_printed step_of stretch_of stretch_by mended_by feed_of
up_whole style r begins [] c = rw (shown_none begins, still_none begins)
up_whole style r begins (x ∷ xs) c = go (first style r x xs c) (λ after. up_whole style after begins xs (c +ℤ pos 1))
  where
    go : First style r x xs c → ((after : Receiver) → up_printed style after begins xs (c +ℤ pos 1) ≡ up_from style begins (step_of style after xs (c +ℤ pos 1)) xs (c +ℤ pos 1))
        → up_printed style r begins (x ∷ xs) c ≡ up_from style begins (step_of style r (x ∷ xs) c) (x ∷ xs) c
    go (on after h s) others = rw (h, s, shown_none begins, still_none begins, ← counts c (step_of style after xs (c +ℤ pos 1)).taken) (others after)
    go (ends n s) others = rw s

module _ (form : Form) (has_bits : Bool) where
  -- both, where the downlink has made this step and the uplink is before it
  abbrev led : Receiver → Bool → Step → Both
  led up begins s = record { down = s.heard.receiver; up = up; begins = begins; behind = s.taken; slot = s.heard.slot; has_line = s.heard.slot; line = s.heard.lines }

  one_led : (down up : Receiver) (begins : Bool) (x y : ComplexSample) (xs ys : List ComplexSample) (c : ℤ)
      → ((after up : Receiver) (begins : Bool) → both_printed form has_bits after up begins xs ys (c +ℤ pos 1) ≡ rest_printed form has_bits (led up begins (step_of (down_style form has_bits) after xs (c +ℤ pos 1))) xs ys (c +ℤ pos 1))
      → First (down_style form has_bits) down x xs c
      → both_printed form has_bits down up begins (x ∷ xs) (y ∷ ys) c ≡ rest_printed form has_bits (led up begins (step_of (down_style form has_bits) down (x ∷ xs) c)) (x ∷ xs) (y ∷ ys) c
  unfolding both_printed rest_printed up_printed follow_if begins_if
  one_led down up begins x y xs ys c others (on after h s) =
      let u = hear_one (up_style form has_bits) up y c in
      let t = step_of (down_style form has_bits) after xs (c +ℤ pos 1) in
      rw (h, s, ← counts c t.taken, append_assoc (shown_of begins u.lines)) (ap (λ (l : List ℕ). shown_of begins u.lines ++ l) (others after u.receiver (still_begins begins u.slot)))
  one_led down up begins x y xs ys c others (ends n s) = rw (s, append-nil)

  -- the downlink leads
  both_led : (down up : Receiver) (begins : Bool) (xs ys : List ComplexSample) (c : ℤ) → length xs ≡ length ys
      → both_printed form has_bits down up begins xs ys c ≡ rest_printed form has_bits (led up begins (step_of (down_style form has_bits) down xs c)) xs ys c
  unfolding both_printed rest_printed up_printed step_of stretch_of stretch_by mended_by feed_of
  both_led down up begins [] ys c e = refl
  both_led down up begins (x ∷ xs) [] c e = absurd (omega arith)
  both_led down up begins (x ∷ xs) (y ∷ ys) c e =
      one_led down up begins x y xs ys c (λ after up begins. both_led after up begins xs ys (c +ℤ pos 1) (omega arith)) (first (down_style form has_bits) down x xs c)

  led_whole : (down up : Receiver) (begins : Bool) (slot has_line : Bool) (line : List ℕ) (xs ys : List ComplexSample) (c : ℤ) → length xs ≡ length ys
      → let b : Both = record { down = down; up = up; begins = begins; behind = 0; slot = slot; has_line = has_line; line = line } in let s = lead_step form has_bits b xs c in
      rest_printed form has_bits b xs ys c ≡ line ++ rest_printed form has_bits s.both xs ys (c +ℤ pos 0)
  unfolding lead_step rest_printed up_printed
  led_whole down up begins slot has_line line xs ys c e = rw (+ℤ_idr c) (ap (λ (l : List ℕ). line ++ l) (both_led down (follow_if slot up down) (begins_if slot up c begins) xs ys c e))

  -- the uplink comes after it: a step of its own, which is what it prints first
  caught_up : (down up : Receiver) (begins : Bool) (n : ℕ) (slot has_line : Bool) (line : List ℕ) (xs ys : List ComplexSample) (c : ℤ) (s : Step)
      → up_printed (up_style form has_bits) up begins (take n ys) c ≡ up_from (up_style form has_bits) begins s (take n ys) c → s.taken ≤ n
      → rest_printed form has_bits (record { down = down; up = up; begins = begins; behind = n; slot = slot; has_line = has_line; line = line }) xs ys c
      ≡ shown_of begins s.heard.lines
      ++ rest_printed form has_bits (record { down = down; up = s.heard.receiver; begins = still_begins begins s.heard.slot; behind = n - s.taken; slot = slot; has_line = has_line; line = line }) (drop s.taken xs) (drop s.taken ys) (c +ℤ pos s.taken)
  unfolding rest_printed
  caught_up down up begins n slot has_line line xs ys c s e h =
      let t = s.taken in
      let w : t + (n - t) ≡ n = omega arith in
      rw (
        e,
        append_assoc (shown_of begins s.heard.lines),
        drop_take t n ys h,
        drop-drop (n - t) t xs,
        drop-drop (n - t) t ys,
        w,
        counts_both c t n h,
      )

  step_whole_both : (down up : Receiver) (begins : Bool) (n : ℕ) (slot has_line : Bool) (line : List ℕ) (xs ys : List ComplexSample) (c : ℤ) → length xs ≡ length ys
      → let b : Both = record { down = down; up = up; begins = begins; behind = n; slot = slot; has_line = has_line; line = line } in let s = both_step form has_bits b xs ys c in
      rest_printed form has_bits b xs ys c ≡ s.line ++ rest_printed form has_bits s.both (drop s.taken xs) (drop s.taken ys) (c +ℤ pos s.taken)
  unfolding both_step step_by lead_step catch_up_step
  step_whole_both down up begins zero slot has_line line xs ys c e = led_whole down up begins slot has_line line xs ys c e
  step_whole_both down up begins (suc n) slot has_line line xs ys c e =
      caught_up down up begins (suc n) slot has_line line xs ys c (step_of (up_style form has_bits) up (take (suc n) ys) c) (up_whole (up_style form has_bits) up begins (take (suc n) ys) c)
      (omega (arith, (step_goes (up_style form has_bits) up (take (suc n) ys) c).0, length-take (suc n) ys))

-- the first n of parts' samples
two_each : (k : ℕ) (parts : List Float) → interleaved (take (2 * k) parts) ≡ take k (interleaved parts)
unfolding interleaved
two_each zero parts = refl
two_each (suc k) [] = rw (take-nil (2 * suc k))
two_each (suc k) (x ∷ []) = rw (take_all (2 * suc k) (x ∷ []) (omega arith))
two_each (suc k) (x ∷ y ∷ parts) =
    let w : 2 * suc k ≡ suc (suc (2 * k)) = omega arith in
    rw w (ap (λ (l : List ComplexSample). record { re = x; im = y } ∷ l) (two_each k parts))

pub first_few : (n : ℕ) (parts : List Float) {k : ℕ} → k ≡ min n (length parts / 2) → interleaved (take (2 * k) parts) ≡ take n (interleaved parts)
first_few n parts {k} e =
    two_each k parts ∙ rw e
    (⊎_elim
    (λ (h : n ≤ length parts / 2). rw (min-eq_left h))
    (λ (h : length parts / 2 < n).
    let m = length parts / 2 in
    let w : min n m ≡ m = omega arith in
    rw w (take_all m (interleaved parts) (omega (arith, samples_count parts)) ∙ sym (take_all n (interleaved parts) (omega (arith, samples_count parts)))))
    (le_or_lt n (length parts / 2)))

-- what is made as a step of both: what is left prints the rest
both_hears : (form : Form) (has_bits : Bool) (b : Both) (xs ys : List ComplexSample) (c : ℤ) {s : BothStep} → s ≡ both_step form has_bits b xs ys c
    → (s ≡ both_step form has_bits b xs ys c)
    × (length xs ≡ length ys → rest_printed form has_bits b xs ys c ≡ s.line ++ rest_printed form has_bits s.both (drop s.taken xs) (drop s.taken ys) (c +ℤ pos s.taken))
both_hears form has_bits b xs ys c e = (e, λ l. rw e (step_whole_both form has_bits b.down b.up b.begins b.behind b.slot b.has_line b.line xs ys c l))

-- which step it is
leads : (form : Form) (has_bits : Bool) (b : Both) (xs ys : List ComplexSample) (c : ℤ) → b.behind ≡ 0 → lead_step form has_bits b xs c ≡ both_step form has_bits b xs ys c
unfolding both_step step_by
leads form has_bits b xs ys c e = go b.behind e
  where
    go : (n : ℕ) → n ≡ 0 → lead_step form has_bits b xs c ≡ step_by n form has_bits b xs ys c
    go zero e = refl
    go (suc n) e = absurd (omega arith)

catches_up : (form : Form) (has_bits : Bool) (b : Both) (xs ys : List ComplexSample) (c : ℤ) → (b.behind ≡ 0 → ⊥) → catch_up_step form has_bits b ys c ≡ both_step form has_bits b xs ys c
unfolding both_step step_by
catches_up form has_bits b xs ys c e = go b.behind e
  where
    go : (n : ℕ) → (n ≡ 0 → ⊥) → catch_up_step form has_bits b ys c ≡ step_by n form has_bits b xs ys c
    go zero e = absurd (e refl)
    go (suc n) e = refl

-- of what is stored, and made of it by a step of either link
module _ (form : Form) (has_bits : Bool) (l : Links) (re im abs up_re up_im up_abs : List Float) (xs ys : List ComplexSample) (c : ℤ) (h : Heard) (m : Links) (re₁ im₁ abs₁ up_re₁ up_im₁ up_abs₁ : List Float) where
  abbrev Hears : Type 0
  Hears =
      (both_made h m re₁ im₁ abs₁ up_re₁ up_im₁ up_abs₁ ≡ both_step form has_bits (both_of l re im abs up_re up_im up_abs) xs ys c)
      × (length xs ≡ length ys
      → rest_printed form has_bits (both_of l re im abs up_re up_im up_abs) xs ys c
      ≡ line_of h.line ++ rest_printed form has_bits (both_of m re₁ im₁ abs₁ up_re₁ up_im₁ up_abs₁) (drop h.taken xs) (drop h.taken ys) (c +ℤ pos h.taken))

  pub lead_hears : l.behind ≡ 0 → both_made h m re₁ im₁ abs₁ up_re₁ up_im₁ up_abs₁ ≡ lead_step form has_bits (both_of l re im abs up_re up_im up_abs) xs c → Hears
  unfolding both_of both_made
  lead_hears z e = both_hears form has_bits (both_of l re im abs up_re up_im up_abs) xs ys c (e ∙ leads form has_bits (both_of l re im abs up_re up_im up_abs) xs ys c z)

  pub catch_up_hears : (l.behind ≡ 0 → ⊥) → both_made h m re₁ im₁ abs₁ up_re₁ up_im₁ up_abs₁ ≡ catch_up_step form has_bits (both_of l re im abs up_re up_im up_abs) ys c → Hears
  unfolding both_of both_made
  catch_up_hears z e = both_hears form has_bits (both_of l re im abs up_re up_im up_abs) xs ys c (e ∙ catches_up form has_bits (both_of l re im abs up_re up_im up_abs) xs ys c z)

pub none_lem : (b : Bool) (x : Bool) → x ≡ not b → b ≡ not x
none_lem true x e = rw e
none_lem false x e = rw e

-- what is made of a step of one link
pub led_made : (form : Form) (has_bits : Bool) (b : Both) (xs : List ComplexSample) (c : ℤ) {s : Step} {u : Receiver} {g : Bool} → s ≡ step_of (down_style form has_bits) b.down xs c
    → u ≡ follow_if b.slot b.up b.down → g ≡ begins_if b.slot b.up c b.begins
    → record { taken = 0; refusal = s.refusal; line = b.line; is_shown = b.has_line; both = record { down = s.heard.receiver; up = u; begins = g; behind = s.taken; slot = s.heard.slot; has_line = s.heard.slot; line = s.heard.lines } }
    ≡ lead_step form has_bits b xs c
unfolding lead_step
led_made form has_bits b xs c e f g = rw (e, f, g)

pub caught_made : (form : Form) (has_bits : Bool) (b : Both) (ys : List ComplexSample) (c : ℤ) {s : Step} {l : List ℕ} {p g : Bool} {zs : List ComplexSample} → zs ≡ take b.behind ys
    → s ≡ step_of (up_style form has_bits) b.up zs c → l ≡ shown_of b.begins s.heard.lines → p ≡ is_shown b.begins s.heard.slot → g ≡ still_begins b.begins s.heard.slot
    → record { taken = s.taken; refusal = s.refusal; line = l; is_shown = p; both = record { down = b.down; up = s.heard.receiver; begins = g; behind = b.behind - s.taken; slot = b.slot; has_line = b.has_line; line = b.line } }
    ≡ catch_up_step form has_bits b ys c
unfolding catch_up_step
caught_made form has_bits b ys c f e l p g = rw (l, p, g, e, f)

-- no more of the first n samples are done with than there are
pub few_taken : (n : ℕ) (parts few : List Float) {t : ℕ} → interleaved few ≡ take n (interleaved parts) → t ≤ length few / 2 → t ≤ n
few_taken n parts few e h = omega (arith, samples_count few, ap (λ (l : List ComplexSample). length l) e, length-take n (interleaved parts))
