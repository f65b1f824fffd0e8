-- The line of a slot that was taken: the bytes lent begin with its bursts' bits, and nothing of it is cut. Assumes nothing.
use Prim.Native.Nat.{ℕ, zero, suc, ◌+◌, ◌%◌, ◌≤◌}
use mathlib.Core.Path.{◌≡◌, refl, sym, ap, ◌∙◌}
use mathlib.Core.Bool.{Bool, true, false, cond}
use mathlib.Core.List.{List, [], ◌∷◌, map}
use native.Mathlib.Omega.{arith}
use lib.Dec.{leb}
use lib.ListN.{length, take, drop, length-map, length-take, length-drop}
use lib.Ieee.{Float}
use Rattle.text.specs.Text.{cut}
use Rattle.slot_text.specs.Lines.{burst_read, slot_read, slot_line}
use Rattle.slot_text.proofs.Short.{not_cut}
use Rattle.burst_finder.specs.Slots.{get_burst}
use Rattle.rx_slot.specs.declared.RxBurst.{RxBurst}
use Rattle.rx_slot.specs.declared.RxSlot.{RxSlot}
use Rattle.receiver.specs.declared.State.{State}
use Rattle.std.specs.Prelude.{Result, Ok, Err}
use Rattle.dsp_types.specs.declared.refusals.Refusal.{Refusal}
use Rattle.dsp_types.specs.Answers.{number_of}
use Rattle.rx_slot.specs.Views.{BurstView, no_view, is_found, valid_view, stored_view, padded, burst_shown}
use Rattle.rx_slot.proofs.Laws.{padded_front}
use Rattle.rx_slot.specs.Slots.{HandedSlot, with_views, valid_slot, filled, shown}
use Rattle.slot_receiver.specs.Receiver.{Receiver}
use Rattle.slot_receiver.specs.View.{receiver_from}
use Rattle.receiver.specs.View.{receiver_of}
use Rattle.slot_receiver.specs.Calls.{Reply, refused, done, took, unless, taken, take_outcome, take_reply_of, in_numbers}
use Rattle.slot_text.specs.declared.Style.{Style}
use Rattle.slot_lines.specs.Blocks.{take_next, taken_line}

-- ---- a burst's bits are few

few_viewed : (v : BurstView) → length (valid_view v).bits ≤ length v.bits
unfolding valid_view no_view
few_viewed v = go (is_found v)
  where
    go : (b : Bool) → length (cond b (record { type = v.type; errors = v.errors; place = v.place; bits = map (λ b. b % 2) v.bits }) no_view).bits ≤ length v.bits
    go true = omega (arith, length-map v.bits (λ b. b % 2))
    go false = omega arith

few_stored : (n : ℕ) (bits : List ℕ) (pos len : ℕ) → length (get_burst (take n bits) pos len) ≤ n
unfolding get_burst
few_stored n bits pos len = go (leb (pos + len) (length (take n bits)))
  where
    go : (b : Bool) → length (cond b (take len (drop pos (take n bits))) []) ≤ n
    go true = simp (length-take, length-drop) (omega arith)
    go false = omega arith

few : (n : ℕ) (bits : List ℕ) (b : RxBurst) → length (valid_view (stored_view n bits b)).bits ≤ n
unfolding stored_view
few n bits b = omega (arith, few_viewed (stored_view n bits b), few_stored n bits b.burst_pos b.burst_len)

-- so many bits have the bursts of a slot at most
record Few (h : HandedSlot) : Type 0 where
  pub full : length h.full.bits ≤ 510
  pub first : length h.subslot1.bits ≤ 254
  pub second : length h.subslot2.bits ≤ 254

few_bits : (s : State) (re im abs : List Float) → Few (valid_slot (receiver_of s re im abs).slot)
unfolding valid_slot with_views receiver_of receiver_from
few_bits s re im abs =
    let d = s.slots in
    let b = d.demodulated_slot in
    record { full = few 510 d.full_bits b.full; first = few 254 d.subslot1_bits b.subslot1; second = few 254 d.subslot2_bits b.subslot2 }

-- ---- the slot that was taken

module _ (style : Style) where
  -- the line of a slot in numbers and of the bytes that were lent
  abbrev line_of : RxSlot → (bytes bytes₁ bytes₂ : List ℕ) → List ℕ
  line_of told bytes bytes₁ bytes₂ =
      cut
      (slot_line style.form style.has_bits style.link
      (slot_read told (take told.full.burst_len bytes) (take told.subslot1.burst_len bytes₁) (take told.subslot2.burst_len bytes₂)))

  told_line : (k : ℕ) (r : Receiver) (h : HandedSlot) (lent : List (List ℕ)) (told : RxSlot) (bytes bytes₁ bytes₂ : List ℕ) → Few h
      → let o = unless k r lent (taken r h) in took told ≡ in_numbers o.reply → bytes ∷ bytes₁ ∷ bytes₂ ∷ [] ≡ o.lent → line_of told bytes bytes₁ bytes₂ ≡ taken_line style o.reply
  unfolding unless taken filled in_numbers shown burst_shown taken_line slot_read burst_read
  told_line zero r h lent told bytes bytes₁ bytes₂ l e f =
      let t : told ≡ shown h = cc in
      let b : bytes ≡ padded 510 h.full.bits = cc in
      let b₁ : bytes₁ ≡ padded 254 h.subslot1.bits = cc in
      let b₂ : bytes₂ ≡ padded 254 h.subslot2.bits = cc in
      rw (t, b, b₁, b₂, padded_front 510 h.full.bits l.full, padded_front 254 h.subslot1.bits l.first, padded_front 254 h.subslot2.bits l.second)
      (not_cut style.form style.has_bits style.link h l.full l.first l.second)
  told_line (suc k) r h lent told bytes bytes₁ bytes₂ l e f = absurd (let z : ◌≡◌ {A = ℕ} 0 1 = cc in omega arith)

  -- what a take told and lent makes the line
  module _ (s : State) (re im abs : List Float) where
    pub slot_told : {t : List ℕ} (answer : Result RxSlot Refusal) (told : RxSlot) (bytes bytes₁ bytes₂ : List ℕ)
        → let o = take_next (receiver_of s re im abs) in take_reply_of answer ≡ in_numbers o.reply → bytes ∷ bytes₁ ∷ bytes₂ ∷ [] ≡ o.lent → answer ≡ Ok told
        → t ≡ line_of told bytes bytes₁ bytes₂ → t ≡ taken_line style o.reply
    unfolding take_next take_outcome take_reply_of
    slot_told answer told bytes bytes₁ bytes₂ e f a g =
        g ∙ told_line _ (receiver_of s re im abs) (valid_slot (receiver_of s re im abs).slot) _ told bytes bytes₁ bytes₂ (few_bits s re im abs) (sym (ap take_reply_of a) ∙ e) f

    pub nothing_told : {t : List ℕ} (answer : Result RxSlot Refusal) (n : Refusal)
        → let o = take_next (receiver_of s re im abs) in take_reply_of answer ≡ in_numbers o.reply → answer ≡ Err n → t ≡ [] → t ≡ taken_line style o.reply
    unfolding take_reply_of in_numbers taken_line
    nothing_told answer n e a g = g ∙ none (take_next (receiver_of s re im abs)).reply (sym (ap take_reply_of a) ∙ e)
      where
        none : (reply : Reply HandedSlot) → refused (number_of n) ≡ in_numbers reply → [] ≡ taken_line style reply
        none (refused m) e = refl
        none done e = refl
        none (took h) e = absurd (let z : ◌≡◌ {A = ℕ} 0 1 = cc in omega arith)
