-- The calls on a built burst: its window has bits alone, so that the logger's call is not refused, and both calls report it.
use mathlib.Core.Path.{◌≡◌, refl, sym, ap, ◌∙◌}
use mathlib.Core.Bool.{Bool, true, false, cond}
use mathlib.Core.List.{List, [], ◌∷◌, ◌++◌, append_assoc}
use Prim.Native.Nat.{ℕ, zero, suc, ◌+◌, ◌-◌, ◌*◌, ◌≤◌}
use native.Mathlib.Omega.{arith}
use lib.Dec.{ltb, eqb}
use lib.ListN.{length, take, replicate, length-replicate}
use lib.Seq.{take_at, drop_at}
use borrow.Author.Tests.{eq-eqb}
use Rattle.std.specs.Prelude.{Result, Ok, Err, MatchResult}
use Rattle.dsp_types.specs.declared.refusals.Refusal.{Refusal}
use Rattle.dsp_types.specs.Refusals.{accepted, wrong_length, not_bits}
use Rattle.dsp_types.proofs.Laws.{neither}
use Rattle.train_consts.specs.Training.{normal1, normal2, extended, tail}
use Rattle.burst_finder.specs.declared.Finding.{Finding}
use Rattle.burst_finder.specs.declared.SlotType.TheVariants.{UlFull, UlSub}
use Rattle.burst_finder.specs.Search.{errors_at}
use Rattle.burst_finder.specs.Slots.{slot_type_of, check_slot, get_burst}
use Rattle.burst_finder.proofs.Findings.{view_is}
use Rattle.logger.specs.Judge.{window_length, wrong_window, finding_bytes, judge_refusal, judge_answer}
use Rattle.slotter.specs.Bursts.{training_of, training_refusal}
use Rattle.slotter.specs.Uplink.{uplink, pair_refusal, uplink_reply, normal_uplink, control_uplink, uplink_number, uplink_bits, placed}
use Rattle.slotter.proofs.UplinkAnswers.{uplink_number_lem, uplink_bits_lem}
use Rattle.slotter.proofs.Fields.{training_length}
use Rattle.slotter.proofs.Placing.{placed_length, placed_whole, placed_nothing}
use Rattle.slotter.proofs.Places.{normal_uplink_places, control_uplink_places}
use Rattle.slotter.proofs.Refusal.{right_pair}
use Rattle.slot_receiver.proofs.Taken.{bits_take}
use Rattle.uplink.specs.Placed.{normal_window, control_window, NormalReported, ControlReported}
use Rattle.uplink.specs.Judging.{Told, judged_of, judged_normal, judged_control, NormalFound, ControlFound}
use Rattle.uplink.proofs.Found.{normal1_reported, normal2_reported, before_reported, control_reported, at_placing}

-- ---- bits alone

bits_append : (a b : List ℕ) → not_bits a ≡ false → not_bits b ≡ false → not_bits (a ++ b) ≡ false
unfolding not_bits
bits_append [] b e f = f
bits_append (x ∷ a) b e f = let h = neither (ltb 1 x) (not_bits a) e in rw h.0 (bits_append a b h.1 f)

bits_zeros : (n : ℕ) → not_bits (replicate n 0) ≡ false
unfolding not_bits
bits_zeros zero = refl
bits_zeros (suc n) = bits_zeros n

fixed_bits : (not_bits tail ≡ false) × (not_bits normal1 ≡ false) × (not_bits normal2 ≡ false) × (not_bits extended ≡ false)
unfolding not_bits tail normal1 normal2 extended
fixed_bits = (refl, refl, refl, refl)

uplink_bits_alone : (sequence blk1 blk2 : List ℕ) → not_bits sequence ≡ false → not_bits blk1 ≡ false → not_bits blk2 ≡ false → not_bits (uplink sequence blk1 blk2) ≡ false
unfolding uplink
uplink_bits_alone sequence blk1 blk2 s a b =
    let t = fixed_bits.0 in
    bits_append _ tail (bits_append _ blk2 (bits_append _ sequence (bits_append tail blk1 t a) s) b) t

window_bits_lem : (n offset : ℕ) (burst : List ℕ) → not_bits burst ≡ false → not_bits (placed n offset burst) ≡ false
unfolding placed
window_bits_lem n offset burst e = bits_take n _ (bits_append _ (replicate n 0) (bits_append (replicate offset 0) burst (bits_zeros offset) e) (bits_zeros n))

-- the part of a window where a burst was placed
own_part : (n offset len : ℕ) (burst : List ℕ) → length burst ≡ len → offset + len ≤ n → get_burst (placed n offset burst) offset len ≡ burst
own_part n offset len burst e h =
    let z : List ℕ = replicate offset 0 in
    let rest : List ℕ = take (n - (offset + length burst)) (replicate n 0) in
    view_is (placed n offset burst) offset len (omega (arith, placed_length offset burst n))
    ∙ rw (placed_whole offset burst n (omega arith), append_assoc z burst rest, drop_at z (burst ++ rest) offset (length-replicate {A = ℕ} offset 0)) (take_at burst rest len e)

extended_length : length extended ≡ 30
unfolding extended
extended_length = refl

-- ---- the window of a burst that was built

training_bits : (n : ℕ) → not_bits (training_of n) ≡ false
unfolding training_of
training_bits n = go (eqb n 1)
  where
    go : (b : Bool) → not_bits (cond b normal1 normal2) ≡ false
    go true = fixed_bits.1
    go false = fixed_bits.2

-- one that is full
module _ (train : ℕ) (blk1 blk2 : List ℕ) (offset : ℕ) (built : uplink_number (normal_uplink train blk1 blk2) ≡ accepted) where
  abbrev burst : List ℕ
  burst = uplink (training_of train) blk1 blk2

  normal_number : pair_refusal 216 blk1 blk2 (training_refusal train) ≡ 0
  unfolding normal_uplink
  normal_number = sym (uplink_number_lem _ burst) ∙ built

  pub normal_window_lem : normal_window train blk1 blk2 offset ≡ placed 510 offset burst
  unfolding normal_window normal_uplink
  normal_window_lem = ap (placed 510 offset) (uplink_bits_lem _ burst normal_number)

  pub normal_length : length (normal_window train blk1 blk2 offset) ≡ 510
  normal_length = rw normal_window_lem (placed_length offset burst 510)

  pub normal_bits : not_bits (normal_window train blk1 blk2 offset) ≡ false
  normal_bits =
      let p = right_pair 216 blk1 blk2 _ normal_number in
      rw normal_window_lem (window_bits_lem 510 offset burst (uplink_bits_alone (training_of train) blk1 blk2 (training_bits train) p.2 p.3))

  normal_exact : (k : ℕ) → offset ≡ 2 * k → k ≤ 24 → errors_at (normal_window train blk1 blk2 offset) (training_of train) (220 + 2 * k) ≡ 0
  normal_exact k e h =
      let p = right_pair 216 blk1 blk2 _ normal_number in
      rw (normal_window_lem, e) (at_placing (training_of train) blk1 blk2 510 216 22 k (training_length train) p.0 p.1 (omega arith))

  pub normal_part : offset ≤ 48 → get_burst (normal_window train blk1 blk2 offset) offset 462 ≡ uplink_bits (normal_uplink train blk1 blk2)
  unfolding normal_window
  normal_part h = own_part 510 offset 462 (uplink_bits (normal_uplink train blk1 blk2)) (normal_uplink_places train blk1 blk2 built).whole (omega arith)

  -- whatever is said of its finding
  pub normal_reported : (says : Finding → Type 0) → says (check_slot UlFull (normal_window train blk1 blk2 offset)) → (k : ℕ) → offset ≡ 2 * k → k ≤ 24
      → NormalReported says train (normal_window train blk1 blk2 offset) k
  unfolding training_of
  normal_reported says said k e h =
      let w = normal_window train blk1 blk2 offset in
      let x = normal_exact k e h in
      record {
        first = λ one. normal1_reported says w k normal_length h said (ap (λ (n : ℕ). errors_at w (training_of n) (220 + 2 * k)) (sym one) ∙ x);
        second = λ two. normal2_reported says w k normal_length h said (ap (λ (n : ℕ). errors_at w (training_of n) (220 + 2 * k)) (sym two) ∙ x);
        tried_before = λ two. before_reported says w k normal_length h said;
      }

-- half a window
module _ (blk1 blk2 : List ℕ) (offset : ℕ) (built : uplink_number (control_uplink blk1 blk2) ≡ accepted) where
  abbrev control : List ℕ
  control = uplink extended blk1 blk2

  control_number : pair_refusal 84 blk1 blk2 accepted ≡ 0
  unfolding control_uplink
  control_number = sym (uplink_number_lem _ control) ∙ built

  pub control_window_lem : control_window blk1 blk2 offset ≡ placed 254 offset control
  unfolding control_window control_uplink
  control_window_lem = ap (placed 254 offset) (uplink_bits_lem _ control control_number)

  pub control_length : length (control_window blk1 blk2 offset) ≡ 254
  control_length = rw control_window_lem (placed_length offset control 254)

  pub control_bits : not_bits (control_window blk1 blk2 offset) ≡ false
  control_bits =
      let p = right_pair 84 blk1 blk2 accepted control_number in
      rw control_window_lem (window_bits_lem 254 offset control (uplink_bits_alone extended blk1 blk2 fixed_bits.3 p.2 p.3))

  control_exact : (k : ℕ) → offset ≡ 2 * k → k ≤ 24 → errors_at (control_window blk1 blk2 offset) extended (88 + 2 * k) ≡ 0
  control_exact k e h =
      let p = right_pair 84 blk1 blk2 accepted control_number in
      rw (control_window_lem, e) (at_placing extended blk1 blk2 254 84 30 k extended_length p.0 p.1 (omega arith))

  pub control_part : offset ≤ 48 → get_burst (control_window blk1 blk2 offset) offset 206 ≡ uplink_bits (control_uplink blk1 blk2)
  unfolding control_window
  control_part h = own_part 254 offset 206 (uplink_bits (control_uplink blk1 blk2)) (control_uplink_places blk1 blk2 built).whole (omega arith)

  pub control_said_lem : (says : Finding → Type 0) → says (check_slot UlSub (control_window blk1 blk2 offset)) → (k : ℕ) → offset ≡ 2 * k → k ≤ 24
      → ControlReported says (control_window blk1 blk2 offset) k
  control_said_lem says said k e h = control_reported says (control_window blk1 blk2 offset) k control_length h (control_exact k e h) said

-- ---- the logger's call

abbrev six : List ℕ
six = replicate 6 0

module _ (kind : ℕ) (window : List ℕ) (known : ltb 2 kind ≡ false) (long : length window ≡ window_length (slot_type_of kind)) (bits : not_bits window ≡ false) where
  pub not_refused : judge_refusal kind window six ≡ 0
  unfolding judge_refusal wrong_window wrong_length
  not_refused = rw (known, long, eq-eqb (window_length (slot_type_of kind)) (window_length (slot_type_of kind)) refl, bits)

  pub told : judge_answer kind window six ≡ finding_bytes (check_slot (slot_type_of kind) window)
  unfolding judge_answer
  told = rw not_refused

-- ---- what is proved of the answers

-- the window in which a burst was placed, if one was built
pub window_is : (burst : Result (List ℕ) Refusal) (n offset : ℕ) (window : List ℕ) → MatchResult burst (λ bits. window ≡ placed n offset bits) (λ _. window ≡ replicate n 0)
    → window ≡ placed n offset (uplink_bits (uplink_reply burst))
unfolding uplink_bits uplink_reply
window_is (Ok bits) n offset window e = e
window_is (Err r) n offset window e = e ∙ sym (placed_nothing n offset)

pub normal_found : (train : ℕ) (blk1 blk2 : List ℕ) (offset : ℕ) (j : Told) → j ≡ judged_normal train blk1 blk2 offset → j.number ≡ accepted
    → NormalFound train blk1 blk2 offset j
unfolding judged_normal judged_of slot_type_of window_length
normal_found train blk1 blk2 offset j e n =
    let built : uplink_number (normal_uplink train blk1 blk2) ≡ accepted = sym (ap (λ (j : Told). j.number) e) ∙ n in
    let w = normal_window train blk1 blk2 offset in
    let long = normal_length train blk1 blk2 offset built in
    let bits = normal_bits train blk1 blk2 offset built in
    record {
      judged = ap (λ (j : Told). j.refusal) e ∙ not_refused 1 w refl long bits;
      finder = normal_reported train blk1 blk2 offset built (λ f. j.finding ≡ f) (ap (λ (j : Told). j.finding) e);
      logger = normal_reported train blk1 blk2 offset built (λ f. j.answer ≡ finding_bytes f) (ap (λ (j : Told). j.answer) e ∙ told 1 w refl long bits);
    }

pub control_found : (blk1 blk2 : List ℕ) (offset : ℕ) (j : Told) → j ≡ judged_control blk1 blk2 offset → j.number ≡ accepted → ControlFound blk1 blk2 offset j
unfolding judged_control judged_of slot_type_of window_length
control_found blk1 blk2 offset j e n =
    let built : uplink_number (control_uplink blk1 blk2) ≡ accepted = sym (ap (λ (j : Told). j.number) e) ∙ n in
    let w = control_window blk1 blk2 offset in
    let long = control_length blk1 blk2 offset built in
    let bits = control_bits blk1 blk2 offset built in
    record {
      judged = ap (λ (j : Told). j.refusal) e ∙ not_refused 2 w refl long bits;
      finder = control_said_lem blk1 blk2 offset built (λ f. j.finding ≡ f) (ap (λ (j : Told). j.finding) e);
      logger = control_said_lem blk1 blk2 offset built (λ f. j.answer ≡ finding_bytes f) (ap (λ (j : Told). j.answer) e ∙ told 2 w refl long bits);
    }
