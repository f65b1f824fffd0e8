-- A burst into lent bytes: what a call returns and leaves. Assumes nothing.
use mathlib.Core.Path.{◌≡◌, refl}
use mathlib.Core.Bool.{Bool, true, false, cond}
use mathlib.Core.List.{List}
use Prim.Native.Nat.{ℕ, zero, suc}
use native.Mathlib.Omega.{arith}
use Rattle.std.specs.Prelude.{Result, Ok, Err}
use Rattle.std.specs.Result.{MatchResult}
use Rattle.dsp_types.specs.declared.refusals.Refusal.{Refusal}
use Rattle.dsp_types.specs.Refusals.{bad_length, wrong_length}
use Rattle.dsp_types.specs.Answers.{number_of, answer_number}
use Rattle.slotter.specs.declared.Burst.{Burst}
use Rattle.slotter.specs.Bursts.{BuilderReply, builder_reply, refusal}
use Rattle.slotter.specs.Uplink.{UplinkReply, uplink_reply, uplink_number, uplink_bits}
use Rattle.dsp_types.proofs.Numbers.{not_accepted}
use Rattle.modem.specs.Build.{lend_refusal, lent_unless, lent_answer, build_refusal, lent_burst, uplink_refusal, lent_uplink}

-- a refusal leaves the lent bytes alone
left_alone : (n : ℕ) (after before : List ℕ) → (n ≡ 0 → ⊥) → before ≡ lent_unless n after before
unfolding lent_unless
left_alone zero after before h = absurd (h refl)
left_alone (suc n) after before h = refl

refused : (n : ℕ) (r : Refusal) (bits : List ℕ) → lend_refusal n (number_of r) bits ≡ 0 → ⊥
unfolding lend_refusal
refused n r bits = go (wrong_length n bits)
  where
    go : (b : Bool) → cond b bad_length (number_of r) ≡ 0 → ⊥
    go true e = absurd (omega (arith, e))
    go false e = not_accepted r e

-- a downlink builder's answer, and its bits
module _ {reply : BuilderReply} (bits : List ℕ) where
  pub downlink_refusal : (answer : Result Burst Refusal) (built : Result (List ℕ) Refusal) → builder_reply answer ≡ reply
      → MatchResult answer (λ b. built ≡ Ok b.bits) (λ r. built ≡ Err r) → lend_refusal 510 (answer_number built) bits ≡ build_refusal reply bits
  unfolding build_refusal builder_reply refusal
  downlink_refusal (Ok burst) built e m = rw (m, ← e)
  downlink_refusal (Err r) built e m = rw (m, ← e)

  pub downlink_left : (answer : Result Burst Refusal) (built : Result (List ℕ) Refusal) → builder_reply answer ≡ reply
      → MatchResult answer (λ b. built ≡ Ok b.bits) (λ r. built ≡ Err r) → lent_answer 510 built bits ≡ lent_burst reply bits
  unfolding lent_answer lent_burst build_refusal builder_reply refusal
  downlink_left (Ok burst) built e m = rw (m, ← e)
  downlink_left (Err r) built e m = rw (m, ← e) (left_alone _ _ bits (refused 510 r bits))

-- an uplink builder's answer of n bits
module _ (n : ℕ) {reply : UplinkReply} (bits : List ℕ) where
  pub uplink_refusal_lem : (answer : Result (List ℕ) Refusal) → uplink_reply answer ≡ reply → lend_refusal n (answer_number answer) bits ≡ uplink_refusal n reply bits
  unfolding uplink_refusal uplink_reply uplink_number
  uplink_refusal_lem (Ok burst) e = rw (← e)
  uplink_refusal_lem (Err r) e = rw (← e)

  pub uplink_left : (answer : Result (List ℕ) Refusal) → uplink_reply answer ≡ reply → lent_answer n answer bits ≡ lent_uplink n reply bits
  unfolding lent_answer lent_uplink uplink_refusal uplink_reply uplink_number uplink_bits
  uplink_left (Ok burst) e = rw (← e)
  uplink_left (Err r) e = rw (← e) (left_alone _ _ bits (refused n r bits))
