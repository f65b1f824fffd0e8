-- What is due, by the tests that the code makes. Assumes nothing.
use mathlib.Core.Path.{◌≡◌, refl, sym, ap, ◌∙◌}
use mathlib.Core.Bool.{Bool, true, false, true≢false}
use Prim.Native.Nat.{ℕ, zero, suc, ◌+◌, ◌-◌, ◌*◌, ◌/◌, ◌%◌, ◌<◌, ◌≤◌}
use native.Mathlib.Omega.{arith}
use mathlib.Core.List.{List}
use Rattle.std.specs.Prelude.{Option, Some, None, Result, Ok, Err}
use lib.IntN.{ℤ, pos, negsuc, ◌+ℤ◌, ◌-ℤ◌}
use lib.Signed.{mag}
use borrow.Author.Tests.{ltb-false, lt-ltb, le-ltb, eq-eqb, ne_eqb}
use Rattle.dsp_types.proofs.IntLaws.{less, same}
use Rattle.dsp_types.specs.Refusals.{last_counter, out_of_count}
use Rattle.dsp_types.specs.declared.refusals.Refusal.{Refusal}
use Rattle.dsp_types.specs.Answers.{number_of}
use Rattle.dsp_types.proofs.Numbers.{not_accepted}
use Rattle.mapper.specs.declared.Due.{Due}
use Rattle.mapper.specs.declared.Due.TheVariants.{Silence, Symbol}
use Rattle.mapper.specs.Due.{bits_refusal, slot_refusal, input_refusal, bit_at, symbol_due, due_in, start_of, place_in, due_at, due_if, due_of}

-- ---- what an accepted call has

module _ (c : ℤ) (slot : ℕ) (bits : Option (List ℕ)) (h : input_refusal c slot bits ≡ 0) where
  counted : out_of_count c ≡ false
  unfolding input_refusal
  counted = go (out_of_count c) refl
    where
      go : (o : Bool) → out_of_count c ≡ o → o ≡ false
      go true e = absurd (omega (arith, rw e at h))
      go false e = refl

  pub accepted_count : (c ≡ pos (mag c)) × (mag c ≤ last_counter)
  unfolding out_of_count
  accepted_count = go c counted
    where
      go : (z : ℤ) → out_of_count z ≡ false → (z ≡ pos (mag z)) × (mag z ≤ last_counter)
      go (pos n) e = (refl, omega (arith, ltb-false last_counter n e))
      go (negsuc n) e = absurd (true≢false e)

  pub slot_accepted : slot_refusal slot (bits_refusal bits) ≡ 0
  unfolding input_refusal
  slot_accepted = rw counted at h

-- ---- what is due in a slot

module _ (n start : ℕ) where
  place_early : n < start → pos n -ℤ pos start ≡ negsuc (start - suc n)
  place_early h = same _ _ (omega (arith, less (pos n) (pos start)))

  place_within : start ≤ n → pos n -ℤ pos start ≡ pos (n - start)
  place_within h = same _ _ (omega (arith, less (pos n) (pos start)))

  module _ (bits : Option (List ℕ)) where
    pub early : n < start → Ok Silence ≡ due_at bits (pos n -ℤ pos start)
    unfolding due_at
    early h = rw (place_early h)

    pub late : start ≤ n → 1020 ≤ n - start → Err 12 ≡ due_at bits (pos n -ℤ pos start)
    unfolding due_at
    late h k = rw (place_within h, le-ltb (n - start) 1020 k)

    pub within : start ≤ n → n - start < 1020 → due_at bits (pos n -ℤ pos start) ≡ Ok (due_in bits (n - start))
    unfolding due_at
    within h k = rw (place_within h, lt-ltb (n - start) 1020 k)

module _ (n start : ℕ) (h : start ≤ n) (k : n - start < 1020) where
  pub absent : Ok Silence ≡ due_at None (pos n -ℤ pos start)
  unfolding due_in
  absent = sym (within n start None h k)

  module _ (bits : List ℕ) where
    pub between : ((n - start) % 4 ≡ 0 → ⊥) → Ok Silence ≡ due_at (Some bits) (pos n -ℤ pos start)
    unfolding due_in
    between f = rw (within n start (Some bits) h k, ne_eqb ((n - start) % 4) 0 f)

    pub symbol : (n - start) % 4 ≡ 0 → (i : ℕ) → i ≡ (n - start) / 4 * 2
        → Ok (Symbol (bit_at bits i) (bit_at bits (i + 1))) ≡ due_at (Some bits) (pos n -ℤ pos start)
    unfolding due_in symbol_due
    symbol f i g =
        let j : i ≡ 2 * ((n - start) / 4) = omega (arith, g) in
        rw (j, within n start (Some bits) h k, eq-eqb ((n - start) % 4) 0 f)

-- ---- what is due in a call

refused_if : (n : ℕ) (d : Result Due ℕ) → (n ≡ 0 → ⊥) → Err n ≡ due_if n d
unfolding due_if
refused_if zero d h = absurd (h refl)
refused_if (suc n) d h = refl

module _ (c : ℤ) (slot : ℕ) (bits : Option (List ℕ)) where
  pub refused : (r : Refusal) → number_of r ≡ input_refusal c slot bits → Err (number_of r) ≡ due_of c slot bits
  unfolding due_of
  refused r e = rw (← e) (refused_if (number_of r) _ (not_accepted r))

  pub accepted : (d : Result Due ℕ) (n start : ℕ) → 0 ≡ input_refusal c slot bits → n ≡ mag c → start ≡ start_of slot → d ≡ due_at bits (pos (n + 16) -ℤ pos start) → d ≡ due_of c slot bits
  unfolding due_of due_if place_in
  accepted d n start e f g h =
      let m : pos n ≡ c = ap pos f ∙ sym (accepted_count c slot bits (sym e)).0 in
      rw (← e) (h ∙ (λ i. due_at bits (m i +ℤ pos 16 -ℤ pos (g i))))
