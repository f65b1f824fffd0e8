-- Words of bytes, the parts that are read, and one turn of the loop that writes. Assumes nothing.
use mathlib.Core.Path.{◌≡◌, refl, sym, ap, ◌∙◌}
use mir.Syntax.{w16, w32}
use Rattle.std.proofs.lemmas.Int.{ints}
use Rattle.std.specs.Int.{from_le_bytes, to_le_bytes}
use mir.Val.{to_z}
use mathlib.Core.List.{List, [], ◌∷◌, ◌++◌}
use Prim.Native.Nat.{ℕ, zero, suc, ◌+◌, ◌*◌, ◌/◌, ◌%◌, ◌<◌, ◌≤◌}
use native.Mathlib.Omega.{arith}
use native.Mathlib.Nat.{mul-suc}
use native.Mathlib.Numerals.{add-one}
use lib.ListN.{get_or, length, take, drop, take-append-drop}
use lib.Seq.{take-suc, drop-cons, drop-drop}
use lib.Ieee.{Float, nan, binary32, to_bits}
use Rattle.iq_format.specs.declared.Format.{Format}
use Rattle.iq_format.specs.declared.Format.TheVariants.{Cu8}
use Rattle.iq_format.specs.Parts.{word_of, width, signed16, part_of, first_parts, parts_in, word_bytes, part_bytes}

-- ---- parts read

-- the word of part n
abbrev pub part_word : Format → List ℕ → ℕ → ℕ
part_word format bytes n = word_of (take (width format) (drop (width format * n) bytes))

next_byte : (k i j : ℕ) (bytes : List ℕ) → i < length bytes → suc i ≡ j → take (suc k) (drop i bytes) ≡ get_or bytes i 0 ∷ take k (drop j bytes)
next_byte k i j bytes h e = rw (← e, drop-cons bytes i 0)

pub word_of_one : (n : ℕ) (bytes : List ℕ) → n < length bytes → part_word Cu8 bytes n ≡ word_of (get_or bytes n 0 ∷ [])
word_of_one n bytes h = let e : 1 * n ≡ n = omega arith in rw (e, next_byte 0 n (n + 1) bytes h (omega arith))

length_first : (format : Format) (m : ℕ) (bytes : List ℕ) → length (first_parts format m bytes) ≡ m
unfolding first_parts
length_first format zero bytes = refl
length_first format (suc m) bytes = ap suc (length_first format m (drop (width format) bytes))

first_at : (format : Format) (m n : ℕ) (bytes : List ℕ) → n < m → get_or (first_parts format m bytes) n nan ≡ part_of format (part_word format bytes n)
unfolding first_parts
first_at format zero n bytes h = absurd (omega arith)
first_at format (suc m) zero bytes h = let z : width format * 0 ≡ 0 = omega arith in rw z
first_at format (suc m) (suc n) bytes h =
    let w = width format in
    let e : w * suc n ≡ w + w * n = omega (arith, mul-suc w n) in
    rw (e, ← drop-drop (w * n) w bytes) (first_at format m n (drop w bytes) (omega arith))

-- what is made of each part's bytes, before what is behind them in the buffer
module _ (format : Format) (bytes : List ℕ) (parts₀ parts : List Float) where
  taken : (n : ℕ) → n ≤ length bytes / width format → n ≤ length parts → ((k : ℕ) → k < n → get_or parts k nan ≡ part_of format (part_word format bytes k))
      → take n parts ≡ take n (first_parts format (length bytes / width format) bytes)
  taken zero h l each = refl
  taken (suc n) h l each =
      let m = length bytes / width format in
      rw (
        take-suc parts n nan l,
        take-suc (first_parts format m bytes) n nan (rw length_first h),
        first_at format m n bytes h,
        each n (omega arith),
        taken n (omega arith) (omega arith) (λ k i. each k (omega arith)),
      )

  pub all_read : (n : ℕ) → n ≤ length bytes / width format → n ≤ length parts → drop n parts ≡ drop n parts₀
      → ((k : ℕ) → k < n → get_or parts k nan ≡ part_of format (part_word format bytes k)) → parts ≡ take n (parts_in format bytes) ++ drop n parts₀
  unfolding parts_in
  all_read n h l rest each = sym (take-append-drop n parts) ∙ rw (taken n h l each, rest)

-- ---- parts written

bytes_append : (xs : List Float) (x : Float) → part_bytes (xs ++ (x ∷ [])) ≡ part_bytes xs ++ word_bytes (to_bits binary32 x)
unfolding part_bytes word_bytes
bytes_append [] x = refl
bytes_append (y ∷ xs) x = ap (λ (l : List ℕ). word_bytes (to_bits binary32 y) ++ l) (bytes_append xs x)

low_first : (w : ℕ) → w < 0x1_0000_0000 → to_le_bytes w32 w ≡ word_bytes w
unfolding word_bytes
low_first w h = let e : w / 0x100_0000 % 0x100 ≡ w / 0x100_0000 = omega arith in rw e

-- a word more
pub word_turn : (n w : ℕ) (parts : List Float) → n < length parts → w < 0x1_0000_0000 → w ≡ to_bits binary32 (get_or parts n nan)
    → part_bytes (take n parts) ++ to_le_bytes w32 w ≡ part_bytes (take (n + 1) parts)
word_turn n w parts l h e = rw (low_first w h, e, add-one n, take-suc parts n nan l) (sym (bytes_append (take n parts) (get_or parts n nan)))

pub left_turn : (n : ℕ) (bytes bytes₀ : List ℕ) → drop (4 * n) bytes ≡ drop (4 * n) bytes₀ → drop (4 * (n + 1)) bytes ≡ drop (4 * (n + 1)) bytes₀
left_turn n bytes bytes₀ inv =
    let m : 4 * (n + 1) ≡ 4 * n + 4 = omega arith in
    rw (m, ← drop-drop 4 (4 * n) bytes, inv) (drop-drop 4 (4 * n) bytes₀)

pub word_32 : (raw : List ℕ) (n : ℕ) → length raw ≡ 4 → n ≡ from_le_bytes w32 raw → n ≡ word_of raw
unfolding word_of
word_32 [] n h e = absurd (omega arith)
word_32 (a ∷ []) n h e = absurd (omega arith)
word_32 (a ∷ b ∷ []) n h e = absurd (omega arith)
word_32 (a ∷ b ∷ c ∷ []) n h e = absurd (omega arith)
word_32 (a ∷ b ∷ c ∷ d ∷ []) n h e = omega arith
word_32 (a ∷ b ∷ c ∷ d ∷ x ∷ l) n h e = absurd (omega arith)

pub word_16 : (raw : List ℕ) (n : ℕ) → length raw ≡ 2 → n ≡ from_le_bytes w16 raw → n ≡ word_of raw
unfolding word_of
word_16 [] n h e = absurd (omega arith)
word_16 (a ∷ []) n h e = absurd (omega arith)
word_16 (a ∷ b ∷ []) n h e = omega arith
word_16 (a ∷ b ∷ x ∷ l) n h e = absurd (omega arith)

signed_is : (w : ℕ) → w < 0x1_0000 → to_z w16 w ≡ signed16 w
unfolding signed16
signed_is w h = grind (arith, ints)

pub signed_word : (raw : List ℕ) → length raw ≡ 2 → ((i : ℕ) → get_or raw i 0 < 256) → to_z w16 (from_le_bytes w16 raw) ≡ signed16 (word_of raw)
signed_word [] h f = absurd (omega arith)
signed_word (a ∷ []) h f = absurd (omega arith)
signed_word (a ∷ b ∷ []) h f = rw (← word_16 (a ∷ b ∷ []) (from_le_bytes w16 (a ∷ b ∷ [])) refl refl) (signed_is _ (omega (arith, f 0, f 1)))
signed_word (a ∷ b ∷ x ∷ l) h f = absurd (omega arith)
