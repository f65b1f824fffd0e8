-- Rows of numbers and of bytes: their lengths, that one tells its answer, and what is written behind another. Assumes nothing.
use mathlib.Core.Path.{◌≡◌, refl, sym, ap, ◌∙◌}
use mathlib.Core.Bool.{Bool, true, false, cond}
use mathlib.Core.List.{List, [], ◌∷◌, ◌++◌, append_assoc, append-nil}
use Prim.Native.Nat.{ℕ, zero, suc, ◌+◌, ◌*◌, ◌≤◌, min}
use native.Mathlib.Omega.{arith}
use lib.IntN.{ℤ, pos, negsuc}
use lib.Signed.{mag, lt_z}
use lib.ListN.{length, get_or, take, drop, replicate, length-append, length-replicate, length-drop, drop_of_length-le}
use borrow.Rule.Slice.PartMut.{put_mid}
use lib.Seq.{length-take-le, take_at, drop-append-add, drop-drop}
use Rattle.rx_slot.specs.declared.RxBurst.{RxBurst}
use Rattle.rx_slot.specs.declared.RxSlot.{RxSlot}
use Rattle.dsp_types.proofs.Signs.{below_is, above_is}
use Rattle.rx_slot.specs.Slots.{HandedSlot}
use Rattle.slot_receiver.specs.Calls.{Reply, refused, done, took, in_numbers}
use Rattle.rx_slot.specs.Views.{padded}
use Rattle.rx_slot.proofs.Laws.{length_padded}
use Rattle.account.specs.Runs.{row_length, view_row, counter_row, row_of, rows, bytes_of, bytes_of_all}

-- ---- bits with zeros behind them

pub padded_none : (n : ℕ) → padded n [] ≡ replicate n 0
unfolding padded
padded_none zero = refl
padded_none (suc n) = ap (λ (l : List ℕ). 0 ∷ l) (padded_none n)

-- bits in the place of zeros
pub padded_behind : (n : ℕ) (bits : List ℕ) → length bits ≤ n → bits ++ drop (length bits) (replicate n 0) ≡ padded n bits
unfolding padded
padded_behind n [] h = sym (padded_none n)
padded_behind zero (b ∷ bits) h = absurd (omega arith)
padded_behind (suc n) (b ∷ bits) h = ap (λ (l : List ℕ). b ∷ l) (padded_behind n bits (omega arith))

-- .. so many of one
pub sevens_lem : (k n : ℕ) (s : List ℕ) → k ≡ min n 1024 → s ≡ replicate k 7 → s ++ drop k (replicate 1024 0) ≡ padded 1024 (replicate (min n 1024) 7)
sevens_lem k n s e f =
    let h : length (replicate {A = ℕ} k 7) ≡ k = length-replicate {A = ℕ} k 7 in
    rw (f, ← e) (rw h at (padded_behind 1024 (replicate {A = ℕ} k 7) (omega arith)))

-- others in the bits' place
pub padded_over : (n : ℕ) (bits others : List ℕ) → length bits ≤ n → length others ≡ length bits → others ++ drop (length bits) (padded n bits) ≡ padded n others
unfolding padded
padded_over n [] [] h e = refl
padded_over n [] (o ∷ others) h e = absurd (omega arith)
padded_over n (b ∷ bits) [] h e = absurd (omega arith)
padded_over zero (b ∷ bits) (o ∷ others) h e = absurd (omega arith)
padded_over (suc n) (b ∷ bits) (o ∷ others) h e = ap (λ (l : List ℕ). o ∷ l) (padded_over n bits others (omega arith) (omega arith))

-- ---- rows

pub length_row : (a : Reply RxSlot) → length (row_of a) ≡ row_length
unfolding row_of view_row counter_row
length_row (refused n) = refl
length_row done = refl
length_row (took s) = refl

pub length_rows : (replies : List (Reply HandedSlot)) → length (rows replies) ≡ row_length * length replies
unfolding rows
length_rows [] = refl
length_rows (a ∷ earlier) = rw (length-append (rows earlier) (row_of (in_numbers a))) (omega (arith, length_rows earlier, length_row (in_numbers a)))

pub length_bytes : (slices : List (List ℕ)) → length (bytes_of slices) ≡ 3072
unfolding bytes_of
length_bytes slices =
    let a : List ℕ = padded 1024 (get_or slices 0 []) in
    let b : List ℕ = padded 1024 (get_or slices 1 []) in
    let c : List ℕ = padded 1024 (get_or slices 2 []) in
    omega (
      arith,
      length-append a (b ++ c),
      length-append b c,
      length_padded 1024 (get_or slices 0 []),
      length_padded 1024 (get_or slices 1 []),
      length_padded 1024 (get_or slices 2 []),
    )

pub length_all : (slices : List (List (List ℕ))) → length (bytes_of_all slices) ≡ 3072 * length slices
unfolding bytes_of_all
length_all [] = refl
length_all (s ∷ earlier) = rw (length-append (bytes_of_all earlier) (bytes_of s)) (omega (arith, length_all earlier, length_bytes s))

-- ---- THE LAW: no two answers have one row
same_view : (v w : RxBurst) → view_row v ≡ view_row w → v ≡ w
unfolding view_row
same_view v w e =
    let a : v.train_type ≡ w.train_type = cc in
    let b : v.train_errs ≡ w.train_errs = cc in
    let c : v.burst_pos ≡ w.burst_pos = cc in
    let d : v.burst_len ≡ w.burst_len = cc in
    λ i. record { train_type = a i; train_errs = b i; burst_pos = c i; burst_len = d i }

counter_tells : (y z : ℤ) → counter_row y ≡ counter_row z → y ≡ z
unfolding counter_row
counter_tells y z e = go (lt_z y (pos 0)) (lt_z z (pos 0)) refl refl cc
  where
    m : mag y ≡ mag z
    m = cc

    go : (a b : Bool) → lt_z y (pos 0) ≡ a → lt_z z (pos 0) ≡ b → ◌≡◌ {A = ℕ} (cond a 1 0) (cond b 1 0) → y ≡ z
    go true true p q s = below_is y p ∙ ap negsuc m ∙ sym (below_is z q)
    go true false p q s = absurd (omega arith)
    go false true p q s = absurd (omega arith)
    go false false p q s = above_is y p ∙ ap pos m ∙ sym (above_is z q)

same_slot : (s t : RxSlot) → row_of (took s) ≡ row_of (took t) → s ≡ t
unfolding row_of view_row counter_row
same_slot s t e =
    let n : s.time.0 ≡ t.time.0 = cc in
    let c : s.closing_counter.0 ≡ t.closing_counter.0 = counter_tells s.closing_counter.0 t.closing_counter.0 (cc) in
    let f : s.full ≡ t.full = same_view s.full t.full (cc) in
    let a : s.subslot1 ≡ t.subslot1 = same_view s.subslot1 t.subslot1 (cc) in
    let b : s.subslot2 ≡ t.subslot2 = same_view s.subslot2 t.subslot2 (cc) in
    λ i. record { time = record { 0 = n i }; closing_counter = record { 0 = c i }; full = f i; subslot1 = a i; subslot2 = b i }

apart : {m n : ℕ} {xs ys : List ℕ} {A : Type 0} → (m ≡ n → ⊥) → ◌≡◌ {A = List ℕ} (m ∷ xs) (n ∷ ys) → A
apart h e = absurd (h (cc))

pub row_tells : (a b : Reply RxSlot) → row_of a ≡ row_of b → a ≡ b
unfolding row_of
row_tells (refused m) (refused n) e = let f : m ≡ n = cc in ap refused f
row_tells (refused m) done e = apart (λ h. omega arith) e
row_tells (refused m) (took s) e = apart (λ h. omega arith) e
row_tells done (refused n) e = apart (λ h. omega arith) e
row_tells done done e = refl
row_tells done (took s) e = apart (λ h. omega arith) e
row_tells (took s) (refused n) e = apart (λ h. omega arith) e
row_tells (took s) done e = apart (λ h. omega arith) e
row_tells (took s) (took t) e = ap took (same_slot s t e)

-- ---- a row copied into a list, from `at` on
pub copied : {A : Type 0} (at k : ℕ) (now part row : List A) → part ≡ row → k ≡ length row → put_mid at k now part ≡ take at now ++ row ++ drop (at + length row) now
copied at k now part row e f = rw (e, f, drop-drop (length row) at now) (sym (append_assoc (take at now) row (drop (at + length row) now)))

-- .. which is no shorter then
pub copied_within : {A : Type 0} (n at k : ℕ) (now part row : List A) → n ≤ length now → at + k ≤ n → part ≡ row → k ≡ length row → n ≤ length (put_mid at k now part)
copied_within n at k now part row h l e f =
    let front : length (take at now) ≡ at = length-take-le at now (omega arith) in
    let end = drop (at + length row) now in
    rw (copied at k now part row e f) (omega (arith, front, length-append (take at now ++ row) end, length-append (take at now) row, length-drop (at + length row) now))

-- ---- a row written behind others, from `at` on
pub behind : (before now after front row : List ℕ) (at size next : ℕ) → now ≡ front ++ drop at before → length front ≡ at → length row ≡ size → next ≡ at + size
    → after ≡ take at now ++ row ++ drop (at + length row) now → after ≡ (front ++ row) ++ drop next before
behind before now after front row at size next e f g h p =
    p ∙ rw (g, e, take_at front (drop at before) at f, h) (ap (λ (l : List ℕ). (front ++ row) ++ l) rest)
  where
    rest : drop (at + size) (front ++ drop at before) ≡ drop (at + size) before
    rest = rw (← f) (drop-append-add front (drop (length front) before) size ∙ drop-drop size (length front) before)

-- three rows of 1,024 bytes, one behind the other
pub three : (zeros a b c first second third : List ℕ) → length zeros ≡ 3072 → length a ≡ 1024 → length b ≡ 1024 → length c ≡ 1024
    → first ≡ take 0 zeros ++ a ++ drop (0 + length a) zeros → second ≡ take 1024 first ++ b ++ drop (1024 + length b) first
    → third ≡ take 2048 second ++ c ++ drop (2048 + length c) second → third ≡ a ++ (b ++ c)
three zeros a b c first second third z la lb lc p q r =
    let one : first ≡ a ++ drop 1024 zeros = behind zeros zeros first [] a 0 1024 1024 refl refl la refl p in
    let two : second ≡ (a ++ b) ++ drop 2048 zeros = behind zeros first second a b 1024 1024 2048 one la lb refl q in
    let ab : length (a ++ b) ≡ 2048 = omega (arith, length-append a b) in
    let all : third ≡ ((a ++ b) ++ c) ++ drop 3072 zeros = behind zeros second third (a ++ b) c 2048 1024 3072 two ab lc refl r in
    let none : drop 3072 zeros ≡ [] = drop_of_length-le zeros {i = 3072} (omega (arith, z)) in
    all ∙ rw (none, append-nil ((a ++ b) ++ c)) (append_assoc a b c)
