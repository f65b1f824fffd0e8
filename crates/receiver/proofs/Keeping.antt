-- Between windows samples are only kept, so that a block of them may be kept at once. Assumes nothing.
use mathlib.Core.Path.{◌≡◌, refl, sym, ap, ◌∙◌}
use mathlib.Core.Bool.{Bool, true, false, ◌||◌}
use mathlib.Core.List.{List, [], ◌∷◌, ◌++◌}
use Prim.Native.Nat.{ℕ, suc, ◌+◌, ◌≤◌, ◌<◌, min}
use native.Mathlib.Nat.{min-eq_right}
use native.Mathlib.Omega.{arith}
use lib.ListN.{length}
use lib.IntN.{ℤ, pos, negsuc, ◌+ℤ◌, ◌-ℤ◌}
use lib.Signed.{lt_z}
use Rattle.dsp_types.proofs.Laws.{out_of_count_lem}
use Rattle.dsp_types.specs.declared.ComplexSample.{ComplexSample}
use Rattle.dsp_types.specs.Ints.{up, dn, eq_z}
use Rattle.dsp_types.proofs.IntLaws.{sum, less, same, lt_z_no, eq_z_no}
use Rattle.dsp_types.specs.Refusals.{beyond, last_counter, out_of_count}
use Rattle.listener.specs.Signal.{hear_all}
use Rattle.slot_receiver.specs.Receiver.{Receiver, lost_at, with_clock, with_lock, with_next, with_signal, valid_count, valid_lock, valid, listen, tdiff, far, skip_if, skipped, closes, close_if, ready, arrive, process_sample, missing, feed_zeros, zeros_before, accept}
use Rattle.slot_receiver.specs.Windows.{hands_over, window_if, window_at, window_of, zeros_windows, accept_windows}
use Rattle.slot_receiver.specs.Calls.{sample_refusal}
use Rattle.slot_receiver.proofs.Keeping.{Quiet, quiet_samples_lem}
use Rattle.receiver.specs.Feed.{Block, feed_of}
use Rattle.receiver.specs.Keep.{keep_all, any_beyond, OnlyKept}
use Rattle.receiver.proofs.Feeding.{ahead, goes_on}
use Rattle.receiver.proofs.Samples.{counted}

-- ---- one sample

-- no sample is missing before the counter c, and n from there on are only kept
pub record QuietAt (r : Receiver) (c : ℤ) (n : ℕ) : Type 0 where
  pub follows : r.next ≡ c
  pub quiet : Quiet r.clock r.lock.misses c n

-- ... and so are fewer
pub quiet_at : (r : Receiver) (c : ℤ) (n m : ℕ) → 0 < n → OnlyKept r.clock r.lock.misses r.next c n → m ≤ n → QuietAt r c m
quiet_at r c n m h o l =
    let q : Quiet r.clock r.lock.misses c n = rw o.quiet (quiet_samples_lem r.clock r.lock.misses c (rw (← o.quiet) h)) in
    record {
      follows = o.follows;
      quiet = record { clock = q.clock; few = q.few; low = q.low; high = omega (arith, l, q.high); before = omega (arith, l, q.before); near = q.near };
    }

none_missing : (z : ℤ) → up z ≤ dn z → missing z ≡ 0
unfolding missing
none_missing (pos n) h = omega arith
none_missing (negsuc n) h = refl

module _ (r : Receiver) (c : ℤ) (n : ℕ) (a : QuietAt r c (suc n)) where
  q : Quiet r.clock r.lock.misses c (suc n)
  q = a.quiet

  at_counter : valid_count r.next ≡ c
  at_counter = ap valid_count a.follows ∙ counted c (record { high = omega (arith, q.high); low = q.low })

  not_closing : eq_z (c -ℤ pos 16) r.clock.slot_ready_time ≡ false
  not_closing = eq_z_no (c -ℤ pos 16) r.clock.slot_ready_time (λ e. omega (arith, e, less c (pos 16), q.before, q.low))

  no_zeros : zeros_before r c ≡ 0
  unfolding zeros_before
  no_zeros = rw at_counter (none_missing (c -ℤ c) (omega (arith, less c c)))

  module _ (x : ComplexSample) where
    abbrev l : Receiver
    l = listen r x

    as_it_is : valid l ≡ l
    unfolding valid valid_lock listen with_signal with_clock with_lock
    as_it_is = let m : min lost_at r.lock.misses ≡ r.lock.misses = min-eq_right q.few in rw (m, q.clock)

    not_far : far (tdiff l c) ≡ false
    unfolding far tdiff listen with_signal
    not_far =
        let ready = r.clock.slot_ready_time in
        let t = c -ℤ pos 16 -ℤ ready in
        let u = less (c -ℤ pos 16) ready in
        let v = less c (pos 16) in
        let a : lt_z t (negsuc 2039) ≡ false = lt_z_no t (negsuc 2039) (omega (arith, u, v, q.near, q.low)) in
        let b : lt_z (pos 0) t ≡ false = lt_z_no (pos 0) t (omega (arith, u, v, q.before, q.low)) in
        rw (a, b)

    no_skip : ready l c ≡ l
    unfolding ready skipped skip_if
    no_skip = rw (as_it_is, not_far)

    no_close : closes l c ≡ false
    unfolding closes listen with_signal
    no_close = not_closing

    only_kept : process_sample r x c ≡ l
    unfolding process_sample arrive close_if
    only_kept = rw (no_skip, no_close)

    accepted : accept r x c ≡ with_next l (c +ℤ pos 1)
    unfolding accept feed_zeros
    accepted = rw (no_zeros, only_kept)

    no_window : accept_windows r x c ≡ []
    unfolding accept_windows feed_zeros zeros_windows window_of window_at window_if
    no_window = rw (no_zeros, no_skip, no_close)

    not_refused : (beyond x.re || beyond x.im) ≡ false → sample_refusal (valid_count r.next) x c ≡ 0
    unfolding sample_refusal
    not_refused f =
        let a : lt_z c (pos 0) ≡ false = lt_z_no c (pos 0) (omega (arith, q.low)) in
        let b : lt_z (pos last_counter) c ≡ false = lt_z_no (pos last_counter) c (omega (arith, q.low, q.high)) in
        let o : out_of_count c ≡ false = sym (out_of_count_lem c) ∙ rw (a, b) in
        let d : lt_z c c ≡ false = lt_z_no c c (omega arith) in
        rw (at_counter, f, o, d)

    still : QuietAt (with_next l (c +ℤ pos 1)) (c +ℤ pos 1) n
    unfolding with_next listen with_signal
    still = record { follows = refl; quiet = go (c +ℤ pos 1) (sum c (pos 1)) }
      where
        go : (z : ℤ) → up z + dn c + 0 ≡ dn z + up c + 1 → Quiet r.clock r.lock.misses z n
        go (pos m) s =
            record {
              clock = q.clock;
              few = q.few;
              low = omega arith;
              high = omega (arith, s, q.low, q.high);
              before = omega (arith, s, q.low, q.before);
              near = omega (arith, s, q.low, q.near);
            }
        go (negsuc m) s = absurd (omega (arith, s, q.low))

-- one sample that is only kept is one that is accepted
pub kept_one : (r : Receiver) (x : ComplexSample) (c : ℤ) → QuietAt r c 1 → (beyond x.re || beyond x.im) ≡ false
    → (sample_refusal (valid_count r.next) x c ≡ 0) × (with_next (listen r x) (c +ℤ pos 1) ≡ accept r x c)
kept_one r x c a f = (not_refused r c 0 a x f, sym (accepted r c 0 a x))

-- ---- a block

record Neither (a b : Bool) : Type 0 where
  first : a ≡ false
  others : b ≡ false

or_no : (a b : Bool) → (a || b) ≡ false → Neither a b
or_no true b e = absurd (let z : ◌≡◌ {A = ℕ} 0 1 = cc in omega arith)
or_no false b e = record { first = refl; others = e }

none : false ≡ hands_over []
unfolding hands_over
none = refl

-- a receiver that expects its own counter
as_next : (r : Receiver) (c : ℤ) → r.next ≡ c → with_next r c ≡ r
unfolding with_next
as_next r c e = rw (← e)

pub kept_block : (xs ys : List ComplexSample) (all : Block) (k : ℕ) (r : Receiver) (c : ℤ) → QuietAt r c (length xs) → any_beyond xs ≡ false
    → all ≡ ahead k (feed_of r (xs ++ ys) c) → all ≡ ahead (k + length xs) (feed_of (keep_all r xs (c +ℤ pos (length xs))) ys (c +ℤ pos (length xs)))
unfolding any_beyond keep_all hear_all with_next listen with_signal
kept_block [] ys all k r c q f e =
    let n : k + 0 ≡ k = omega arith in
    let z : c +ℤ pos 0 ≡ c = same (c +ℤ pos 0) c (omega (arith, sum c (pos 0))) in
    let s : keep_all r [] c ≡ r = as_next r c q.follows in
    e ∙ rw (n, z, s)
kept_block (x ∷ xs) ys all k r c q f e =
    let fine = or_no (beyond x.re || beyond x.im) (any_beyond xs) f in
    let q1 = still r c (length xs) q x in
    let g : with_next (listen r x) (c +ℤ pos 1) ≡ accept r x c = sym (accepted r c (length xs) q x) in
    let w : false ≡ hands_over (accept_windows r x c) = rw (no_window r c (length xs) q x) none in
    let d = goes_on all k r c x (xs ++ ys) e (not_refused r c (length xs) q x fine.first) (with_next (listen r x) (c +ℤ pos 1)) g false w refl in
    let n : k + 1 + length xs ≡ k + suc (length xs) = omega arith in
    let z : c +ℤ pos 1 +ℤ pos (length xs) ≡ c +ℤ pos (suc (length xs)) =
    same (c +ℤ pos 1 +ℤ pos (length xs)) (c +ℤ pos (suc (length xs))) (omega (arith, sum c (pos 1), sum (c +ℤ pos 1) (pos (length xs)), sum c (pos (suc (length xs))))) in
    rw (n, z) at (kept_block xs ys all (k + 1) (with_next (listen r x) (c +ℤ pos 1)) (c +ℤ pos 1) q1 fine.others d)
