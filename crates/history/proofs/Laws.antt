-- The laws of the past that callers go by: a store at the next place makes a newest element, and the rings hold the newest 2,048 of a list.
-- Those of rings are over any length: at 2,048 they are only applied. Assumes nothing.
use mathlib.Core.Path.{◌≡◌, refl, sym, ap, ◌∙◌}
use mathlib.Core.List.{List, [], ◌∷◌, ◌++◌, map}
use Prim.Native.Nat.{ℕ, zero, suc, ◌+◌, ◌-◌, ◌%◌, ◌<◌, ◌≤◌}
use native.Mathlib.Nat.{mod-lt, mod-eq_of_lt, mod-mod, mod-add-mod}
use native.Mathlib.Omega.{arith}
use native.Mathlib.Numerals.{add-one}
use lib.Dec.{lit<}
use lib.ListN.{length, get_or, set, take, get_or-map}
use lib.Seq.{take-suc, paste}
use Rattle.std.proofs.lemmas.List.Edits.{paste_none, paste_more, length-paste}
use lib.Ieee.{Float, nan}
use Rattle.dsp_types.specs.declared.ComplexSample.{ComplexSample}
use Rattle.dsp_types.specs.Samples.{zero_f, silence, ago}
use Rattle.dsp_types.specs.Ring.{place_of, ring_at, ring_sample, newest}
use Rattle.dsp_types.proofs.RingLaws.{next, newest_later, ring_later, newest_at}
use Rattle.history.specs.History.{held_in, samples_in, held_after}

-- ---- rings of any length, with an index that counts modulo it

ring_write : (n : ℕ) (ring : List Float) (at : ℕ) (x : Float) → length ring ≡ n → 0 < n
    → newest n (ring_at nan n (set ring ((at % n + 1) % n) x) (((at % n + 1) % n) % n)) ≡ take n (x ∷ newest n (ring_at nan n ring (at % n)))
unfolding next
ring_write n ring at x w h =
    rw (mod-eq_of_lt (mod-lt (at % n + 1) h)) (newest_later n x (ring_later nan n ring (at % n) x w (mod-lt at h)))

-- ---- what a store at the next place does

pub held_write : (ring : List Float) (at : ℕ) (x : Float) → length ring ≡ 2048
    → held_in (set ring ((at % 2048 + 1) % 2048) x) ((at % 2048 + 1) % 2048) ≡ take 2048 (x ∷ held_in ring at)
unfolding held_in
held_write ring at x w = ring_write 2048 ring at x w (lit< tt)

-- ---- an element of a ring

pub recalled : (ring : List Float) (at delay : ℕ)
    → get_or ring ((at % 2048 + 2048 - delay % 2048) % 2048) nan ≡ ago zero_f (held_in ring at) (delay % 2048)
unfolding held_in ring_at place_of
recalled ring at delay = sym (newest_at 2048 (ring_at nan 2048 ring (at % 2048)) zero_f (delay % 2048) (mod-lt delay (lit< tt)))

-- an index that is within already
pub held_mod : (ring : List Float) (at : ℕ) → held_in ring (at % 2048) ≡ held_in ring at
unfolding held_in
held_mod ring at = rw (mod-mod at 2048)

-- ---- the parts of samples

newest_map : {A B : Type 0} (g : A → B) (n : ℕ) (f : ℕ → A) → map g (newest n f) ≡ newest n (λ d. g (f d))
unfolding newest
newest_map g zero f = refl
newest_map g (suc n) f = ap (λ l. g (f zero) ∷ l) (newest_map g n (λ d. f (suc d)))

pub re_held : (re im : List Float) (at : ℕ) → map (λ s. s.re) (samples_in re im at) ≡ held_in re at
unfolding samples_in held_in ring_sample
re_held re im at = newest_map (λ s. s.re) 2048 (ring_sample 2048 re im (at % 2048))

pub im_held : (re im : List Float) (at : ℕ) → map (λ s. s.im) (samples_in re im at) ≡ held_in im at
unfolding samples_in held_in ring_sample
im_held re im at = newest_map (λ s. s.im) 2048 (ring_sample 2048 re im (at % 2048))

-- a sample is its parts
pub sample_held : (re im : List Float) (at d : ℕ)
    → ago silence (samples_in re im at) d ≡ record { re = ago zero_f (held_in re at) d; im = ago zero_f (held_in im at) d }
sample_held re im at d =
    rw (← re_held re im at, ← im_held re im at)
    (λ i. record { re = sym (get_or-map (λ s. s.re) (samples_in re im at) d silence) i; im = sym (get_or-map (λ s. s.im) (samples_in re im at) d silence) i })

-- ---- several stores

after_snoc : {A : Type 0} (held xs : List A) (x : A) → held_after held (xs ++ (x ∷ [])) ≡ take 2048 (x ∷ held_after held xs)
unfolding held_after
after_snoc held [] x = refl
after_snoc held (y ∷ xs) x = after_snoc (take 2048 (y ∷ held)) xs x

-- the place after n stores and then k
pub place_after : (m at n k : ℕ) → ((at + n) % m % m + k) % m ≡ (at + (n + k)) % m
place_after m at n k =
    let e : at + n + k ≡ at + (n + k) = omega arith in
    rw (mod-mod (at + n) m, mod-add-mod (at + n) m k, e)

-- the place after n + 1 stores is n behind the next one, where that is within the ring
place_in_run : (m at n : ℕ) → (at + 1) % m + n < m → (at + (n + 1)) % m ≡ (at + 1) % m + n
place_in_run m at n k =
    let e : at + (n + 1) ≡ at + 1 + n = omega arith in
    rw e (sym (mod-add-mod (at + 1) m n) ∙ mod-eq_of_lt k)

-- one element more of a run
run_step : (ring held from : List Float) (at n : ℕ) → length ring ≡ 2048 → n < length from → (at % 2048 + 1) % 2048 + n < 2048
    → held_in ring ((at % 2048 + n) % 2048) ≡ held_after held (take n from)
    → held_in (set ring ((at % 2048 + 1) % 2048 + n) (get_or from n nan)) ((at % 2048 + (n + 1)) % 2048) ≡ held_after held (take (n + 1) from)
run_step ring held from at n w h k e =
    rw (← place_in_run 2048 (at % 2048) n k)
    ((rw (place_after 2048 (at % 2048) n 1) at (held_write ring ((at % 2048 + n) % 2048) (get_or from n nan) w))
    ∙ rw (add-one n, take-suc from n nan h, e) (sym (after_snoc held (take n from) (get_or from n nan))))

-- the first n elements of a run
pub run_stored : (ring from : List Float) (at n : ℕ) → length ring ≡ 2048 → n ≤ length from → (at % 2048 + 1) % 2048 + n ≤ 2048
    → held_in (paste ring ((at % 2048 + 1) % 2048) from n) ((at % 2048 + n) % 2048) ≡ held_after (held_in ring at) (take n from)
unfolding held_after
run_stored ring from at zero w h k =
    let e : (at % 2048 + 0) % 2048 ≡ at % 2048 = omega arith in
    rw (← paste_none ring ((at % 2048 + 1) % 2048) from, e) (held_mod ring at)
run_stored ring from at (suc n) w h k =
    let start : ℕ = (at % 2048 + 1) % 2048 in
    let long : length (paste ring start from n) ≡ 2048 = length-paste ring start from n (omega arith) (omega arith) ∙ w in
    rw (← add-one n, ← paste_more ring start from n nan (omega arith) h)
    (run_step (paste ring start from n) (held_in ring at) from at n long h (omega arith) (run_stored ring from at n w (omega arith) (omega arith)))

pub after_append : {A : Type 0} (held xs ys : List A) → held_after held (xs ++ ys) ≡ held_after (held_after held xs) ys
unfolding held_after
after_append held [] ys = refl
after_append held (x ∷ xs) ys = after_append (take 2048 (x ∷ held)) xs ys

map_take : {A B : Type 0} (g : A → B) (n : ℕ) (l : List A) → map g (take n l) ≡ take n (map g l)
map_take g zero l = refl
map_take g (suc n) [] = refl
map_take g (suc n) (x ∷ l) = ap (λ r. g x ∷ r) (map_take g n l)

map_after : {A B : Type 0} (g : A → B) (held xs : List A) → map g (held_after held xs) ≡ held_after (map g held) (map g xs)
unfolding held_after
map_after g held [] = refl
map_after g held (x ∷ xs) = map_after g (take 2048 (x ∷ held)) xs ∙ ap (λ l. held_after l (map g xs)) (map_take g 2048 (x ∷ held))

-- samples with the same parts are the same
same_parts : (xs ys : List ComplexSample) → map (λ s. s.re) xs ≡ map (λ s. s.re) ys → map (λ s. s.im) xs ≡ map (λ s. s.im) ys → xs ≡ ys
same_parts [] [] a b = refl
same_parts [] (y ∷ ys) a b = absurd (let z : ◌≡◌ {A = ℕ} 0 1 = cc in omega arith)
same_parts (x ∷ xs) [] a b = absurd (let z : ◌≡◌ {A = ℕ} 0 1 = cc in omega arith)
same_parts (x ∷ xs) (y ∷ ys) a b =
    let re : x.re ≡ y.re = cc in
    let im : x.im ≡ y.im = cc in
    let rest = same_parts xs ys (cc) (cc) in
    λ i. record { re = re i; im = im i } ∷ rest i

-- both parts are stored, each by itself
pub samples_after : (re im re' im' : List Float) (at at' : ℕ) (ys : List ComplexSample)
    → held_in re' at' ≡ held_after (held_in re at) (map (λ s. s.re) ys) → held_in im' at' ≡ held_after (held_in im at) (map (λ s. s.im) ys)
    → samples_in re' im' at' ≡ held_after (samples_in re im at) ys
samples_after re im re' im' at at' ys a b =
    same_parts (samples_in re' im' at') (held_after (samples_in re im at) ys)
    (re_held re' im' at' ∙ a ∙ rw (← re_held re im at) (sym (map_after (λ s. s.re) (samples_in re im at) ys)))
    (im_held re' im' at' ∙ b ∙ rw (← im_held re im at) (sym (map_after (λ s. s.im) (samples_in re im at) ys)))

-- once nothing is left to store, all is
pub none_left : {A : Type 0} (held after rest : List A) → length rest ≡ 0 → held_after held rest ≡ after → held ≡ after
unfolding held_after
none_left held after [] e h = h
none_left held after (x ∷ rest) e h = absurd (omega arith)
