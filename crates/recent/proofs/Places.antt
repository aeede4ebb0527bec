-- Laws of the places of a lent board: places wrap around, and a ring of entries is taken apart at its first one, and at the end of the places.
-- Assumes nothing.
use Prim.Native.Nat.{ℕ, zero, suc, ◌+◌, ◌-◌, ◌≤◌, ◌<◌, min}
use mathlib.Core.Path.{◌≡◌, refl, sym, ap, ◌∙◌}
use mathlib.Core.Logic.{◌≢◌}
use mathlib.Core.List.{List, [], ◌∷◌, ◌++◌, append-nil}
use native.Mathlib.Omega.{arith}
use native.Mathlib.Numerals.{add-one}
use borrow.Author.Tests.{lt-ltb, le-ltb}
use lib.ListN.{length, get_or, drop, length-append}
use lib.Seq.{ext_get_or}
use Rattle.model.proofs.Tests.{if_lt}
use Rattle.recent.specs.Boards.{Entry, most_kept}
use Rattle.recent.specs.Encodings.{wrapped, entry_at, entries_from, ring_from}

-- Places

pub wrapped_inside : (k : ℕ) → k < most_kept → wrapped k ≡ k
unfolding wrapped
wrapped_inside k h = simp (lt-ltb _ _ h)

pub wrapped_past : (k : ℕ) → most_kept ≤ k → wrapped k ≡ k - most_kept
unfolding wrapped
wrapped_past k h = simp (le-ltb _ _ h)

-- a place that is not twice around is one
pub wrapped_below : (k : ℕ) → k < most_kept + most_kept → wrapped k < most_kept
wrapped_below k h =
    if_lt k most_kept
    (λ g. omega (arith, wrapped_inside k g))
    (λ g. omega (arith, wrapped_past k g))

-- to go on from where a place wraps to is to go on from the place
pub wrapped_on : (k i : ℕ) → k + i < most_kept + most_kept → wrapped (wrapped k + i) ≡ wrapped (k + i)
wrapped_on k i h =
    if_lt k most_kept
    (λ b. ap (λ (p : ℕ). wrapped (p + i)) (wrapped_inside k b))
    (λ b. ap (λ (p : ℕ). wrapped (p + i)) (wrapped_past k b) ∙ wrapped_inside (k - most_kept + i) (omega arith)
    ∙ omega (arith, wrapped_past (k + i) (omega arith)))

-- places that are less than once around apart are two
pub wrapped_apart : (k i j : ℕ) → k < most_kept → i < j → j < most_kept → wrapped (k + i) ≢ wrapped (k + j)
wrapped_apart k i j h b g e =
    if_lt (k + j) most_kept
    (λ c. omega (arith, wrapped_inside (k + i) (omega arith), wrapped_inside (k + j) c))
    (λ c. if_lt (k + i) most_kept
    (λ d. omega (arith, wrapped_inside (k + i) d, wrapped_past (k + j) c))
    (λ d. omega (arith, wrapped_past (k + i) d, wrapped_past (k + j) c)))

-- Entries in straight places

pub entries_none : (l : List ℕ) (k : ℕ) → entries_from l k 0 ≡ []
unfolding entries_from
entries_none l k = refl

pub entries_next : (l : List ℕ) (k n : ℕ) → entries_from l k (n + 1) ≡ entry_at l k ∷ entries_from l (k + 1) n
unfolding entries_from
entries_next l k n = rw (add-one n)

pub entries_length : (l : List ℕ) (k n : ℕ) → length (entries_from l k n) ≡ n
unfolding entries_from
entries_length l k zero = refl
entries_length l k (suc n) = ap suc (entries_length l (k + 1) n)

-- A ring

-- up to the end of the places it is straight
pub ring_straight : (l : List ℕ) (k n : ℕ) → k + n ≤ most_kept → ring_from l k n ≡ entries_from l k n
unfolding ring_from
ring_straight l k n h =
    let whole : min n (most_kept - k) ≡ n = omega arith in
    let past : n - (most_kept - k) ≡ 0 = omega arith in
    rw (whole, past, entries_none l 0) (append-nil (entries_from l k n))

-- past that end it goes on at place 0
pub ring_around : (l : List ℕ) (k n : ℕ) → k ≤ most_kept → most_kept ≤ k + n
    → ring_from l k n ≡ entries_from l k (most_kept - k) ++ entries_from l 0 (k + n - most_kept)
unfolding ring_from
ring_around l k n h g =
    let whole : min n (most_kept - k) ≡ most_kept - k = omega arith in
    let past : n - (most_kept - k) ≡ k + n - most_kept = omega arith in
    rw (whole, past)

pub ring_length : (l : List ℕ) (k n : ℕ) → length (ring_from l k n) ≡ n
unfolding ring_from
ring_length l k n = simp (length-append, entries_length) (omega arith)

pub ring_none : (l : List ℕ) (k : ℕ) → k ≤ most_kept → ring_from l k 0 ≡ []
ring_none l k h = ring_straight l k 0 (omega arith) ∙ entries_none l k

-- its first entry, and the ring from the next place on
pub ring_next : (l : List ℕ) (k n : ℕ) → k < most_kept → n + 1 ≤ most_kept → ring_from l k (n + 1) ≡ entry_at l k ∷ ring_from l (wrapped (k + 1)) n
unfolding ring_from
ring_next l k n h g =
    if_lt (k + 1) most_kept
    (λ b. let front : min (n + 1) (most_kept - k) ≡ min n (most_kept - (k + 1)) + 1 = omega arith in
    let past : n + 1 - (most_kept - k) ≡ n - (most_kept - (k + 1)) = omega arith in
    rw (wrapped_inside (k + 1) b, front, past, entries_next l k (min n (most_kept - (k + 1)))))
    (λ b. let round : wrapped (k + 1) ≡ 0 = wrapped_past (k + 1) b ∙ omega arith in
    let front : min (n + 1) (most_kept - k) ≡ 0 + 1 = omega arith in
    let past : n + 1 - (most_kept - k) ≡ n = omega arith in
    let whole : min n (most_kept - 0) ≡ n = omega arith in
    let none : n - (most_kept - 0) ≡ 0 = omega arith in
    rw (round, front, past, whole, none, entries_next l k 0, entries_none l (k + 1), entries_none l 0, append-nil (entries_from l 0 n)))

-- entry i of it stands i places on
pub ring_at : (l : List ℕ) (k n i : ℕ) (d : Entry) → k < most_kept → n ≤ most_kept → i < n → get_or (ring_from l k n) i d ≡ entry_at l (wrapped (k + i))
ring_at l k zero i d h g b = absurd (omega arith)
ring_at l k (suc n) zero d h g b =
    let here : wrapped (k + 0) ≡ k = wrapped_inside (k + 0) (omega arith) ∙ omega arith in
    rw (← add-one n, ring_next l k n h (omega arith)) (ap (entry_at l) (sym here))
ring_at l k (suc n) (suc i) d h g b =
    let on : wrapped (wrapped (k + 1) + i) ≡ wrapped (k + suc i) = wrapped_on (k + 1) i (omega arith) ∙ ap wrapped (omega arith) in
    rw (← add-one n, ring_next l k n h (omega arith))
    (ring_at l (wrapped (k + 1)) n i d (wrapped_below (k + 1) (omega arith)) (omega arith) (omega arith) ∙ ap (entry_at l) on)

-- it tells nothing but the entries in its places
pub ring_same : (l m : List ℕ) (k n : ℕ) → k < most_kept → n ≤ most_kept
    → ((i : ℕ) → i < n → entry_at l (wrapped (k + i)) ≡ entry_at m (wrapped (k + i))) → ring_from l k n ≡ ring_from m k n
ring_same l m k n h g same =
    ext_get_or (entry_at l 0) (ring_from l k n) (ring_from m k n) (ring_length l k n ∙ sym (ring_length m k n))
    (λ i b. let b' : i < n = omega (arith, ring_length l k n) in
    ring_at l k n i (entry_at l 0) h g b' ∙ same i b' ∙ sym (ring_at m k n i (entry_at l 0) h g b'))

-- one entry more comes in the place after its last one
pub ring_snoc : (l : List ℕ) (k n : ℕ) → k < most_kept → n + 1 ≤ most_kept → ring_from l k (n + 1) ≡ ring_from l k n ++ (entry_at l (wrapped (k + n)) ∷ [])
ring_snoc l k zero h g =
    let here : wrapped (k + 0) ≡ k = wrapped_inside (k + 0) (omega arith) ∙ omega arith in
    ring_next l k 0 h (omega arith)
    ∙ rw (ring_none l (wrapped (k + 1)) (omega (arith, wrapped_below (k + 1) (omega arith))), ring_none l k (omega arith), here)
ring_snoc l k (suc n) h g =
    let on : wrapped (wrapped (k + 1) + n) ≡ wrapped (k + suc n) = wrapped_on (k + 1) n (omega arith) ∙ ap wrapped (omega arith) in
    let next = wrapped_below (k + 1) (omega arith) in
    ring_next l k (suc n) h g
    ∙ rw (← add-one n, ring_snoc l (wrapped (k + 1)) n next (omega arith), ring_next l k n h (omega arith), on, add-one n)

-- without its first entries it begins as many places on
pub ring_drop : (l : List ℕ) (k n d : ℕ) → k < most_kept → d ≤ n → n ≤ most_kept → drop d (ring_from l k n) ≡ ring_from l (wrapped (k + d)) (n - d)
ring_drop l k n zero h b g = let here : wrapped (k + 0) ≡ k = wrapped_inside (k + 0) (omega arith) ∙ omega arith in
    let all : n - 0 ≡ n = omega arith in
    rw (here, all)
ring_drop l k zero (suc d) h b g = absurd (omega arith)
ring_drop l k (suc n) (suc d) h b g =
    let on : wrapped (wrapped (k + 1) + d) ≡ wrapped (k + suc d) = wrapped_on (k + 1) d (omega arith) ∙ ap wrapped (omega arith) in
    ap (drop (suc d)) (ap (ring_from l k) (sym (add-one n)) ∙ ring_next l k n h (omega arith))
    ∙ ring_drop l (wrapped (k + 1)) n d (wrapped_below (k + 1) (omega arith)) (omega arith) (omega arith)
    ∙ let less : suc n - suc d ≡ n - d = omega arith in rw (on, less)
