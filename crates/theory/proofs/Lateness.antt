-- The first deadline of a state: the smallest, then that of the lowest process, and none exactly where no process has one.
-- Assumes nothing.
use Prim.Native.Nat.{ℕ, ◌+◌, ◌≤◌, ◌<◌}
use mathlib.Core.Path.{◌≡◌, refl}
use mathlib.Core.Logic.{◌≢◌}
use mathlib.Core.Bool.{true, cond}
use mathlib.Core.List.{List, [], ◌∷◌}
use native.Mathlib.Omega.{arith}
use borrow.Author.Tests.{ltb-true, ne_eqb}
use Rattle.model.specs.Types.{Process}
use Rattle.model.specs.Types.{State}
use Rattle.model.specs.States.{bounded, deadline}
use Rattle.model.specs.Answers.{Due, due, none_due, sooner, first_from, first_by, first_deadline, missed}
use Rattle.model.specs.Facts.{HasDeadline}
use Rattle.theory.specs.Lateness.{IsFirst, FirstTold, FirstMissed, FirstIsFirst, NoneMissedIffAllInTime}
use Rattle.model.proofs.Tests.{by_cond, if_eq, and_true_iff, tests}
use Rattle.theory.proofs.Entries.{Among, here, there, each_cons, each_entry, among_from, among_entry}
use Rattle.theory.proofs.Locations.{Latest, latest_deadline, deadline_unique, bounded_latest}

-- The search

-- a deadline d comes before the one found so far, if one was found
abbrev Before : Due → ℕ → Type 0
Before first d = first.process ≢ 0 → d < first.time

-- one was found, and d does not come before it
record After (first : Due) (d : ℕ) : Type 0 where
  some : first.process ≢ 0
  time : first.time ≤ d

-- the deadline d of process p is found rather than the deadline e of process j
record Precedes (p d j e : ℕ) : Type 0 where
  smaller : d ≤ e
  lower : d ≡ e → p ≤ j

-- what holds of every deadline of the entries qs, from process i on
abbrev Each : State → ℕ → List Process → (ℕ → ℕ → Type 0) → Type 0
Each s i qs P = (j : ℕ) (q : Process) → Among i qs j q → (d : ℕ) → Latest s j q d → P j d

-- `IsFirst` of these entries
record First (s : State) (i : ℕ) (qs : List Process) (p d : ℕ) : Type 0 where
  entry : Process
  among : Among i qs p entry
  latest : Latest s p entry d
  all : Each s i qs (Precedes p d)

-- what the search among them gives that begins with `first`
data Searched (s : State) (i : ℕ) (first : Due) (qs : List Process) : Due → Type 0 where
  none : Each s i qs (λ j d. After first d) → Searched s i first qs first
  found : {p d : ℕ} → First s i qs p d → Before first d → Searched s i first qs (due p d)

-- what the search makes of one entry
data Picked (s : State) (i : ℕ) (q : Process) (first : Due) : Due → Type 0 where
  kept : ((d : ℕ) → Latest s i q d → After first d) → Picked s i q first first
  taken : {d : ℕ} → Latest s i q d → Before first d → Picked s i q first (due i d)

picked : (s : State) (i : ℕ) (q : Process) (first : Due)
    → Picked s i q first (cond (sooner (bounded s q) (deadline s i q) first) (due i (deadline s i q)) first)
picked s i q first = by_cond (Picked s i q first) (sooner (bounded s q) (deadline s i q) first)
    (λ e. let h = (and_true_iff (bounded s q) _).0 e in
    taken (bounded_latest s i q h.0) (λ n. ltb-true _ _ (simp (ne_eqb _ 0 n) at h.1)))
    (λ e. kept (λ d h. let k = latest_deadline s i q h in omega (arith, k.1, (simp tests at e) k.0)))

-- the first of the rest is the first of all where it comes before the entry before the rest
first_of_rest : {s : State} {i p d : ℕ} {q : Process} {qs : List Process} → ((e : ℕ) → Latest s i q e → d < e)
    → First s (i + 1) qs p d → First s i (q ∷ qs) p d
first_of_rest h f = record {
  entry = f.entry;
  among = there f.among;
  latest = f.latest;
  all = each_cons _ (λ e g. omega (arith, h e g)) f.all;
}

searched_cons : {s : State} {i : ℕ} {q : Process} {qs : List Process} {first next r : Due} → 1 ≤ i
    → Picked s i q first next → Searched s (i + 1) next qs r → Searched s i first (q ∷ qs) r
searched_cons some (kept h) (none k) = none (each_cons _ h k)
searched_cons some (kept h) (found f b) = found (first_of_rest (λ e g. omega (arith, b (h e g).some, (h e g).time)) f) b
searched_cons some (taken h b) (none k) = found (record {
  entry = _;
  among = here;
  latest = h;
  all = each_cons _ (λ e g. omega (arith, deadline_unique h g)) (λ j r a e g. omega (arith, among_from a, (k j r a e g).time));
}) b
searched_cons some (taken h b) (found f c) =
    let smaller = c (omega arith) in
    found (first_of_rest (λ e g. omega (arith, deadline_unique h g)) f) (λ n. omega (arith, b n))

searched : (s : State) (i : ℕ) (first : Due) (qs : List Process) → 1 ≤ i → Searched s i first qs (first_from s i first qs)
unfolding first_by
searched s i first [] some = none (λ j q a. elim a [ ])
searched s i first (q ∷ qs) some = searched_cons some (picked s i q first) (searched s (i + 1) _ qs (omega arith))

-- The search of a state

module _ (s : State) where
  first_searched : Searched s 1 none_due s.processes (first_deadline s)
  unfolding first_deadline
  first_searched = searched s 1 none_due s.processes (omega arith)

  -- what holds of every deadline of the entries holds of every deadline of a process
  of_deadline : (P : ℕ → ℕ → Type 0) → Each s 1 s.processes P → (i d : ℕ) → HasDeadline s i d → P i d
  of_deadline P k i d h = each_entry (λ j q. (e : ℕ) → Latest s j q e → P j e) (λ j e g. elim g [ ]) s k i h.from d h.is

  is_first : {p d : ℕ} → First s 1 s.processes p d → IsFirst s p d
  is_first {p} {d} f =
      let all = of_deadline (Precedes p d) f.all in
      record {
        has = record { from = among_from f.among; is = rw (among_entry s f.among) f.latest };
        smallest = λ i e h. (all i e h).smaller;
        lowest = λ i h. (all i d h).lower refl;
      }

  first-told : {first : Due} → Searched s 1 none_due s.processes first → FirstTold s first
  first-told (none k) = record {
    none = (λ e i d h. (of_deadline (λ j d. After none_due d) k i d h).some refl, λ h. refl);
    some = λ n. absurd (n refl);
  }
  first-told (found f _) = record {
    none = (λ e. absurd (omega (arith, among_from f.among)), λ h. absurd (h _ _ (is_first f).has));
    some = λ n. is_first f;
  }

pub first_is_first : FirstIsFirst
first_is_first s = first-told s (first_searched s)

pub none_missed_iff_all_in_time : NoneMissedIffAllInTime
none_missed_iff_all_in_time s m =
    let told = first_is_first s in (
      λ e i d h. if_eq (first_deadline s).process 0
          (λ z. absurd (told.none.0 z i d h))
          (λ n. omega (arith, (simp tests at e) n, (told.some n).smallest i d h)),
      λ h. simp tests (λ n. omega (arith, h _ _ (told.some n).has)),
    )

-- A first deadline that is missed

pub missed_first : (s : State) (m : ℕ) → missed (first_deadline s) m ≡ true
    → FirstMissed s m (first_deadline s).process (first_deadline s).time
missed_first s m e =
    let h = simp tests at e in
    record { first = (first_is_first s).some h.0; missed = omega (arith, h.1) }

-- it is the only one
first_unique : {s : State} {p d i e : ℕ} → IsFirst s p d → IsFirst s i e → due p d ≡ due i e
first_unique {s} {p} {d} {i} {e} f g =
    let time : d ≡ e = omega (arith, f.smallest i e g.has, g.smallest p d f.has) in
    let process : p ≡ i = omega (arith, f.lowest i (rw time g.has), g.lowest p (rw (← time) f.has)) in
    λ j. due (process j) (time j)

pub first_is_due : {s : State} {p d : ℕ} → IsFirst s p d → first_deadline s ≡ due p d
first_is_due {s} {p} {d} f =
    let told = first_is_first s in
    first_unique (told.some (λ z. told.none.0 z p d f.has)) f
