-- Intervals of attempts that take turns: each is that of its crit and ends with its own exit, none begins before the one before it has
-- ended, and the last one is open where a process is critical at the end. Assumes nothing.
use Prim.Native.Nat.{ℕ, ◌≤◌}
use mathlib.Core.Path.{◌≡◌, refl, sym, ap, ◌∙◌}
use mathlib.Core.Logic.{◌↔◌}
use mathlib.Core.Bool.{Bool, true, false, true≢false}
use mathlib.Core.List.{List, [], ◌∷◌}
use native.Mathlib.Omega.{arith}
use borrow.Author.Tests.{eq-eqb}
use Rattle.model.specs.Tallies.{Attempt}
use Rattle.intervals.specs.Intervals.{End, ongoing, until, Interval, interval, end_of, intervals_of}
use Rattle.intervals.specs.Runs.{AcceptedCrit, AcceptedExit, Ends, OneForEach, InTurn, OpenFor}
use Rattle.intervals.proofs.Marks.{entry_true, exit_true, entry_false, exit_false, leaves_not_enters}
use Rattle.intervals.proofs.Alternation.{Turn, Alternate}

-- What one attempt more makes of the definitions

module _ {e : Attempt} (es : List Attempt) where
  pub entered_intervals : AcceptedCrit e
      → intervals_of (e ∷ es) ≡ interval e.process e.time (end_of e.process es) ∷ intervals_of es
  unfolding intervals_of
  entered_intervals h = rw (entry_true h)

  pub same_intervals : (AcceptedCrit e → ⊥) → intervals_of (e ∷ es) ≡ intervals_of es
  unfolding intervals_of
  same_intervals n = rw (entry_false n)

  pub ended_there : {p : ℕ} → AcceptedExit e → e.process ≡ p → end_of p (e ∷ es) ≡ until e.time
  unfolding end_of
  ended_there {p} h own = simp (exit_true h, own, eq-eqb p p refl)

  pub same_end : (p : ℕ) → (AcceptedExit e → ⊥) → end_of p (e ∷ es) ≡ end_of p es
  unfolding end_of
  same_end p n = rw (exit_false n)

-- Where an interval ends

ends_later : {p from : ℕ} {e : Attempt} {es : List Attempt} {x : End} → (AcceptedCrit e → ⊥) → (AcceptedExit e → ⊥) → Ends p from es x
    → Ends p from (e ∷ es) x
ends_later {e = e} n m (Ends.exited between l rest is quiet leaves own after) =
    Ends.exited (e ∷ between) l rest (λ i. e ∷ is i) (n, m, quiet) leaves own after
ends_later n m (Ends.stays quiet) = Ends.stays (n, m, quiet)

pub ends_own : {p t r from : ℕ} {es : List Attempt} → Alternate p t es r → 1 ≤ p → from ≤ t → Ends p from es (end_of p es)
unfolding end_of
ends_own Alternate.ended some h = Ends.stays tt
ends_own (Alternate.turned (Turn.enters _ none _ _ _ _) _) some h = absurd (omega arith)
ends_own (Alternate.turned {e = e} {es = es} (Turn.leaves l own _ _ at on) _) some h =
    rw (ended_there es l own) (Ends.exited [] e es refl tt l own (omega (arith, at, on)))
ends_own {p} {from = from} (Alternate.turned {es = es} (Turn.passes n m same on) a) some h =
    rw (same_end es p m) (ends_later n m (rw same at (ends_own {from = from} a (omega (arith, same)) (omega arith))))

-- One for each

pub one_for_each : {p t r : ℕ} {es : List Attempt} → Alternate p t es r → OneForEach es (intervals_of es)
unfolding intervals_of
one_for_each Alternate.ended = OneForEach.none
one_for_each (Alternate.turned {e = e} {es = es} (Turn.enters h _ own some at on) a) =
    rw (entered_intervals es h)
    (OneForEach.covered
    (record { enters = h; process = refl; from = refl; to = rw own at (ends_own {from = e.time} a some (omega (arith, at))) })
    (one_for_each a))
one_for_each (Alternate.turned {es = es} (Turn.leaves l _ _ _ _ _) a) =
    rw (same_intervals es (leaves_not_enters l)) (OneForEach.skipped (leaves_not_enters l) (one_for_each a))
one_for_each (Alternate.turned {es = es} (Turn.passes n _ _ _) a) = rw (same_intervals es n) (OneForEach.skipped n (one_for_each a))

-- One after the other

-- the first of them begins no earlier than t
abbrev FirstFrom : ℕ → List Interval → Type 0
FirstFrom t [] = Unit {0}
FirstFrom t (i ∷ is) = t ≤ i.from

first_sooner : {t u : ℕ} (is : List Interval) → t ≤ u → FirstFrom u is → FirstFrom t is
first_sooner [] h f = tt
first_sooner (i ∷ is) h f = omega arith

turn_next : (i : Interval) (is : List Interval) (m : ℕ) → i.to ≡ until m → i.from ≤ m → FirstFrom m is → InTurn is → InTurn (i ∷ is)
turn_next i [] m e h f r = InTurn.last i
turn_next i (j ∷ is) m e h f r = InTurn.next m e h f r

-- of what is attempted while nobody is critical, and while process p is, whose interval began at `from`
record Follow (p t : ℕ) (es : List Attempt) : Type 0 where
  free : p ≡ 0 → FirstFrom t (intervals_of es) × InTurn (intervals_of es)
  taken : 1 ≤ p → (from : ℕ) → from ≤ t → InTurn (interval p from (end_of p es) ∷ intervals_of es)

follow : {p t r : ℕ} {es : List Attempt} → Alternate p t es r → Follow p t es
unfolding end_of intervals_of
follow Alternate.ended = record { free = λ _. (tt, InTurn.none); taken = λ _ from _. InTurn.last _ }
follow (Alternate.turned {e = e} {es = es} (Turn.enters h none own some at on) a) = record {
  free = λ _. rw (entered_intervals es h) (omega (arith, at, on), rw own at ((follow a).taken some e.time (omega (arith, at))));
  taken = λ some'. absurd (omega arith);
}
follow (Alternate.turned {e = e} {es = es} (Turn.leaves l own some none at on) a) = record {
  free = λ z. absurd (omega arith);
  taken = λ _ from h.
      let rest = (follow a).free none in
      rw (ended_there es l own, same_intervals es (leaves_not_enters l))
      (turn_next _ (intervals_of es) e.time refl (omega (arith, at, on)) (rw at at rest.0) rest.1);
}
follow {p} {t} (Alternate.turned {es = es} (Turn.passes n m same on) a) = record {
  free = λ z.
      let rest = (follow a).free (same ∙ z) in
      rw (same_intervals es n) (first_sooner (intervals_of es) on rest.0, rest.1);
  taken = λ some from h. rw (same_end es p m, same_intervals es n) (rw same at ((follow a).taken (omega (arith, same)) from (omega arith)));
}

pub in_turn : {t r : ℕ} {es : List Attempt} → Alternate 0 t es r → InTurn (intervals_of es)
in_turn a = ((follow a).free refl).1

-- Open at the end

none_open : {x : ℕ} → OpenFor x [] → ⊥
none_open = elim [ ]

abbrev is_ongoing : End → Bool
is_ongoing ongoing = true
is_ongoing (until m) = false

-- one that has ended is passed over
past_open : {x m : ℕ} {i : Interval} {is : List Interval} → i.to ≡ until m → OpenFor x (i ∷ is) → OpenFor x is
past_open e (OpenFor.here own stays) = absurd (true≢false (ap is_ongoing (sym stays ∙ e)))
past_open e (OpenFor.later h) = h

-- one alone is open for its own process
own_open : {x : ℕ} {i : Interval} → OpenFor x (i ∷ []) → i.process ≡ x
own_open (OpenFor.here own stays) = own
own_open (OpenFor.later h) = absurd (none_open h)

-- the last one is open for process r alone, if that is one
record Opens (p r : ℕ) (es : List Attempt) : Type 0 where
  free : p ≡ 0 → (x : ℕ) → OpenFor x (intervals_of es) ↔ ((1 ≤ x) × (r ≡ x))
  taken : 1 ≤ p → (from x : ℕ) → OpenFor x (interval p from (end_of p es) ∷ intervals_of es) ↔ ((1 ≤ x) × (r ≡ x))

opens : {p t r : ℕ} {es : List Attempt} → Alternate p t es r → Opens p r es
unfolding end_of intervals_of
opens Alternate.ended = record {
  free = λ z x. (λ h. absurd (none_open h), λ h. absurd (omega (arith, h.0, h.1)));
  taken = λ some from x. (λ h. let own = own_open h in (omega (arith, own), own), λ h. OpenFor.here h.1 refl);
}
opens (Alternate.turned {e = e} {es = es} (Turn.enters h none own some at on) a) = record {
  free = λ _ x. rw (entered_intervals es h) (rw own at ((opens a).taken some e.time x));
  taken = λ some'. absurd (omega arith);
}
opens (Alternate.turned {e = e} {es = es} (Turn.leaves l own some none at on) a) = record {
  free = λ z. absurd (omega arith);
  taken = λ _ from x.
      let rest = (opens a).free none x in
      rw (ended_there es l own, same_intervals es (leaves_not_enters l))
      (λ h. rest.0 (past_open {m = e.time} refl h), λ h. OpenFor.later (rest.1 h));
}
opens {p} (Alternate.turned {es = es} (Turn.passes n m same on) a) = record {
  free = λ z x. rw (same_intervals es n) ((opens a).free (same ∙ z) x);
  taken = λ some from x. rw (same_end es p m, same_intervals es n) (rw same at ((opens a).taken (omega (arith, same)) from x));
}

pub open_at_end : {t r : ℕ} {es : List Attempt} → Alternate 0 t es r → (x : ℕ) → OpenFor x (intervals_of es) ↔ ((1 ≤ x) × (r ≡ x))
open_at_end a = (opens a).free refl
