-- What holds of the accepted log of every run from a fresh state: an entry for each accepted action of the process, and times that do not fall.
-- Assumes nothing.
use Prim.Native.Nat.{ℕ, ◌≤◌}
use mathlib.Core.Path.{◌≡◌, refl}
use mathlib.Core.Logic.{◌↔◌, ◌⊎◌, inl, inr, ◌≢◌}
use mathlib.Core.Bool.{true}
use mathlib.Core.List.{List, [], ◌∷◌}
use native.Mathlib.Omega.{arith}
use borrow.Author.Tests.{eq-eqb, ne_eqb}
use Rattle.model.specs.declared.Parameters.{Parameters}
use Rattle.model.specs.Types.{Location}
use Rattle.model.specs.Types.{State}
use Rattle.model.specs.Acts.{withdraw_act}
use Rattle.model.specs.Answers.{fresh_of}
use Rattle.model.specs.Facts.{Accepted}
use Rattle.model.specs.Folds.{results_by}
use Rattle.model.specs.Tallies.{Attempt, attempted}
use Rattle.model.specs.Texts.{Event}
use Rattle.model.specs.Executions.{step_by, state_after, attempts_of, attempts_from}
use Rattle.model.proofs.Tests.{by_test, if_eq, clash, tests}
use Rattle.theory.specs.Acceptance.{From, Waits, Acts}
use Rattle.theory.proofs.Acceptance.{refused_stays}
use Rattle.theory.proofs.Soundness.{stand_fresh}
use Rattle.lists.proofs.Reached.{Reached, fresh_reached, step_tells, step_reached}
use Rattle.grammar.specs.Exact.{Says}
use Rattle.local_log.specs.Comparisons.{Entry, entry, InTime}
use Rattle.local_log.proofs.Answers.{answered_exactly}
use Rattle.accepted_log.specs.AcceptedLogs.{is_accepted_of, accepted_log, trace_log}
use Rattle.accepted_log.proofs.Keeping.{run_few}
use Rattle.accepted_log.specs.Answers.{LogShort, AcceptedOf, OneForEach, none, skipped, logged, InOrder, EveryLog, BoundsLocal}

-- Any attempts

accepted_iff : (p : ℕ) (e : Attempt) → (is_accepted_of p e ≡ true) ↔ AcceptedOf p e
accepted_iff p e = (
  λ t. let h : (e.code ≡ 0) × (e.process ≡ p) = simp tests at t in record { accepted = h.0; process = h.1 },
  λ h. simp tests (h.accepted, h.process),
)

one_for_each : (p : ℕ) (es : List Attempt) → OneForEach p es (accepted_log p es)
unfolding accepted_log
one_for_each p [] = none
one_for_each p (e ∷ es) = by_test (is_accepted_of p e)
    (λ t. rw t (logged ((accepted_iff p e).0 t) refl refl (one_for_each p es)))
    (λ t. rw t (skipped (λ h. clash ((accepted_iff p e).1 h) t) (one_for_each p es)))

-- [13.130]
pub log_short : LogShort
log_short k events p = run_few p (fresh_of k).state events

-- The order

-- what is in order from a time on is so from an earlier one on
order_from : (from to : ℕ) (log : List Entry) → from ≤ to → InOrder to log → InOrder from log
order_from from to [] h o = tt
order_from from to (x ∷ log) h o = (omega (arith, o.0), o.1, o.2, o.3, o.4)

-- an act that leaves a place is none but 1 to 9
some_act : {b m act : ℕ} {l : Location} → From b m act l → (1 ≤ act) × (act ≤ withdraw_act)
some_act From.try = (omega arith, omega arith)
some_act From.test = (omega arith, omega arith)
some_act From.set = (omega arith, omega arith)
some_act (From.check h) = (omega arith, omega arith)
some_act From.crit = (omega arith, omega arith)
some_act From.exit = (omega arith, omega arith)
some_act From.reset = (omega arith, omega arith)
some_act From.rem = (omega arith, omega arith)
some_act From.withdraw = (omega arith, omega arith)

own_act : {s : State} {act p m : ℕ} → 1 ≤ p → Waits act p ⊎ Acts s act p m → (1 ≤ act) × (act ≤ withdraw_act)
own_act h (inl w) = absurd (omega (arith, w.nobody))
own_act h (inr a) = some_act a.from

-- one step, and the log of those after it, which is in order from the clock on
module _ {k : Parameters} {s : State} (r : Reached k s) (p : ℕ) (some : 1 ≤ p) (e : Event) where
  abbrev code : ℕ
  code = (step_by s e).answer.code

  abbrev next : State
  next = state_after (step_by s e)

  next_reached : Reached k next
  next_reached = if_eq code 0 (λ a. step_reached r (step_tells r a))
      (λ n. rw (refused_stays s e.action e.process e.time n) r)

  in_order_next : (es : List Attempt) → InOrder next.clock (accepted_log p es) → InOrder s.clock (accepted_log p (attempted e code ∷ es))
  unfolding accepted_log
  in_order_next es o = if_eq code 0 accepted refused
    where
      refused : code ≢ 0 → InOrder s.clock (accepted_log p (attempted e code ∷ es))
      refused n = rw (ne_eqb code 0 n) (rw (refused_stays s e.action e.process e.time n) at o)

      own : Accepted (step_by s e) → e.process ≡ p → InOrder s.clock (entry e.time e.action ∷ accepted_log p es)
      own a h =
          let step = step_tells r a in
          let act = own_act (omega (arith, h, some)) step.allowed.turn in
          (step.allowed.forward, step.allowed.within, act.0, act.1, rw step.changed.clock_is at o)

      accepted : Accepted (step_by s e) → InOrder s.clock (accepted_log p (attempted e code ∷ es))
      accepted a = if_eq e.process p
          (λ h. rw (eq-eqb code 0 a, eq-eqb e.process p h) (own a h))
          (λ n. let step = step_tells r a in
          rw (eq-eqb code 0 a, ne_eqb e.process p n)
          (order_from s.clock next.clock (accepted_log p es) (omega (arith, step.changed.clock_is, step.allowed.forward)) o))

run_in_order : {k : Parameters} {s : State} → Reached k s → (p : ℕ) → 1 ≤ p → (events : List Event) → InOrder s.clock (accepted_log p (attempts_from s events))
unfolding results_by attempts_of accepted_log
run_in_order {k = k} {s = s} r p some [] = tt
run_in_order {k = k} {s = s} r p some (e ∷ es) =
    in_order_next r p some e (attempts_from (next r p some e) es)
    (run_in_order {k = k} {s = next r p some e} (next_reached r p some e) p some es)

-- Every trace

module _ {text : List ℕ} {line : ℕ} {k : Parameters} {events : List Event} (says : Says text line k events) (p : ℕ) (some : 1 ≤ p) where
  log_in_order : InOrder 0 (trace_log k events p)
  log_in_order = order_from 0 (fresh_of k).state.clock (trace_log k events p) (omega arith)
      (run_in_order (fresh_reached (stand_fresh k says.stand)) p some events)

-- [13.135] [13.140]
pub every_log : EveryLog
every_log text line k events says p some =
    (one_for_each p (attempts_from (fresh_of k).state events), log_in_order says p some)

order_in_time : (from : ℕ) (log : List Entry) → InOrder from log → InTime log
order_in_time from [] o = tt
order_in_time from (x ∷ log) o = (o.1, order_in_time x.time log o.4)

-- [13.145]
pub bounds_local : BoundsLocal
bounds_local text line k events says p some d e local r c =
    let past = (answered_exactly d e local (trace_log k events p) r c).past_bounds in
    let times = order_in_time 0 (trace_log k events p) (log_in_order says p some) in (
      λ h b. past.0 h (record { range = b.0; tolerance = b.1; local_times = b.2; other_times = times }),
      λ n. past.1 (λ w. n (w.range, w.tolerance, w.local_times)),
    )
