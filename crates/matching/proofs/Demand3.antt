-- Demand 3 of every list of steps of the second engine from a fresh state of deadlines, in facts of its own states: it is that of the first engine,
-- whose steps are the calls of section 8 without a summary. Assumes nothing.
use Prim.Native.Nat.{ℕ, ◌+◌, ◌<◌}
use mathlib.Core.Path.{◌≡◌, refl, sym, ap, subst, ◌∙◌}
use mathlib.Core.Logic.{inl, inr, ◌↔◌}
use mathlib.Core.Bool.{false}
use mathlib.Core.List.{List, [], ◌∷◌, ◌++◌, map, map-append}
use native.Mathlib.Omega.{arith}
use Rattle.model.specs.declared.Parameters.{Parameters}
use Rattle.model.specs.Types.{State}
use Rattle.model.specs.Types.{Outcome}
use Rattle.model.specs.declared.Answer.{Answer}
use Rattle.model.specs.Acts.{wait_act}
use Rattle.model.specs.States.{last_time}
use Rattle.model.specs.Answers.{fresh_of}
use Rattle.model.specs.Facts.{Accepted, IsFresh, LeadsOn}
use Rattle.model.specs.Summaries.{new_statistics}
use Rattle.model.specs.Folds.{end_by, results_by}
use Rattle.model.specs.Calls.{Call, call_of, run_of, results_of}
use Rattle.model.specs.Executions.{step_by, state_from}
use Rattle.model.specs.Texts.{Event}
use Rattle.theory.proofs.Soundness.{fresh_is, fresh_is_plain}
use Rattle.lists.specs.Demand3.{InSpan, Span, NotWithdrawn, OwedWithin, owed_wait, NamesTheOnly, EachNames, WaitsUnlessDue, DueMayAct}
use Rattle.lists.proofs.Demand3.{every_list, every_table_sound}
use Rattle.deadlines.specs.Types.{DeadlineState}
use Rattle.deadlines.specs.Types.{DeadlineOutcome}
use Rattle.deadlines.specs.Deadlines.{step_with, fresh_with}
use Rattle.deadlines.specs.Matching.{Matches}
use Rattle.matching.specs.Facts.{AcceptedWith, HasTimes, IsCriticalWith}
use Rattle.matching.specs.Engines.{OutcomesMatch}
use Rattle.matching.specs.Lists.{step_by_deadlines, steps_with, run_with, InSpanWith, SpanWith, StaysWith, OwedWithinWith}
use Rattle.matching.specs.Lists.{NamesTheOnlyWith, EachNamesWith, EveryListWith, EveryTableSoundWith}
use Rattle.matching.proofs.Engines.{sound_together, code_same, fresh_match}
use Rattle.matching.proofs.Facts.{critical_iff, trying_iff, last_is_deadline, deadline_is_last}
use Rattle.matching.proofs.Runs.{events_match, lists_match, fresh_lists_match}

-- Steps as calls

abbrev as_call : Event → Call
as_call e = record { recorded = false; action = e.action; process = e.process; time = e.time; lent = new_statistics }

abbrev as_calls : List Event → List Call
as_calls es = map as_call es

call_run : (s : State) (es : List Event) → run_of s (as_calls es) ≡ state_from s es
unfolding end_by call_of
call_run s [] = refl
call_run s (e ∷ es) = call_run (step_by s e).state es

calls_match : {s : State} {d : DeadlineState} → Matches s d → (es : List Event) → Matches (run_of s (as_calls es)) (run_with d es)
calls_match {s} {d} match es = rw (call_run s es) (lists_match s d match es).states

-- both engines answer a step with one code
event_code : {s : State} {d : DeadlineState} → Matches s d → (e : Event) → (step_by_deadlines d e).answer.code ≡ (step_by s e).answer.code
event_code match e = code_same match e.action e.process e.time

-- The owed wait

in_span : {s : State} {d : DeadlineState} → Matches s d → (es : List Event) → InSpanWith d es → InSpan s (as_calls es)
unfolding call_of
in_span match [] h = tt
in_span match (e ∷ es) (inl z) = inl (ap (map as_call) z)
in_span {s = s} match (e ∷ es) (inr h) = inr (
  λ k. h.0 (record { crit = k.crit; accepted = event_code match e ∙ k.accepted }),
  in_span {s = (step_by s e).state} (events_match match e).states es h.1,
)

stays : (w : ℕ) {s : State} {d : DeadlineState} → Matches s d → (es : List Event) → StaysWith d w es → NotWithdrawn s w (as_calls es)
unfolding call_of
stays w match [] h = tt
stays w {s = s} match (e ∷ es) h = (
  λ k. h.0 (record { withdraw = k.withdraw; own = k.own; accepted = event_code match e ∙ k.accepted }),
  stays w {s = (step_by s e).state} (events_match match e).states es h.1,
)

span : {s : State} {d : DeadlineState} {w : ℕ} {es : List Event} → Matches s d → SpanWith d w es → Span s w (as_calls es)
span {w = w} {es = es} match h = record {
  trying = (trying_iff match w).0 h.trying;
  none = λ i c. h.none i ((critical_iff match i).1 c);
  calls = in_span match es h.steps;
}

owed_within : {s : State} {d : DeadlineState} → Matches s d → (bound : ℕ) (es : List Event) → OwedWithin bound s (as_calls es)
    → OwedWithinWith bound d es
owed_within match bound es owed before during after w e within stayed =
    let start = calls_match match before in
    let point = rw (map-append as_call before during) at (calls_match match (before ++ during)) in
    let cut : as_calls es ≡ as_calls before ++ as_calls during ++ as_calls after = rw e (simp map-append) in
    omega (
      arith,
      start.clock,
      point.clock,
      owed (as_calls before) (as_calls during) (as_calls after) w cut (span start within) (stays w start during stayed),
    )

-- One critical process

names_the_only : {o : Outcome} {e : DeadlineOutcome} → OutcomesMatch o e → NamesTheOnly o → NamesTheOnlyWith e
names_the_only {e = e} both h =
    let same = ap (λ (r : Answer). r.process) both.answer in
    record {
      critical = λ n. subst (IsCriticalWith e.state) (sym same) ((critical_iff both.states _).1 (h.critical (λ z. n (same ∙ z))));
      only = λ i c. h.only i ((critical_iff both.states i).0 c) ∙ sym same;
    }

each_names : {s : State} {d : DeadlineState} → Matches s d → (es : List Event) → EachNames (results_of s (as_calls es)) → EachNamesWith (steps_with d es)
unfolding results_by call_of
each_names match [] h = tt
each_names {s = s} match (e ∷ es) h = (
  λ a. names_the_only (events_match match e) (h.0 (sym (event_code match e) ∙ a)),
  each_names {s = (step_by s e).state} (events_match match e).states es h.1,
)

-- Not stuck

-- the sentences at a time x, which is the clock
abbrev WaitsAt : DeadlineState → ℕ → Type 0
WaitsAt t x = x < last_time → AcceptedWith (step_with t wait_act 0 (x + 1)) ↔ ((i f : ℕ) → HasTimes t i f x → ⊥)

abbrev ActsAt : DeadlineState → ℕ → Type 0
ActsAt t x = (i f : ℕ) → HasTimes t i f x → (act : ℕ) × LeadsOn act × AcceptedWith (step_with t act i x)

module _ {s : State} {t : DeadlineState} (match : Matches s t) where
  waits_unless_due : WaitsUnlessDue s → WaitsAt t t.clock
  waits_unless_due h = subst (WaitsAt t) (sym match.clock) (λ below.
      let code = code_same match wait_act 0 (s.clock + 1) in (
        λ a i f k. (h below).0 (sym code ∙ a) i (last_is_deadline match k),
        λ none. code ∙ (h below).1 (λ i k. let times = deadline_is_last match k in none i times.0 times.1),
      ))

  due_may_act : DueMayAct s → ActsAt t t.clock
  due_may_act h = subst (ActsAt t) (sym match.clock) (λ i f k.
      let act = h i (last_is_deadline match k) in
      (act.0, act.1, code_same match act.0 i s.clock ∙ act.2))

-- The whole

module _ (k : Parameters) (accepted : AcceptedWith (fresh_with k)) where
  first_accepted : Accepted (fresh_of k)
  first_accepted = sym (ap (λ (r : Answer). r.code) (fresh_match k).answer) ∙ accepted

  fresh : IsFresh (fresh_of k).state
  fresh = fresh_is k first_accepted

-- [12.90]
pub every_list_with : EveryListWith
every_list_with k accepted es =
    let match = (fresh_match k).states in
    let runs = fresh_lists_match k es in
    let first = every_list (fresh_of k).state (fresh k accepted) (as_calls es) in
    let last = calls_match match es in
    let parameters = ((fresh_is_plain k).fresh (first_accepted k accepted)).parameters_are in
    record {
      results = runs.each;
      state = runs.states;
      owed = owed_within match (owed_wait k) es (rw parameters at first.owed);
      one = λ i j g h. first.one i j ((critical_iff last i).0 g) ((critical_iff last j).0 h);
      names = each_names match es first.names;
      waits = waits_unless_due last first.waits;
      acts = due_may_act last first.acts;
    }

-- [8.140] [12.90]
pub every_table_sound_with : EveryTableSoundWith
every_table_sound_with k accepted es =
    sound_together _ _ (calls_match (fresh_match k).states es) ∙ every_table_sound (fresh_of k).state (fresh k accepted) (as_calls es)
