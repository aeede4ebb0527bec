-- Section 8 of the specification: what holds of every list of calls from a fresh table, one record with a field for each
-- sentence. Assumes nothing.
use Rattle.std.specs.Prelude.{ℕ, ◌+◌, ◌*◌, ◌≤◌, ◌<◌, ◌≡◌, ◌⊎◌, ◌≢◌, ◌↔◌, true, List, [], ◌∷◌, ◌++◌}
use Rattle.model.specs.declared.Parameters.{Parameters}
use Rattle.model.specs.Types.{State}
use Rattle.model.specs.Types.{Outcome}
use Rattle.model.specs.declared.Recorded.{Recorded}
use Rattle.model.specs.States.{largest_limit, last_time, sound_of}
use Rattle.model.specs.Acts.{wait_act, crit_act, withdraw_act}
use Rattle.model.specs.Answers.{step_of}
use Rattle.model.specs.Facts.{Accepted, IsFresh, IsCritical, IsTrying, LeadsOn, HasDeadline}
use Rattle.model.specs.Calls.{Call, outcome_of, table_of, run_of, results_of}

-- The owed wait

-- [8.85] the call d lets its process in
pub record Enters (s : State) (d : Call) : Type 0 where
  pub crit : d.action ≡ crit_act
  pub accepted : Accepted (outcome_of s d)

-- [8.75] each of the calls is in the span that starts at s, as none but the last lets anybody in
abbrev pub InSpan : State → List Call → Type 0
InSpan s [] = Unit {0}
InSpan s (d ∷ ds) = (ds ≡ []) ⊎ ((Enters s d → ⊥) × InSpan (table_of s d) ds)

-- [8.70] [8.75] a span: it starts at a point with the table s, where process w is trying and none is critical, and the calls ds are in it
pub record Span (s : State) (w : ℕ) (ds : List Call) : Type 0 where
  pub trying : IsTrying s w
  pub none : (i : ℕ) → IsCritical s i → ⊥
  pub calls : InSpan s ds

-- [8.78] the call d is a withdraw of process w, and is accepted
pub record Withdraws (s : State) (w : ℕ) (d : Call) : Type 0 where
  pub withdraw : d.action ≡ withdraw_act
  pub own : d.process ≡ w
  pub accepted : Accepted (outcome_of s d)

-- [8.78] process w has not withdrawn: none of the calls from s on is a withdraw of it that is accepted
abbrev pub NotWithdrawn : State → ℕ → List Call → Type 0
NotWithdrawn s w [] = Unit {0}
NotWithdrawn s w (d ∷ ds) = (Withdraws s w d → ⊥) × NotWithdrawn (table_of s d) w ds

-- [8.80] [8.85] at a point of a span of the list ds from s on, the clock is within the bound, if `owed` holds of the table where the span
-- starts, of a process w that was trying there, and of the calls from there to the point. The list is cut at these two places.
abbrev pub OwedIf : (State → ℕ → List Call → Type 0) → ℕ → State → List Call → Type 0
OwedIf owed bound s ds = (before during after : List Call) (w : ℕ) → ds ≡ before ++ during ++ after
    → Span (run_of s before) w during
    → owed (run_of s before) w during
    → (run_of s (before ++ during)).clock ≤ (run_of s before).clock + bound

-- [8.78] [8.80] whoever was trying when the span started and has not withdrawn since
abbrev pub OwedWithin : ℕ → State → List Call → Type 0
OwedWithin bound s ds = OwedIf NotWithdrawn bound s ds

-- [8.80] [2.92] the bound
abbrev pub owed_wait : Parameters → ℕ
owed_wait k = 2 * k.c + 5 * largest_limit k

-- One critical process

-- [8.90]
abbrev pub OneCritical : State → Type 0
OneCritical s = (i j : ℕ) → IsCritical s i → IsCritical s j → i ≡ j

-- [8.100] of an outcome that is accepted
pub record NamesTheOnly (o : Outcome) : Type 0 where
  pub critical : o.answer.process ≢ 0 → IsCritical o.state o.answer.process
  pub only : (i : ℕ) → IsCritical o.state i → i ≡ o.answer.process

-- [8.100] of each call of a list
abbrev pub EachNames : List Recorded → Type 0
EachNames [] = Unit {0}
EachNames (r ∷ rs) = (Accepted r.outcome → NamesTheOnly r.outcome) × EachNames rs

-- Not stuck

-- [8.110]
abbrev pub WaitsUnlessDue : State → Type 0
WaitsUnlessDue s = s.clock < last_time
    → Accepted (step_of s wait_act 0 (s.clock + 1)) ↔ ((i : ℕ) → HasDeadline s i s.clock → ⊥)

-- [8.120] at the clock's end too, and without leaving the line
abbrev pub DueMayAct : State → Type 0
DueMayAct s = (i : ℕ) → HasDeadline s i s.clock → (act : ℕ) × LeadsOn act × Accepted (step_of s act i s.clock)

-- The whole

-- [8.130] of the calls ds from the table s, which gave back the results rs and left the table t
pub record Demand3 (s : State) (ds : List Call) (rs : List Recorded) (t : State) : Type 0 where
  -- [8.60] answer, table and summary of each call
  pub results : rs ≡ results_of s ds
  -- [8.60] the table after the list
  pub table : t ≡ run_of s ds
  -- [8.80]
  pub owed : OwedWithin (owed_wait s.parameters) s ds
  -- [8.90]
  pub one : OneCritical t
  -- [8.100]
  pub names : EachNames rs
  -- [8.110]
  pub waits : WaitsUnlessDue t
  -- [8.120]
  pub acts : DueMayAct t

-- [8.10] [8.20] [8.130] of every list ds from a fresh table
abbrev pub EveryList : Type 0
EveryList = (s : State) → IsFresh s → (ds : List Call) → Demand3 s ds (results_of s ds) (run_of s ds)

-- [2.135] [8.90] that the table is sound would not be enough: two processes may be critical in it
abbrev pub SoundIsNotEnough : Type 0
SoundIsNotEnough = ((s : State) → sound_of s ≡ true → (ds : List Call) → Demand3 s ds (results_of s ds) (run_of s ds)) → ⊥

-- [8.140] of every table that a list reaches
abbrev pub EveryTableSound : Type 0
EveryTableSound = (s : State) → IsFresh s → (ds : List Call) → sound_of (run_of s ds) ≡ true
