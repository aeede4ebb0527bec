-- Section 12 of the specification, of the code's own calls on lent deadline tables: of every chain of them demand 3 holds, where a result for each call
-- is one that the contract of the exported function allows; and what holds of the two ways to and fro. Assumes nothing.
use Rattle.std.specs.Prelude.{ℕ, ◌+◌, ◌≤◌, ◌<◌, ◌≡◌, ◌↔◌, true, List, ◌++◌, map, length, drop}
use contract.Lifetimes.{Lfts}
use Rattle.model.specs.declared.Parameters.{Parameters}
use Rattle.model.specs.Acts.{wait_act}
use Rattle.model.specs.States.{last_time}
use Rattle.model.specs.Answers.{answer_of}
use Rattle.model.specs.Facts.{LeadsOn}
use Rattle.model.specs.Folds.{Chained, last_of}
use Rattle.model.specs.Readings.{over}
use Rattle.model.specs.Texts.{Event}
use Rattle.theory.specs.Soundness.{ParametersStand}
use Rattle.layout.specs.Encodings.{table_length, state_numbers, is_sound_table, table_in}
use Rattle.layout.specs.Interface.{Lent, lent_gave}
use Rattle.deadlines.specs.Types.{DeadlineState}
use Rattle.deadlines.specs.Types.{DeadlineOutcome}
use Rattle.deadlines.specs.Matching.{Matches}
use Rattle.matching.specs.Facts.{HasTimes}
use Rattle.matching.specs.Lists.{Demand3With}
use Rattle.deadline_layout.specs.Encodings.{deadline_length, state_numbers_with, deadline_table_in, is_sound_deadline_table}
use Rattle.exported.specs.Lending.{Lends, LendsToRead, LendsLimits}
use Rattle.funnelfawn.proofs.funnelfawn_fresh_deadlines.Reads as fresh-reads
use Rattle.funnelfawn.proofs.funnelfawn_step_deadlines.Reads as step-reads
use Rattle.funnelfawn.proofs.funnelfawn_to_deadlines.Reads as to_reads
use Rattle.funnelfawn.proofs.funnelfawn_to_arrivals.Reads as fro-reads

-- What the contracts allow

-- [9.45] [12.150] `funnelfawn_fresh_deadlines` may give r
abbrev pub StartsDeadlines : Parameters → List ℕ → Lent → Type 0
StartsDeadlines k table r =
    (κs : Lfts 2) × (a : LendsLimits k.a) × (t : Lends table r.table)
    × fresh-reads.Post κs (k.n, (k.b, (k.c, (a.list.lent, (t.lent, tt))))) r.answer
    (k.n, (k.b, (k.c, (a.list.left, (t.left, tt)))))

-- [12.150] `funnelfawn_step_deadlines` may give r
abbrev pub StepsDeadlines : List ℕ → ℕ → ℕ → ℕ → Lent → Type 0
StepsDeadlines table act p m r =
    (κs : Lfts 1) × (t : Lends table r.table)
    × step-reads.Post κs (t.lent, (act, (p, (m, tt)))) r.answer (t.left, (act, (p, (m, tt))))

-- [12.140] `funnelfawn_to_deadlines` may give r, whose numbers are those of the second list; the first is only read
abbrev pub GoesToDeadlines : List ℕ → List ℕ → Lent → Type 0
GoesToDeadlines table out r =
    (κs : Lfts 2) × (t : LendsToRead table) × (o : Lends out r.table)
    × to_reads.Post κs (t.lent, (o.lent, tt)) r.answer (t.left, (o.left, tt))

-- [12.140] `funnelfawn_to_arrivals` may give r
abbrev pub GoesToArrivals : List ℕ → List ℕ → Lent → Type 0
GoesToArrivals deadlines out r =
    (κs : Lfts 2) × (t : LendsToRead deadlines) × (o : Lends out r.table)
    × fro-reads.Post κs (t.lent, (o.lent, tt)) r.answer (t.left, (o.left, tt))

-- Chains

-- [12.150] a result of the call that an action asks for, on the numbers l
abbrev pub MadeOnDeadlines : List ℕ → Event → Lent → Type 0
MadeOnDeadlines l e r = StepsDeadlines l e.action e.process e.time r

-- helper: the numbers that a call leaves
abbrev pub numbers_after : Lent → List ℕ
numbers_after r = r.table

-- [12.150] each on the numbers that the one before it left
abbrev pub DeadlineTableChain : List ℕ → List Event → List Lent → Type 0
DeadlineTableChain l es rs = Chained MadeOnDeadlines numbers_after l es rs

-- [8.110] [8.120] [12.150] nobody is stuck: on the numbers l, where they tell the state d, of every result that the contract allows
pub record NotStuckOnDeadlines (d : DeadlineState) (l : List ℕ) : Type 0 where
  -- [8.110]
  pub waits : d.clock < last_time → (g : Lent) → StepsDeadlines l wait_act 0 (d.clock + 1) g
      → (g.answer.code ≡ 0) ↔ ((i f : ℕ) → HasTimes d i f d.clock → ⊥)
  -- [8.120]
  pub acts : (i f : ℕ) → HasTimes d i f d.clock
      → (act : ℕ) × LeadsOn act × ((g : Lent) → StepsDeadlines l act i d.clock g → g.answer.code ≡ 0)

-- helper: an outcome in numbers, before what stands after a deadline table
abbrev pub in_numbers_with : List ℕ → DeadlineOutcome → Lent
in_numbers_with rest o = lent_gave o.answer (state_numbers_with o.state ++ rest)

-- [12.150] the actions es gave back rs and left l, which are the numbers, before `rest`, of results that meet demand 3: with each answer the first
-- engine's, and each state one that matches the plain one, which is fresh with the parameters k
pub record DeadlineTableHolds (k : Parameters) (rest : List ℕ) (es : List Event) (rs : List Lent) (l : List ℕ) : Type 0 where
  pub results : List DeadlineOutcome
  pub last : DeadlineState
  pub results_are : rs ≡ map (in_numbers_with rest) results
  pub last_is : l ≡ state_numbers_with last ++ rest
  pub demand3 : Demand3With k es results last
  pub not_stuck : NotStuckOnDeadlines last l

-- [12.150] whoever makes the calls, from a list in which `funnelfawn_fresh_deadlines` put a deadline table for k with the answer 0
abbrev pub EveryDeadlineTableChain : Type 0
EveryDeadlineTableChain = (k : Parameters) (table : List ℕ) (f : Lent) (es : List Event) (rs : List Lent)
    → StartsDeadlines k table f → f.answer.code ≡ 0 → DeadlineTableChain f.table es rs
    → DeadlineTableHolds k (drop deadline_length table) es rs (last_of numbers_after f.table rs)

-- [12.150] the premises are not empty ones
pub record SomeDeadlineTableChain : Type 0 where
  pub start : (k : Parameters) (table : List ℕ) → ParametersStand k → deadline_length ≤ length table
      → (f : Lent) × StartsDeadlines k table f × (f.answer.code ≡ 0)
  pub chain : (l : List ℕ) (es : List Event) → (rs : List Lent) × DeadlineTableChain l es rs

-- To and fro

-- [12.105] [12.140] whoever makes the two calls: a sound table goes to a deadline table that matches, and its numbers come back, whatever stands after
-- them in the three lists
pub record ThereAndBack (table out : List ℕ) (to fro : Lent) : Type 0 where
  pub answer : to.answer ≡ answer_of 0 0 0
  pub sound : is_sound_deadline_table to.table ≡ true
  pub matches : Matches (table_in table) (deadline_table_in to.table)
  pub back : fro ≡ lent_gave (answer_of 0 0 0) (over (state_numbers (table_in table)) out)

-- [12.105] [12.140] in lists that are long enough
abbrev pub EveryThereAndBack : Type 0
EveryThereAndBack = (table deadlines out : List ℕ) (to fro : Lent) → is_sound_table table ≡ true → deadline_length ≤ length deadlines
    → table_length ≤ length out → GoesToDeadlines table deadlines to → GoesToArrivals to.table out fro → ThereAndBack table out to fro

-- [12.105] [12.140] and a sound deadline table goes to a table that matches, and its numbers come back
pub record BackAndThere (deadlines out : List ℕ) (fro to : Lent) : Type 0 where
  pub answer : fro.answer ≡ answer_of 0 0 0
  pub sound : is_sound_table fro.table ≡ true
  pub matches : Matches (table_in fro.table) (deadline_table_in deadlines)
  pub back : to ≡ lent_gave (answer_of 0 0 0) (over (state_numbers_with (deadline_table_in deadlines)) out)

-- [12.105] [12.140] in lists that are long enough
abbrev pub EveryBackAndThere : Type 0
EveryBackAndThere = (deadlines table out : List ℕ) (fro to : Lent) → is_sound_deadline_table deadlines ≡ true → table_length ≤ length table
    → deadline_length ≤ length out → GoesToArrivals deadlines table fro → GoesToDeadlines fro.table out to → BackAndThere deadlines out fro to
