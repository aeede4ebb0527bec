-- Section 8 of the specification, and the last clauses of section 5, of the code's own calls: a chain has for each call a result that the
-- contract of the function called allows, as the checker reads it off the source (of `record_step`, as it is read below), each on the table
-- that the result before it holds. Of every chain demand 3 holds, and of every chain of recorded steps the tally. Assumes nothing.
use Rattle.std.specs.Prelude.{ℕ, ◌+◌, ◌<◌, ◌≡◌, refl, ◌↔◌, true, false, List, map}
use base.Logic.{emp}
use contract.Lifetimes.{Lfts}
use Rattle.std.specs.Borrow.{MutBor}
use borrow.Fn.World.{World, Pr}
use borrow.Fn.Claims.{AllOf}
use borrow.Fn.Read.{Read, no_know, all_models, r_last}
use Rattle.model.specs.declared.Parameters.{Parameters}
use Rattle.model.specs.Types.{State}
use Rattle.model.specs.Types.{Outcome}
use Rattle.model.specs.declared.Statistics.{Statistics}
use Rattle.model.specs.declared.Recorded.{Recorded}
use Rattle.model.specs.Acts.{wait_act}
use Rattle.model.specs.Answers.{fresh_of}
use Rattle.model.specs.States.{last_time}
use Rattle.model.specs.Facts.{Accepted, LeadsOn, HasDeadline}
use Rattle.model.specs.Texts.{Event}
use Rattle.model.specs.Summaries.{beside, code_of}
use Rattle.model.specs.Folds.{Chained, last_of, itself}
use Rattle.model.specs.Calls.{Call, handed_on}
use Rattle.model.specs.Tallies.{log_of}
use Rattle.theory.specs.Soundness.{ParametersStand}
use Rattle.lists.specs.Demand3.{Demand3}
use Rattle.tallies.specs.Tallies.{Tallied}
use Rattle.machine.proofs.fresh.Reads as fresh-reads
use Rattle.machine.proofs.step.Reads as step-reads
use Rattle.statistics.proofs.new_statistics.Reads as new-reads
use Rattle.statistics.proofs.record.Reads as record-reads
use Rattle.statistics.specs.contracts.record_step as record-step

-- What the contracts allow

-- [8.135] o is an outcome that the contract of `fresh` allows
abbrev pub Starts : Parameters → Outcome → Type 0
Starts k o = fresh-reads.Post tt (k, tt) o (k, tt)

-- [5.20] [8.135] x is a summary that the contract of `new_statistics` allows
abbrev pub StartsSummary : Statistics → Type 0
StartsSummary x = new-reads.Post tt tt x tt

-- [8.135] an outcome that the contract of `step` allows
abbrev pub Steps : State → ℕ → ℕ → ℕ → Outcome → Type 0
Steps s a p t o = step-reads.Post tt (s, (a, (p, (t, tt)))) o (s, (a, (p, (t, tt))))

-- [8.135] a result that the contract of `record` allows
abbrev pub RecordsByValue : State → Statistics → ℕ → ℕ → ℕ → Recorded → Type 0
RecordsByValue s x a p t r = record-reads.Post tt (s, (x, (a, (p, (t, tt))))) r (s, (x, (a, (p, (t, tt)))))

-- `record_step` takes a reference to a struct: its clause is read here, by the law that the checker's readings use. `lent` is the
-- reference at entry, and `left` at exit.
module _ (κs : Lfts 1) (s : State) (lent : MutBor Statistics) (a p t : ℕ) (o : Outcome) (left : MutBor Statistics) where
  abbrev clause : (w : World) → Pr w
  clause w =
      (record-step.clauses w.𝓛 w.𝓜.mem w.𝓡.run κs (s, (lent, (a, (p, (t, tt)))))).ensures
      tt o (s, (left, (a, (p, (t, tt)))))

  abbrev reading : Read (λ w. emp w.𝓤) no_know clause
  reading = all_models clause (λ w. r_last _) (λ w. refl) (λ w. refl) (λ w. refl)

  -- [8.135] the contract of `record_step` allows the outcome o, and the summary that `left` leads to
  abbrev pub RecordsStep : Type 0
  RecordsStep = AllOf reading.owes

-- [8.135] a call of `record_step` that is lent the summary x, and the result that it leaves
pub record Records (s : State) (x : Statistics) (a p t : ℕ) (r : Recorded) : Type 0 where
  pub lifetimes : Lfts 1
  pub lent : MutBor Statistics
  pub left : MutBor Statistics
  pub entry : lent.now ≡ x
  pub exit : left.now ≡ r.statistics
  pub allowed : RecordsStep lifetimes s lent a p t r.outcome left

-- Chains

-- [8.20] [8.30] [8.135] a result of one call, by any of the three functions
pub data Made (s : State) (d : Call) (r : Recorded) : Type 0 where
  by_step : d.recorded ≡ false → Steps s d.action d.process d.time r.outcome → r.statistics ≡ d.lent → Made s d r
  by_value : d.recorded ≡ true → RecordsByValue s d.lent d.action d.process d.time r → Made s d r
  by_record : d.recorded ≡ true → Records s d.lent d.action d.process d.time r → Made s d r

-- [8.40] [8.135] each result on the table of the one before it
abbrev pub Chain : State → List Call → List Recorded → Type 0
Chain s ds rs = Chained Made handed_on s ds rs

-- Demand 3

-- [8.110] [8.120] at the table s, of every outcome that the contract of `step` allows
pub record NotStuck (s : State) : Type 0 where
  -- [8.110]
  pub waits : s.clock < last_time → (o : Outcome) → Steps s wait_act 0 (s.clock + 1) o
      → Accepted o ↔ ((i : ℕ) → HasDeadline s i s.clock → ⊥)
  -- [8.120]
  pub acts : (i : ℕ) → HasDeadline s i s.clock
      → (act : ℕ) × LeadsOn act × ((o : Outcome) → Steps s act i s.clock o → Accepted o)

-- [8.50] [8.130] [8.135] of the calls ds, which gave back the results rs and left the table t: the plain table beside them is fresh with the
-- parameters k
pub record ChainHolds (k : Parameters) (ds : List Call) (rs : List Recorded) (t : State) : Type 0 where
  pub demand3 : Demand3 (fresh_of k).state ds rs t
  pub not_stuck : NotStuck t

-- [8.10] [8.130] [8.135] whoever makes the calls, from a table that `fresh` gave back for k with the answer 0
abbrev pub EveryChain : Type 0
EveryChain = (k : Parameters) (o : Outcome) (ds : List Call) (rs : List Recorded) → Starts k o → Accepted o → Chain o.state ds rs
    → ChainHolds k ds rs (last_of handed_on o.state rs)

-- The premises are not empty ones

-- [8.10] [5.120] `fresh` may answer 0 for whatever parameters stand, and `new_statistics` may give a summary
abbrev pub SomeStart : Type 0
SomeStart = (k : Parameters) → ParametersStand k → (o : Outcome) × (x : Statistics) × Starts k o × Accepted o × StartsSummary x

-- [8.20] [8.135] and every list of calls has a chain, whatever table it starts from
abbrev pub SomeChain : Type 0
SomeChain = (s : State) (ds : List Call) → (rs : List Recorded) × Chain s ds rs

-- The tally

-- helper: a recorded step that is lent the summary of the result r
abbrev pub call_on : Recorded → Event → Call
call_on r e = record { recorded = true; action = e.action; process = e.process; time = e.time; lent = r.statistics }

-- [5.120] a result of a recorded step that is lent the summary which the result r before it left
abbrev pub MadeOn : Recorded → Event → Recorded → Type 0
MadeOn r e t = Made r.outcome.state (call_on r e) t

-- [5.120] each on the table and with the summary of the one before it
abbrev pub RecordedChain : Recorded → List Event → List Recorded → Type 0
RecordedChain r es rs = Chained MadeOn itself r es rs

-- [5.120] every list of acts has such a chain
abbrev pub SomeRecordedChain : Type 0
SomeRecordedChain = (r : Recorded) (es : List Event) → (rs : List Recorded) × RecordedChain r es rs

-- [5.120] [5.125] [5.130] whoever makes the calls, from a table that `fresh` gave back with the answer 0, and a summary of `new_statistics`
abbrev pub EveryRecordedChain : Type 0
EveryRecordedChain = (k : Parameters) (o : Outcome) (x : Statistics) (es : List Event) (rs : List Recorded)
    → Starts k o → Accepted o → StartsSummary x → RecordedChain (beside x o) es rs
    → Tallied (log_of es (map code_of rs)) (last_of itself (beside x o) rs)
