-- Section 5 of the specification, its last clauses: lists of recorded steps with one summary for all, and that it holds what the log
-- of the acts and of the answers to them tells. Assumes nothing.
use Rattle.std.specs.Prelude.{ℕ, ◌+◌, ◌≤◌, ◌≡◌, ◌↔◌, true, false, List, map}
use Rattle.model.specs.Types.{State}
use Rattle.model.specs.declared.Statistics.{Statistics}
use Rattle.model.specs.declared.Recorded.{Recorded}
use Rattle.model.specs.Texts.{Event}
use Rattle.model.specs.Answers.{critical_of, answers}
use Rattle.model.specs.Facts.{IsFresh, IsTrying}
use Rattle.model.specs.Folds.{end_by, results_by, itself}
use Rattle.model.specs.Summaries.{new_statistics, waited_by, beside, code_of, recorded_of}
use Rattle.model.specs.Tallies.{Attempt, log_of, clock_after, critical_after, trying_after, unused_since, wait_after, longest_wait, tally_of}
use Rattle.model.specs.Tallies.{last_try, longest_passage, accepted_only, critical_count}
use Rattle.theory.specs.Summaries.{SummarySound}

-- [5.120] a recorded step after another, with the table and the summary that it left
abbrev pub record_next : Recorded → Event → Recorded
record_next r e = recorded_of r.outcome.state r.statistics e.action e.process e.time

-- [5.120] a list of recorded steps after r: what the last one left
abbrev pub record_all : Recorded → List Event → Recorded
record_all r es = end_by record_next itself r es

-- helper: what each of them gives back
abbrev pub records_of : Recorded → List Event → List Recorded
records_of r es = results_by record_next itself r es

-- [5.122] the log tells the clock of a state, who is critical in it and who is trying
pub record StateTold (log : List Attempt) (s : State) : Type 0 where
  pub clock : s.clock ≡ clock_after log
  pub critical : critical_of s ≡ critical_after log
  pub trying : (p : ℕ) → 1 ≤ p → IsTrying s p ↔ (trying_after p log ≡ true)

-- [5.126] [5.128] what each process has waited so far, in a summary after the attempts of a log, by the log alone
pub record WaitsTold (log : List Attempt) (x : Statistics) : Type 0 where
  -- [5.126]
  pub trying : (p : ℕ) → 1 ≤ p → trying_after p log ≡ true → waited_by x p ≡ unused_since p log
  pub others : (p : ℕ) → 1 ≤ p → trying_after p log ≡ false → waited_by x p ≡ 0
  -- [5.128] no more than all time since the try: so far, at an entry at the time m, and of the longest
  pub so_far : (p : ℕ) → 1 ≤ p → trying_after p log ≡ true → last_try p log + waited_by x p ≤ clock_after log
  pub at_entry : (p m : ℕ) → 1 ≤ p → trying_after p log ≡ true → clock_after log ≤ m → last_try p log + wait_after log p m ≤ m
  pub longest : x.counts.longest ≤ longest_passage log

-- [5.114] [5.120] [5.122] [5.125] [5.126] [5.128] [5.130] what the last step left, beside the log of all
pub record Tallied (log : List Attempt) (r : Recorded) : Type 0 where
  -- [5.120] [5.125]
  pub counts : r.statistics.counts ≡ tally_of log
  -- [5.122]
  pub state : StateTold log r.outcome.state
  -- [5.126] [5.128]
  pub waits : WaitsTold log r.statistics
  -- [5.114]
  pub sound : SummarySound r.outcome.state.clock r.statistics
  -- [5.130]
  pub balance : r.statistics.counts.entries ≡ r.statistics.counts.exits + critical_count r.outcome.state.processes

-- [5.120] a fresh table and a new summary
abbrev pub start_of : State → Recorded
start_of s = beside new_statistics (answers 0 0 0 s)

-- [5.114] [5.120] [5.122] [5.125] [5.126] [5.128] [5.130] of every list es from a fresh table
abbrev pub EveryTally : Type 0
EveryTally = (s : State) → IsFresh s → (es : List Event)
    → Tallied (log_of es (map code_of (records_of (start_of s) es))) (record_all (start_of s) es)

-- [5.127] refused attempts change no wait, nor who is trying, whatever the log
pub record RefusedCountNot (log : List Attempt) : Type 0 where
  pub trying : (p : ℕ) → trying_after p (accepted_only log) ≡ trying_after p log
  pub since : (p : ℕ) → unused_since p (accepted_only log) ≡ unused_since p log
  pub wait : (p m : ℕ) → wait_after (accepted_only log) p m ≡ wait_after log p m
  pub longest : longest_wait (accepted_only log) ≡ longest_wait log

-- [5.127]
abbrev pub RefusedBetween : Type 0
RefusedBetween = (log : List Attempt) → RefusedCountNot log
