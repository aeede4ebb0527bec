-- Section 11 of the specification, what holds of the intervals of every run, in plain facts: each is that of one accepted crit, it ends with
-- the exit of its own process, and none begins before the one before it has ended. Assumes nothing.
use Rattle.std.specs.Prelude.{ℕ, ◌≤◌, ◌≡◌, ◌↔◌, List, [], ◌∷◌, ◌++◌, length}
use Rattle.model.specs.Types.{State}
use Rattle.model.specs.Acts.{crit_act, exit_act}
use Rattle.model.specs.Texts.{Event}
use Rattle.model.specs.Facts.{IsFresh, IsCritical}
use Rattle.model.specs.Summaries.{most_acts}
use Rattle.model.specs.Tallies.{Attempt}
use Rattle.model.specs.Executions.{state_from, attempts_from}
use Rattle.tallies.specs.Tallies.{record_all, start_of}
use Rattle.intervals.specs.Intervals.{End, ongoing, until, Interval, intervals_of}

-- What was attempted

-- [11.20] an accepted crit
pub record AcceptedCrit (e : Attempt) : Type 0 where
  pub accepted : e.code ≡ 0
  pub crit : e.action ≡ crit_act

-- [11.30] an accepted exit
pub record AcceptedExit (e : Attempt) : Type 0 where
  pub accepted : e.code ≡ 0
  pub exit : e.action ≡ exit_act

-- [11.80] none of these attempts is an accepted crit or exit, of whichever process
abbrev pub NoCritNorExit : List Attempt → Type 0
NoCritNorExit [] = Unit {0}
NoCritNorExit (e ∷ es) = (AcceptedCrit e → ⊥) × (AcceptedExit e → ⊥) × NoCritNorExit es

-- One interval

-- [11.80] [11.90] where an interval of process p ends that began at the time `from`, by what was attempted after its crit: with the first
-- exit of all, which is that of p and comes no earlier; or nowhere, as nobody enters or leaves any more
pub data Ends (p from : ℕ) (after : List Attempt) : End → Type 0 where
  exited : (between : List Attempt) (e : Attempt) (rest : List Attempt) → after ≡ between ++ (e ∷ rest) → NoCritNorExit between → AcceptedExit e
      → e.process ≡ p → from ≤ e.time → Ends p from after (until e.time)
  stays : NoCritNorExit after → Ends p from after ongoing

-- [11.70] [11.80] i is the interval of the attempt e, a crit that was accepted, and then these attempts came
pub record Covers (e : Attempt) (after : List Attempt) (i : Interval) : Type 0 where
  pub enters : AcceptedCrit e
  pub process : i.process ≡ e.process
  pub from : i.from ≡ e.time
  pub to : Ends e.process e.time after i.to

-- All of them

-- [11.70] each accepted crit has an interval and each interval an accepted crit, one for one, in the same order
pub data OneForEach : List Attempt → List Interval → Type 0 where
  none : OneForEach [] []
  skipped : {e : Attempt} {es : List Attempt} {is : List Interval} → (AcceptedCrit e → ⊥) → OneForEach es is → OneForEach (e ∷ es) is
  covered : {e : Attempt} {es : List Attempt} {i : Interval} {is : List Interval} → Covers e es i → OneForEach es is
      → OneForEach (e ∷ es) (i ∷ is)

-- [11.85] [11.90] each but the last ends, and the next begins no earlier; so only the last may be open
pub data InTurn : List Interval → Type 0 where
  none : InTurn []
  last : (i : Interval) → InTurn (i ∷ [])
  next : {i j : Interval} {is : List Interval} (m : ℕ) → i.to ≡ until m → i.from ≤ m → m ≤ j.from → InTurn (j ∷ is)
      → InTurn (i ∷ j ∷ is)

-- [11.90] the last one is of process p, and open
pub data OpenFor (p : ℕ) : List Interval → Type 0 where
  here : {i : Interval} → i.process ≡ p → i.to ≡ ongoing → OpenFor p (i ∷ [])
  later : {i : Interval} {is : List Interval} → OpenFor p is → OpenFor p (i ∷ is)

-- [11.70] [11.75] [11.80] [11.85] [11.90] of these steps, the first of which is taken in the state s
pub record RunIntervals (s : State) (events : List Event) (is : List Interval) : Type 0 where
  -- [11.70] [11.80]
  pub one_for_each : OneForEach (attempts_from s events) is
  -- [11.85] [11.90]
  pub in_turn : InTurn is
  -- [11.90]
  pub open_for : (p : ℕ) → OpenFor p is ↔ IsCritical (state_from s events) p
  -- [11.75] as the summary counts entries, if it does not fill up
  pub counted : length events ≤ most_acts → length is ≡ (record_all (start_of s) events).statistics.counts.entries

-- [11.70] [11.75] [11.80] [11.85] [11.90] of every run from a fresh state
abbrev pub EveryRun : Type 0
EveryRun = (s : State) → IsFresh s → (events : List Event) → RunIntervals s events (intervals_of (attempts_from s events))
