-- Section 7 of the specification, what is taken at a time of the steps of a trace: a block of them, where it leads, and what it leaves of
-- answers. Assumes nothing.
use Rattle.std.specs.Prelude.{ℕ, ◌+◌, ◌≤◌, ◌≡◌, List, map, length, take, drop}
use Rattle.model.specs.declared.Answer.{Answer}
use Rattle.model.specs.Types.{State}
use Rattle.model.specs.Answers.{answer_numbers}
use Rattle.model.specs.Tallies.{Attempt}
use Rattle.model.specs.Texts.{Event}
use Rattle.model.specs.Readings.{Lists, room}
use Rattle.model.specs.Writings.{events_of}
use Rattle.model.specs.Executions.{state_from, answers_from, attempts_of}
use Rattle.execution.specs.declared.running.Run.{Run}

-- helper: the rows of the answers to steps, the first of which is taken in the state s
abbrev pub rows_from : State → List Event → List (List ℕ)
rows_from s events = map answer_numbers (answers_from s events)

-- helper: what was attempted by the steps in the lists, by the answers to them
abbrev pub attempts_by : Lists → List Answer → List Attempt
attempts_by l answers = attempts_of (events_of l) (map (λ (a : Answer). a.code) answers)

-- [7.47] a block of k steps from s on led to t, and left its answers in the first of the places m
pub record Taken (s : State) (block : List Event) (k : ℕ) (t : State) (m : List Answer) : Type 0 where
  pub size : length block ≡ k
  pub led : t ≡ state_from s block
  pub rows : map answer_numbers (take k m) ≡ rows_from s block

-- [7.47] the next k of the steps in the lists were taken, one at least and as many as there are places at most
pub record Took (r : Run) (l : Lists) (k : ℕ) (t : Run) : Type 0 where
  pub some : 1 ≤ k
  pub few : k ≤ 64
  pub inside : r.taken + k ≤ room l
  pub counted : t.taken ≡ r.taken + k
  pub block : Taken r.state (take k (drop r.taken (events_of l))) k t.state t.answers

-- [7.47] none was left, so that the state is the same
pub record Stayed (r : Run) (l : Lists) (t : Run) : Type 0 where
  pub ended : room l ≤ r.taken
  pub counted : t.taken ≡ r.taken
  pub state : t.state ≡ r.state
