-- Section 13 of the specification, the accepted log of a process: `accepted_log`, of a list of actions and of the answers to them, and
-- `read_accepted_of`, all that the call gives back. Assumes nothing.
use Rattle.std.specs.Prelude.{ℕ, min, Bool, cond, ◌&&◌, List, [], ◌∷◌, leb, ltb, eqb, length}
use Rattle.model.specs.declared.Parameters.{Parameters}
use Rattle.model.specs.declared.Answer.{Answer}
use Rattle.model.specs.Refusals.{code_of}
use Rattle.model.specs.Answers.{answer_of, fresh_of}
use Rattle.model.specs.Tallies.{Attempt, is_accepted}
use Rattle.model.specs.Texts.{Event}
use Rattle.model.specs.Readings.{Trace, refused, trace, trace_of, over}
use Rattle.model.specs.Executions.{attempts_from}
use Rattle.local_log.specs.Comparisons.{Entry, entry, times_in, actions_in}

-- Accepted logs

-- [13.110] it was accepted, and is of process p
abbrev pub is_accepted_of : ℕ → Attempt → Bool
is_accepted_of p e = is_accepted e && eqb e.process p

-- [13.110] an entry for each such action, in their order; the list has the first attempt first
unfoldable pub accepted_log : ℕ → List Attempt → List Entry
accepted_log p [] = []
accepted_log p (e ∷ es) = cond (is_accepted_of p e) (entry e.time e.action ∷ accepted_log p es) (accepted_log p es)

-- [13.110] [11.10] that of process p in a trace with these parameters and steps
abbrev pub trace_log : Parameters → List Event → ℕ → List Entry
trace_log k events p = accepted_log p (attempts_from (fresh_of k).state events)

-- The call

-- [13.120] the answer, and the two lent lists
pub record LogRead : Type 0 where
  pub answer : Answer
  pub times : List ℕ
  pub actions : List ℕ

-- helper: of its parts
abbrev pub log_gave : Answer → List ℕ → List ℕ → LogRead
log_gave answer times actions = record { answer = answer; times = times; actions = actions }

-- [13.125] [4.110] refused: the lists are as they were lent
abbrev pub unlogged : ℕ → ℕ → List ℕ → List ℕ → LogRead
unlogged code line times actions = log_gave (answer_of code 0 line) times actions

-- [13.120] [4.70] the log in the first places of the lists, and how many entries it has
abbrev pub logged : List Entry → List ℕ → List ℕ → LogRead
logged log times actions = log_gave (answer_of 0 0 (length log)) (over (times_in log) times) (over (actions_in log) actions)

-- [13.125] [4.16] a log in lists of which the shorter may have too few places for it
unfoldable pub logged_in : List Entry → List ℕ → List ℕ → LogRead
logged_in log times actions =
    cond (ltb (min (length times) (length actions)) (length log)) (unlogged 16 0 times actions) (logged log times actions)

-- [13.125] p is a process of a trace with n of them
abbrev pub is_process : ℕ → ℕ → Bool
is_process n p = leb 1 p && leb p n

-- [13.120] [13.125] [11.55] [4.7] the log of process p in a trace, or the refusal of a text with its line
abbrev pub log_into : ℕ → List ℕ → List ℕ → Trace → LogRead
log_into p times actions (refused why line) = unlogged (code_of why) line times actions
log_into p times actions (trace line k events) =
    cond (is_process k.n p) (logged_in (trace_log k events p) times actions) (unlogged 7 0 times actions)

-- [13.120] all that it gives back, of a text, a process and two lists
unfoldable pub read_accepted_of : List ℕ → ℕ → List ℕ → List ℕ → LogRead
read_accepted_of text p times actions = log_into p times actions (trace_of text)
