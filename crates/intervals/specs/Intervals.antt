-- Section 11 of the specification, what intervals are and how they are written: `intervals_of`, of a list of actions and of the answers to
-- them, and `write_intervals_of`, all that the call gives back. Assumes nothing.
use Rattle.std.specs.Prelude.{ℕ, cond, ◌&&◌, List, [], ◌∷◌, ◌++◌, eqb}
use Rattle.model.specs.declared.Parameters.{Parameters}
use Rattle.model.specs.Refusals.{code_of}
use Rattle.model.specs.Answers.{fresh_of}
use Rattle.model.specs.Tallies.{Attempt, is_entry, is_exit}
use Rattle.model.specs.Texts.{bytes, comma, newline, number_text, Event}
use Rattle.model.specs.Readings.{Trace, refused, trace, trace_of}
use Rattle.model.specs.Writings.{Written, unwritten, fitted}
use Rattle.model.specs.Executions.{attempts_from}

-- Intervals

-- [11.30] where an interval ends: nowhere yet, so that it is open; or at a time
pub data End : Type 0 where
  ongoing : End
  until : ℕ → End

-- [11.20] [11.30]
pub record Interval : Type 0 where
  pub process : ℕ
  pub from : ℕ
  pub to : End

-- helper: of its parts
abbrev pub interval : ℕ → ℕ → End → Interval
interval process from to = record { process = process; from = from; to = to }

-- [11.30] where an interval of process p ends, by what was attempted after its crit: at the next accepted exit of p
unfoldable pub end_of : ℕ → List Attempt → End
end_of p [] = ongoing
end_of p (e ∷ es) = cond (is_exit e && eqb e.process p) (until e.time) (end_of p es)

-- [11.20] an interval for each accepted crit, in their order; the list has the first attempt first, where a log of `Tallies` has the last first
unfoldable pub intervals_of : List Attempt → List Interval
intervals_of [] = []
intervals_of (e ∷ es) = cond (is_entry e) (interval e.process e.time (end_of e.process es) ∷ intervals_of es) (intervals_of es)

-- [11.10] [11.20] those of the steps of a trace with these parameters
abbrev pub trace_intervals : Parameters → List Event → List Interval
trace_intervals k events = intervals_of (attempts_from (fresh_of k).state events)

-- Their text

-- [11.40]
abbrev pub interval_names : List ℕ
interval_names = bytes "window,from,to\n"

-- [11.45] the last field of a line
unfoldable pub end_text : End → List ℕ
end_text ongoing = bytes "-\n"
end_text (until m) = number_text newline m

-- [11.45]
unfoldable pub interval_text : Interval → List ℕ
interval_text i = number_text comma i.process ++ (number_text comma i.from ++ end_text i.to)

-- [11.45] a line for each
unfoldable pub interval_lines : List Interval → List ℕ
interval_lines [] = []
interval_lines (i ∷ is) = interval_text i ++ interval_lines is

-- [11.40] [11.45] the whole
unfoldable pub intervals_text : List Interval → List ℕ
intervals_text is = interval_names ++ interval_lines is

-- The call

-- [11.50] [11.55] [11.60] [4.110] the text of the intervals in an output that may be too short, or the refusal with its line
abbrev pub intervals_into : List ℕ → Trace → Written
intervals_into out (refused why line) = unwritten (code_of why) line out
intervals_into out (trace line k events) = fitted (intervals_text (trace_intervals k events)) out

-- [11.50] all that it gives back
unfoldable pub write_intervals_of : List ℕ → List ℕ → Written
write_intervals_of text out = intervals_into out (trace_of text)
