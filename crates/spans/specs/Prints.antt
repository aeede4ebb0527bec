-- Section 11 of the specification, what the program prints. Assumes nothing.
use Rattle.std.specs.Prelude.{ℕ, List}
use Rattle.model.specs.Readings.{Trace, refused, trace, trace_of}
use Rattle.model.specs.Reports.{report_text}
use Rattle.intervals.specs.Intervals.{trace_intervals, intervals_text}

-- [11.95] the text of the intervals of a trace; or, where it is refused, what `replay` prints for it
abbrev pub printed_for : List ℕ → Trace → List ℕ
printed_for text (refused why line) = report_text text
printed_for text (trace line k events) = intervals_text (trace_intervals k events)

-- [11.95] of any bytes
unfoldable pub printed_text : List ℕ → List ℕ
printed_text text = printed_for text (trace_of text)
