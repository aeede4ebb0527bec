-- Section 7 of the specification: what `replay` prints, and `report_of`, all that a report gives back. Assumes nothing.
use Rattle.std.specs.Prelude.{ℕ, ◌+◌, List, [], ◌∷◌, ◌++◌, map}
use Rattle.model.specs.Refusals.{code_of}
use Rattle.model.specs.Answers.{answer_numbers, fresh_of}
use Rattle.model.specs.Texts.{bytes, numbers_text}
use Rattle.model.specs.Readings.{Trace, refused, trace, trace_of}
use Rattle.model.specs.Writings.{Written, fitted}
use Rattle.model.specs.Executions.{answers_from}

-- [7.20]
abbrev pub answer_names : List ℕ
answer_names = bytes "line,answer,window,moment\n"

-- [7.25] [7.40] a line for each row of numbers, after the number of a line, which for the first of them is this
unfoldable pub rows_text : ℕ → List (List ℕ) → List ℕ
rows_text line [] = []
rows_text line (row ∷ rows) = numbers_text line row ++ rows_text (line + 1) rows

-- [7.30] [7.35] [7.40] [7.45] what follows the first line
abbrev pub report_lines : Trace → List ℕ
report_lines (refused why line) = numbers_text line (code_of why ∷ 0 ∷ 0 ∷ [])
report_lines (trace line k events) = rows_text line (map answer_numbers (answers_from (fresh_of k).state events))

-- [7.15] [7.20] the whole report
unfoldable pub report_text : List ℕ → List ℕ
report_text text = answer_names ++ report_lines (trace_of text)

-- [7.50] [4.70]
abbrev pub report_of : List ℕ → List ℕ → Written
report_of text out = fitted (report_text text) out
