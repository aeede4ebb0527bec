-- Section 10 of the specification, of the code's own calls: a chain has for each call a result that the contract of the exported function
-- allows, each on the numbers that the one before it left. Assumes nothing.
use Rattle.std.specs.Prelude.{ℕ, ◌≤◌, ◌≡◌, true, false, List, length}
use Rattle.model.specs.declared.Parameters.{Parameters}
use Rattle.model.specs.Folds.{Chained, last_of, itself}
use Rattle.model.specs.Answers.{answer_of}
use Rattle.model.specs.Summaries.{wait_of}
use Rattle.layout.specs.Interface.{Lent, LentSummary, record_gave}
use Rattle.layout.specs.Encodings.{table_in, summary_in}
use Rattle.recent.specs.Encodings.{board_length, LentBoard, board_gave}
use Rattle.recent.specs.Facts.{WidthStands}
use Rattle.recent.specs.Lists.{BoardCall, board_after, asked_of, BoardPromise}
use Rattle.recent.specs.Tellings.{LentTold, told_gave, entered, TellCall, noted_of, ToldFigures, tell_start, tell_results, ToldHolds}
use Rattle.exported.specs.Lending.{Starts, StartsSummary, SetsUp, AddsTo, ShowsOn, TellsTo}
use Rattle.exported.specs.TableChains.{SomeTableStart, SomeSummaryStart}

-- The board alone

-- [10.150] [10.236] a result of one call on the numbers l; an adding is made, too, by a recorded step that accepts a crit, on any table and any
-- summary, with the wait that the two tell
pub data MadeOnBoard (l : List ℕ) (d : BoardCall) (r : LentBoard) : Type 0 where
  by_add : d.adds ≡ true → AddsTo l d.time d.process d.wait r → MadeOnBoard l d r
  by_show : d.adds ≡ false → ShowsOn l d.time r → MadeOnBoard l d r
  by_tell : d.adds ≡ true → (table summary : List ℕ) (act : ℕ) (t : LentTold)
      → TellsTo table summary l act d.process d.time t → entered t.answer.code act ≡ true
      → d.wait ≡ wait_of (table_in table) (summary_in summary) d.process d.time → r ≡ board_gave t.told t.board → MadeOnBoard l d r

-- [10.150] [10.236] each on the numbers that the one before it left
abbrev pub BoardChain : List ℕ → List BoardCall → List LentBoard → Type 0
BoardChain l ds rs = Chained MadeOnBoard board_after l ds rs

-- [10.150] [10.155] [10.236] whoever makes the calls, on any list of numbers, from setting up on: of each call d, after the calls ds
abbrev pub EveryBoardChain : Type 0
EveryBoardChain = (w : ℕ) (board : List ℕ) (start : LentBoard) (ds : List BoardCall) (rs : List LentBoard) (d : BoardCall) (r : LentBoard)
    → SetsUp w board start → BoardChain start.board ds rs → MadeOnBoard (last_of board_after start.board rs) d r
    → BoardPromise w start.answer.code (asked_of ds rs) d (last_of board_after start.board rs) r

-- [10.236] the premises are not empty ones: a board can be set up in any list, and every list of calls has a chain
pub record SomeBoardChain : Type 0 where
  pub start : (w : ℕ) (board : List ℕ) → (r : LentBoard) × SetsUp w board r
  pub chain : (l : List ℕ) (ds : List BoardCall) → (rs : List LentBoard) × BoardChain l ds rs

-- Recorded steps that tell the board

-- [10.220] [10.236] a result of one call, on the numbers that r left; a showing is not lent table and summary, which stay
pub data MadeTelling (r : LentTold) (d : TellCall) (t : LentTold) : Type 0 where
  by_tell : d.shows ≡ false → TellsTo r.table r.summary r.board d.action d.process d.time t → MadeTelling r d t
  by_show : d.shows ≡ true → (b : LentBoard) → ShowsOn r.board d.time b
      → t ≡ told_gave (record_gave (answer_of 0 0 0) r.table r.summary) b → MadeTelling r d t

-- [10.220] [10.236] each on the numbers that the one before it left
abbrev pub TellChain : LentTold → List TellCall → List LentTold → Type 0
TellChain r ds rs = Chained MadeTelling itself r ds rs

-- [10.220] a table, a summary and a board to start with
abbrev pub starts_with : Lent → LentSummary → LentBoard → LentTold
starts_with f x b = told_gave (record_gave (answer_of 0 0 0) f.table x.summary) (board_gave (answer_of 0 0 0) b.board)

-- [10.220] [10.230] [10.236] whoever makes the calls, from a fresh table, a new summary and an empty board: of each call d, after the calls ds
abbrev pub EveryToldFiguresChain : Type 0
EveryToldFiguresChain = (k : Parameters) (w : ℕ) (table summary board : List ℕ) (f : Lent) (x : LentSummary) (b : LentBoard)
    (ds : List TellCall) (rs : List LentTold) (d : TellCall) (r : LentTold)
    → Starts k table f → StartsSummary summary x → SetsUp w board b
    → f.answer.code ≡ 0 → x.answer.code ≡ 0 → b.answer.code ≡ 0
    → TellChain (starts_with f x b) ds rs → MadeTelling (last_of itself (starts_with f x b) rs) d r
    → ToldFigures w (noted_of ds rs) d r

-- [10.225] [10.236] and of all calls together demand 3 and the tally: the results are those that `ToldHolds` speaks of
pub record ToldStepsChain (k : Parameters) (w : ℕ) (table summary board : List ℕ) (ds : List TellCall) (rs : List LentTold) : Type 0 where
  pub results_are : rs ≡ tell_results (tell_start k w table summary board) ds
  pub holds : ToldHolds k w table summary board ds

-- [10.225] [10.236]
abbrev pub EveryToldStepsChain : Type 0
EveryToldStepsChain = (k : Parameters) (w : ℕ) (table summary board : List ℕ) (f : Lent) (x : LentSummary) (b : LentBoard)
    (ds : List TellCall) (rs : List LentTold)
    → Starts k table f → StartsSummary summary x → SetsUp w board b → f.answer.code ≡ 0 → x.answer.code ≡ 0
    → TellChain (starts_with f x b) ds rs → ToldStepsChain k w table summary board ds rs

-- [10.236] the premises of the two statements above are not empty ones: a start can be had in lists that are long enough, and every list of
-- calls has a chain
pub record SomeToldChain : Type 0 where
  pub table : SomeTableStart
  pub summary : SomeSummaryStart
  pub board : (w : ℕ) (board : List ℕ) → WidthStands w → board_length ≤ length board
      → (b : LentBoard) × SetsUp w board b × (b.answer.code ≡ 0)
  pub chain : (r : LentTold) (ds : List TellCall) → (rs : List LentTold) × TellChain r ds rs
