-- Section 10 of the specification, its lists of calls: the answer to each call on a board, worked out from the calls since setting up and
-- the codes of their answers alone, with all entries that were ever accepted and no board in it. Assumes nothing.
use Rattle.std.specs.Prelude.{ℕ, ◌≡◌, ◌≢◌, Bool, cond, not, ◌&&◌, List, [], ◌∷◌, ltb, eqb}
use Rattle.model.specs.declared.Answer.{Answer}
use Rattle.model.specs.Answers.{answer_of, beyond}
use Rattle.model.specs.Folds.{end_by, results_by, log_by}
use Rattle.recent.specs.Boards.{Entry, entry_with, most_kept, how_many, figures_at, is_process}
use Rattle.recent.specs.Encodings.{LentBoard, lent_set_up, lent_add, lent_show}

-- Calls

-- [10.150] an adding; or a showing, for which process and wait are of no account
pub record BoardCall : Type 0 where
  pub adds : Bool
  pub time : ℕ
  pub process : ℕ
  pub wait : ℕ

-- [10.150] what a call on lent numbers gives back
unfoldable pub lent_board_call : List ℕ → BoardCall → LentBoard
lent_board_call l d = cond d.adds (lent_add l d.time d.process d.wait) (lent_show l d.time)

-- helper: the numbers that a call hands on to the next
abbrev pub board_after : LentBoard → List ℕ
board_after r = r.board

-- The log

-- [10.150] a call, and the code of the answer to it
pub record Asked : Type 0 where
  pub call : BoardCall
  pub code : ℕ

-- helper: of its parts
abbrev pub asked : BoardCall → ℕ → Asked
asked d code = record { call = d; code = code }

-- helper: of a call and what it gave back
abbrev pub asked_by : BoardCall → LentBoard → Asked
asked_by d r = asked d r.answer.code

-- [10.150] the log of a list of calls since setting up, the last first
abbrev pub asked_of : List BoardCall → List LentBoard → List Asked
asked_of ds rs = log_by asked_by [] ds rs

-- [10.150] the last time that was told, 0 where none was
unfoldable pub last_told : List Asked → ℕ
last_told [] = 0
last_told (k ∷ log) = cond (eqb k.code 0) k.call.time (last_told log)

-- [10.150] the full list of the entries that were accepted, the last first: none is ever dropped
unfoldable pub accepted_in : List Asked → List Entry
accepted_in [] = []
accepted_in (k ∷ log) =
    cond (k.call.adds && eqb k.code 0) (entry_with k.call.time k.call.process k.call.wait ∷ accepted_in log) (accepted_in log)

-- What is worked out

-- [10.150] the answer to the call d after the calls of the log, on a board that was set up with W; the entry of an adding is among those
-- that its figures are of
unfoldable pub worked_out : ℕ → List Asked → BoardCall → Answer
worked_out w log d =
    cond (ltb d.time (last_told log)) (answer_of 4 0 (last_told log))
    (cond (beyond d.time) (answer_of 5 0 0)
    (cond (d.adds && not (is_process d.process)) (answer_of 7 0 0)
    (cond (d.adds && eqb (how_many w d.time (accepted_in log)) most_kept) (answer_of 18 0 0)
    (figures_at w d.time (accepted_in (asked d 0 ∷ log))))))

-- [10.150] [10.155] the call d after the calls of a log gave back r, and was given the numbers l; the setting up of W had that code
pub record BoardPromise (w code : ℕ) (log : List Asked) (d : BoardCall) (l : List ℕ) (r : LentBoard) : Type 0 where
  -- [10.150] refusals too
  pub answer : code ≡ 0 → r.answer ≡ worked_out w log d
  -- [10.150] both figures of a success
  pub figures : code ≡ 0 → r.answer.code ≡ 0 → r.answer ≡ figures_at w d.time (accepted_in (asked d 0 ∷ log))
  -- [10.155]
  pub refused : code ≢ 0 → r.answer ≡ answer_of 2 0 0
  -- [10.155]
  pub refused_stays : code ≢ 0 → r.board ≡ l

-- helper: what each call of a list gave back, on the numbers that setting up W left
abbrev pub board_results : ℕ → List ℕ → List BoardCall → List LentBoard
board_results w board ds = results_by lent_board_call board_after (lent_set_up w board).board ds

-- helper: the numbers that the last one left
abbrev pub board_run : ℕ → List ℕ → List BoardCall → List ℕ
board_run w board ds = end_by lent_board_call board_after (lent_set_up w board).board ds

-- [10.150] [10.155] of every list of calls, and every call after it: each list of calls is covered call by call
abbrev pub EveryBoardList : Type 0
EveryBoardList = (w : ℕ) (board : List ℕ) (ds : List BoardCall) (d : BoardCall)
    → BoardPromise w (lent_set_up w board).answer.code (asked_of ds (board_results w board ds)) d
    (board_run w board ds) (lent_board_call (board_run w board ds) d)
