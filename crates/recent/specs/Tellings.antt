-- Section 10 of the specification, its last clauses: a recorded step that tells a board of the entry it makes, and the figures of that board
-- by a second account, worked out from the acts and the answers to them. Assumes nothing.
use Rattle.std.specs.Prelude.{ℕ, ◌<◌, ◌≡◌, ◌≢◌, Bool, true, false, cond, ◌&&◌, ◌||◌, List, [], ◌∷◌, eqb, length, drop}
use Rattle.model.specs.declared.Parameters.{Parameters}
use Rattle.model.specs.declared.Answer.{Answer}
use Rattle.model.specs.Acts.{crit_act}
use Rattle.model.specs.Answers.{answer_of, fresh_of}
use Rattle.model.specs.Summaries.{wait_of}
use Rattle.model.specs.Texts.{Event}
use Rattle.model.specs.Tallies.{Attempt, attempt, wait_after}
use Rattle.model.specs.Folds.{end_by, results_by, itself, log_by}
use Rattle.layout.specs.Encodings.{table_length, table_in, summary_in}
use Rattle.layout.specs.Interface.{LentBoth, record_gave, lent_fresh, lent_summary, lent_record}
use Rattle.lending.specs.Guarantees.{LentCall, lent_run, LentDemand3, lent_start, lent_all, LentTally}
use Rattle.recent.specs.Boards.{Entry, most_kept, how_many, figures_at}
use Rattle.recent.specs.Encodings.{LentBoard, board_gave, lent_set_up, lent_add, lent_show}
use Rattle.recent.specs.Lists.{BoardCall, Asked, asked, accepted_in, worked_out}

-- The call

-- helper: both answers, and the numbers of table, summary and board
pub record LentTold : Type 0 where
  pub answer : Answer
  pub told : Answer
  pub table : List ℕ
  pub summary : List ℕ
  pub board : List ℕ

-- helper: of what a recorded step gave back, and what the board did
abbrev pub told_gave : LentBoth → LentBoard → LentTold
told_gave r b = record { answer = r.answer; told = b.answer; table = r.table; summary = r.summary; board = b.board }

-- [10.200] an accepted crit
abbrev pub entered : ℕ → ℕ → Bool
entered code act = eqb code 0 && eqb act crit_act

-- [10.205] the board is told nothing
abbrev pub left_alone : List ℕ → LentBoard
left_alone board = board_gave (answer_of 0 0 0) board

-- [10.200] [10.205] `funnelfawn_record_and_tell`: the recorded step, whatever the board answers; and the board, told of an accepted crit with
-- the wait that the summary counts, by table and summary before the step
unfoldable pub lent_tell : List ℕ → List ℕ → List ℕ → ℕ → ℕ → ℕ → LentTold
lent_tell table summary board act p m =
    told_gave (lent_record table summary act p m)
    (cond (entered (lent_record table summary act p m).answer.code act) (lent_add board m p (wait_of (table_in table) (summary_in summary) p m))
    (left_alone board))

-- [10.200] [10.205] what it gives back, of any numbers
pub record Tells (table summary board : List ℕ) (act p m : ℕ) (r : LentTold) : Type 0 where
  -- [10.205] the step stands whatever the board answers
  pub step : record_gave r.answer r.table r.summary ≡ lent_record table summary act p m
  -- [10.205]
  pub alone : entered r.answer.code act ≡ false → (r.told ≡ answer_of 0 0 0) × (r.board ≡ board)
  -- [10.200]
  pub told : entered r.answer.code act ≡ true → board_gave r.told r.board ≡ lent_add board m p (wait_of (table_in table) (summary_in summary) p m)
  -- [10.205] so it can be told whether an entry was
  pub seen : entered r.answer.code act ≡ true → r.told ≢ answer_of 0 0 0
  -- [10.100]
  pub refused_stays : r.told.code ≢ 0 → r.board ≡ board
  pub length_stays : length r.board ≡ length board

-- [10.200] [10.205]
abbrev pub TellIsPlain : Type 0
TellIsPlain = (table summary board : List ℕ) (act p m : ℕ) → Tells table summary board act p m (lent_tell table summary board act p m)

-- Lists of such calls, with showings among them

-- [10.220] a recorded step that tells the board; or a showing, of which the time alone is of account
pub record TellCall : Type 0 where
  pub shows : Bool
  pub action : ℕ
  pub process : ℕ
  pub time : ℕ

-- helper: a showing between recorded steps leaves table and summary, and has no answer of a step
abbrev pub lent_showing : LentTold → ℕ → LentTold
lent_showing r clock = told_gave (record_gave (answer_of 0 0 0) r.table r.summary) (lent_show r.board clock)

-- [10.220] what a call gives back, after the one that gave back r
unfoldable pub lent_tell_call : LentTold → TellCall → LentTold
lent_tell_call r d =
    cond d.shows (lent_showing r d.time) (lent_tell r.table r.summary r.board d.action d.process d.time)

-- The log, by which the figures are worked out a second time

-- [10.220] a call, with the codes of the step's answer and of the board's
pub record Noted : Type 0 where
  pub call : TellCall
  pub step_code : ℕ
  pub board_code : ℕ

-- helper: of a call and what it gave back
abbrev pub noted : TellCall → LentTold → Noted
noted d r = record { call = d; step_code = r.answer.code; board_code = r.told.code }

-- [10.220] the log of a list of calls, the last first
abbrev pub noted_of : List TellCall → List LentTold → List Noted
noted_of ds rs = log_by noted [] ds rs

-- [10.220] the acts and the answers to them
unfoldable pub attempts_in : List Noted → List Attempt
attempts_in [] = []
attempts_in (k ∷ log) =
    cond k.call.shows (attempts_in log)
    (attempt k.call.action k.call.process k.call.time k.step_code ∷ attempts_in log)

-- [10.220] a showing
abbrev pub showing : ℕ → BoardCall
showing clock = record { adds = false; time = clock; process = 0; wait = 0 }

-- [10.220] an entry that is told, its wait worked out from the acts before it
abbrev pub adding : List Noted → TellCall → BoardCall
adding log d = record { adds = true; time = d.time; process = d.process; wait = wait_after (attempts_in log) d.process d.time }

-- [10.220] what the board was told by these calls, and the codes of its answers
unfoldable pub tellings_in : List Noted → List Asked
tellings_in [] = []
tellings_in (k ∷ log) =
    cond k.call.shows (asked (showing k.call.time) k.board_code ∷ tellings_in log)
    (cond (entered k.step_code k.call.action) (asked (adding log k.call) k.board_code ∷ tellings_in log)
    (tellings_in log))

-- [10.220] the entries of the log that the board accepted, the last first
abbrev pub entries_in : List Noted → List Entry
entries_in log = accepted_in (tellings_in log)

-- [10.230] the board was shown at the time t with success, by a call of the log
pub data ShownAt (t : ℕ) : List Noted → Type 0 where
  here : {k : Noted} {log : List Noted} → k.call.shows ≡ true → k.board_code ≡ 0 → k.call.time ≡ t → ShownAt t (k ∷ log)
  before : {k : Noted} {log : List Noted} → ShownAt t log → ShownAt t (k ∷ log)

-- [10.230] the code with which the board answers to an accepted crit at the time t
pub data CritCode (w : ℕ) (log : List Noted) (t : ℕ) : ℕ → Type 0 where
  accepted : CritCode w log t 0
  shown_past : (s : ℕ) → ShownAt s log → t < s → CritCode w log t 4
  full : how_many w t (entries_in log) ≡ most_kept → CritCode w log t 18

-- [10.220] [10.230] the call d after the calls of a log gave back r; W is the width of the board
pub record ToldFigures (w : ℕ) (log : List Noted) (d : TellCall) (r : LentTold) : Type 0 where
  -- [10.220] the board's answer to an accepted crit
  pub told : d.shows ≡ false → entered r.answer.code d.action ≡ true → r.told ≡ worked_out w (tellings_in log) (adding log d)
  -- [10.230] its code
  pub told_code : d.shows ≡ false → entered r.answer.code d.action ≡ true → CritCode w log d.time r.told.code
  -- [10.220] its answer to a showing
  pub shown : d.shows ≡ true → r.told ≡ worked_out w (tellings_in log) (showing d.time)
  -- [10.220] both figures of a success of the board, by the entries of the log and, where an entry was told, that one
  pub figures : (d.shows || entered r.answer.code d.action) ≡ true → r.told.code ≡ 0
      → r.told ≡ figures_at w d.time (entries_in (noted d r ∷ log))

-- [10.220] a fresh table, a new summary and an empty board
abbrev pub tell_start : Parameters → ℕ → List ℕ → List ℕ → List ℕ → LentTold
tell_start k w table summary board =
    told_gave (record_gave (answer_of 0 0 0) (lent_fresh k table).table (lent_summary summary).summary) (left_alone (lent_set_up w board).board)

-- helper: what each call of a list gave back
abbrev pub tell_results : LentTold → List TellCall → List LentTold
tell_results r ds = results_by lent_tell_call itself r ds

-- helper: what the last one gave back
abbrev pub tell_all : LentTold → List TellCall → LentTold
tell_all r ds = end_by lent_tell_call itself r ds

-- [10.220] of every list of calls, and every call after it
abbrev pub EveryToldFigures : Type 0
EveryToldFigures = (k : Parameters) (w : ℕ) (table summary board : List ℕ) (ds : List TellCall) (d : TellCall)
    → (lent_fresh k table).answer.code ≡ 0 → (lent_summary summary).answer.code ≡ 0 → (lent_set_up w board).answer.code ≡ 0
    → ToldFigures w (noted_of ds (tell_results (tell_start k w table summary board) ds)) d
    (lent_tell_call (tell_all (tell_start k w table summary board) ds) d)

-- The recorded steps of such a list are a list of recorded steps, so what holds of these holds of it

-- [10.225] its recorded steps, without the showings; to each the summary is lent that the one before it left
unfoldable pub steps_told : LentTold → List TellCall → List LentCall
steps_told r [] = []
steps_told r (d ∷ ds) =
    cond d.shows (steps_told (lent_tell_call r d) ds)
    (record { recorded = true; action = d.action; process = d.process; time = d.time; summary = r.summary } ∷ steps_told (lent_tell_call r d) ds)

-- [10.225] their acts
unfoldable pub acts_told : List TellCall → List Event
acts_told [] = []
acts_told (d ∷ ds) =
    cond d.shows (acts_told ds) (record { time = d.time; process = d.process; action = d.action } ∷ acts_told ds)

-- [10.225] [9.140] [9.150] demand 3 and the tally
pub record ToldHolds (k : Parameters) (w : ℕ) (table summary board : List ℕ) (ds : List TellCall) : Type 0 where
  pub demand3 : LentDemand3 (fresh_of k).state (lent_fresh k table).table (drop table_length table) (steps_told (tell_start k w table summary board) ds)
  pub table_is : (tell_all (tell_start k w table summary board) ds).table
      ≡ lent_run (lent_fresh k table).table (steps_told (tell_start k w table summary board) ds)
  pub tally : LentTally k table summary (acts_told ds)
  pub summary_is : (tell_all (tell_start k w table summary board) ds).summary ≡ (lent_all (lent_start k table summary) (acts_told ds)).summary

-- [10.225]
abbrev pub EveryToldSteps : Type 0
EveryToldSteps = (k : Parameters) (w : ℕ) (table summary board : List ℕ) (ds : List TellCall)
    → (lent_fresh k table).answer.code ≡ 0 → (lent_summary summary).answer.code ≡ 0 → ToldHolds k w table summary board ds
