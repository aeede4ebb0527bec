-- What stands along a list of recorded steps that tell a board, with showings among them: what the last call gave back, beside the log
-- of all; and what a log that is one call longer tells. Assumes nothing.
use Prim.Native.Nat.{ℕ, ◌≤◌}
use mathlib.Core.Path.{◌≡◌}
use mathlib.Core.Bool.{true, false}
use mathlib.Core.List.{List, ◌∷◌, ◌++◌}
use native.Mathlib.Omega.{arith}
use lib.Dec.{eqb}
use borrow.Author.Tests.{eqb-true}
use Rattle.model.specs.declared.Recorded.{Recorded}
use Rattle.model.specs.Tallies.{attempt}
use Rattle.model.proofs.Tests.{by_cond}
use Rattle.tallies.proofs.Tallies.{Along}
use Rattle.layout.specs.Encodings.{state_numbers, statistics_numbers}
use Rattle.lending.proofs.LentTallies.{BothWhole}
use Rattle.recent.specs.Lists.{BoardCall, asked, last_told}
use Rattle.recent.specs.Tellings.{LentTold, entered, TellCall, Noted, noted, attempts_in, showing, adding, tellings_in, ShownAt, ToldFigures}
use Rattle.recent.proofs.Lists.{LentFollows}

-- One call more in a log

module _ (d : TellCall) (r : LentTold) (log : List Noted) where
  pub attempts_shown : d.shows ≡ true → attempts_in (noted d r ∷ log) ≡ attempts_in log
  unfolding attempts_in
  attempts_shown y = rw y

  pub attempts_taken : d.shows ≡ false
      → attempts_in (noted d r ∷ log) ≡ attempt d.action d.process d.time r.answer.code ∷ attempts_in log
  unfolding attempts_in
  attempts_taken n = rw n

  pub tellings_shown : d.shows ≡ true → tellings_in (noted d r ∷ log) ≡ asked (showing d.time) r.told.code ∷ tellings_in log
  unfolding tellings_in
  tellings_shown y = rw y

  pub tellings_told : d.shows ≡ false → entered r.answer.code d.action ≡ true
      → tellings_in (noted d r ∷ log) ≡ asked (adding log d) r.told.code ∷ tellings_in log
  unfolding tellings_in
  tellings_told n e = rw (n, e)

  pub tellings_alone : d.shows ≡ false → entered r.answer.code d.action ≡ false → tellings_in (noted d r ∷ log) ≡ tellings_in log
  unfolding tellings_in
  tellings_alone n e = rw (n, e)

-- A time that the board was told: an adding's, which is not past the clock, or a showing's

pub data ToldBy (t clock : ℕ) (log : List Noted) : Type 0 where
  by_step : t ≤ clock → ToldBy t clock log
  by_showing : ShownAt t log → ToldBy t clock log

pub told_before : {t clock next : ℕ} {log : List Noted} (k : Noted) → clock ≤ next → ToldBy t clock log → ToldBy t next (k ∷ log)
told_before k h (ToldBy.by_step e) = ToldBy.by_step (omega arith)
told_before k h (ToldBy.by_showing e) = ToldBy.by_showing (ShownAt.before e)

-- the last time of a log that is one call longer
pub told_last : {clock next : ℕ} {log : List Noted} (k : Noted) (c : BoardCall) (code : ℕ) → clock ≤ next
    → (code ≡ 0 → ToldBy c.time next (k ∷ log)) → ToldBy (last_told (tellings_in log)) clock log
    → ToldBy (last_told (asked c code ∷ tellings_in log)) next (k ∷ log)
unfolding last_told
told_last {next = next} {log = log} k c code h new old =
    by_cond (λ (t : ℕ). ToldBy t next (k ∷ log)) (eqb code 0) (λ e. new (eqb-true _ _ e)) (λ _. told_before k h old)

-- Along a list of calls

-- what the last one gave back, beside the log of all
pub record TellsAlong (w : ℕ) (rest spare : List ℕ) (log : List Noted) (g : LentTold) : Type 0 where
  pub recorded : Recorded
  pub whole : BothWhole recorded
  pub table : g.table ≡ state_numbers recorded.outcome.state ++ rest
  pub summary : g.summary ≡ statistics_numbers recorded.statistics ++ spare
  pub along : Along (attempts_in log) recorded.outcome.state recorded.statistics
  pub board : LentFollows w (tellings_in log) g.board
  pub last : ToldBy (last_told (tellings_in log)) recorded.outcome.state.clock log

-- the next one keeps its promise, and they go on
pub record TellNext (w : ℕ) (rest spare : List ℕ) (log : List Noted) (d : TellCall) (g : LentTold) : Type 0 where
  pub promise : ToldFigures w log d g
  pub next : TellsAlong w rest spare (noted d g ∷ log) g
