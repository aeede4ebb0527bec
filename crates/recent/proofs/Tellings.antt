-- The figures of a board along every list of recorded steps that tell it, with showings among them, worked out from the acts and the answers to
-- them. Assumes nothing.
use Prim.Native.Nat.{ℕ}
use mathlib.Core.Path.{◌≡◌, refl, ap, ◌∙◌}
use mathlib.Core.Bool.{true}
use mathlib.Core.List.{List, [], ◌∷◌}
use native.Mathlib.Omega.{arith}
use lib.ListN.{drop}
use Rattle.model.specs.declared.Parameters.{Parameters}
use Rattle.model.specs.Folds.{end_by, results_by, log_by}
use Rattle.model.specs.Answers.{fresh_of}
use Rattle.model.proofs.Tests.{by_cond, clash}
use Rattle.theory.proofs.Soundness.{fresh_is}
use Rattle.tallies.specs.Tallies.{start_of}
use Rattle.tallies.proofs.Tallies.{along_start}
use Rattle.layout.specs.Encodings.{table_length, summary_length}
use Rattle.layout.specs.Interface.{LentBoth, lent_fresh, lent_summary}
use Rattle.lending.proofs.LentSteps.{fresh_given, new_given}
use Rattle.lending.proofs.LentTallies.{fresh_in_numbers, fresh_accepted, fresh_whole}
use Rattle.recent.specs.Encodings.{lent_set_up}
use Rattle.recent.specs.Lists.{lent_board_call, last_told}
use Rattle.recent.specs.Tellings.{LentTold, TellCall, lent_showing, lent_tell_call, Noted, noted, attempts_in, showing, tellings_in, ShownAt}
use Rattle.recent.specs.Tellings.{tell_start, tell_results, tell_all, EveryToldFigures}
use Rattle.recent.proofs.Following.{worked_success}
use Rattle.recent.proofs.Lists.{lent_answer, lent-next, set_up_lent}
use Rattle.recent.proofs.TellingsAlong.{attempts_shown, tellings_shown, ToldBy, told_last, TellsAlong, TellNext}
use Rattle.recent.proofs.TellingSteps.{step_next}

-- One call more

module _ {w : ℕ} {rest spare : List ℕ} {log : List Noted} {g : LentTold} (h : TellsAlong w rest spare log g) (d : TellCall) where
  -- a showing
  show_next : d.shows ≡ true → TellNext w rest spare log d (lent_showing g d.time)
  unfolding lent_board_call
  show_next y =
      let c = showing d.time in
      let r = lent_showing g d.time in
      let answer = lent_answer h.board c in
      let tellings = tellings_shown d r log y in
      record {
        promise = record {
          told = λ n. clash y n;
          told_code = λ n. clash y n;
          shown = λ _. answer;
          figures = λ _ e. answer ∙ worked_success w (tellings_in log) c (rw (← answer) e) ∙ rw (tellings, e);
        };
        next = record {
          recorded = h.recorded;
          whole = h.whole;
          table = h.table;
          summary = h.summary;
          along = rw (attempts_shown d r log y) h.along;
          board = rw tellings (lent-next h.board c);
          last = rw tellings (told_last (noted d r) c r.told.code (omega arith) (λ e. ToldBy.by_showing (ShownAt.here y e refl)) h.last);
        };
      }

  -- either
  tell_next : TellNext w rest spare log d (lent_tell_call g d)
  unfolding lent_tell_call
  tell_next = by_cond (TellNext w rest spare log d) d.shows show_next (step_next h d)

-- Every list

tells_all : {w : ℕ} {rest spare : List ℕ} (log : List Noted) (g : LentTold) (ds : List TellCall) → TellsAlong w rest spare log g
    → TellsAlong w rest spare (log_by noted log ds (tell_results g ds)) (tell_all g ds)
unfolding log_by results_by end_by
tells_all log g [] h = h
tells_all log g (d ∷ ds) h = tells_all (noted d (lent_tell_call g d) ∷ log) (lent_tell_call g d) ds (tell_next h d).next

tell-start : (k : Parameters) (w : ℕ) (table summary board : List ℕ)
    → (lent_fresh k table).answer.code ≡ 0 → (lent_summary summary).answer.code ≡ 0 → (lent_set_up w board).answer.code ≡ 0
    → TellsAlong w (drop table_length table) (drop summary_length summary) [] (tell_start k w table summary board)
unfolding attempts_in tellings_in last_told
tell-start k w table summary board e f u =
    let made = fresh_accepted k table summary (fresh_given k table) e in
    let start = fresh_in_numbers k table summary (fresh_given k table) (new_given summary) e f in
    record {
      recorded = start_of (fresh_of k).state;
      whole = fresh_whole k made;
      table = ap (λ (b : LentBoth). b.table) start;
      summary = ap (λ (b : LentBoth). b.summary) start;
      along = along_start (fresh_is k made);
      board = set_up_lent w board u;
      last = ToldBy.by_step (omega arith);
    }

pub every_told_figures : EveryToldFigures
every_told_figures k w table summary board ds d e f u =
    let start = tell_start k w table summary board in
    (tell_next (tells_all [] start ds (tell-start k w table summary board e f u)) d).promise
