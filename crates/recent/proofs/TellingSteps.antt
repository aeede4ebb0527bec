-- A recorded step along a list of calls that tell a board: the board's answer is the one worked out from the log, and it refuses an accepted
-- crit only where it was shown at a later time or is full. Assumes nothing.
use Prim.Native.Nat.{ℕ, ◌≤◌, ◌<◌}
use mathlib.Core.Path.{◌≡◌, sym, ap, subst, ◌∙◌}
use mathlib.Core.Logic.{⊎_elim}
use mathlib.Core.Bool.{true, false, not}
use mathlib.Core.List.{List, ◌∷◌}
use native.Mathlib.Omega.{arith}
use lib.Dec.{ltb, eqb}
use borrow.Author.Tests.{ltb-true, le-leb, eqb-true, not-true}
use Rattle.model.specs.declared.Answer.{Answer}
use Rattle.model.specs.declared.Recorded.{Recorded}
use Rattle.model.specs.Acts.{crit_act}
use Rattle.model.specs.Texts.{Event}
use Rattle.model.specs.States.{last_time}
use Rattle.model.specs.Answers.{beyond}
use Rattle.model.specs.Summaries.{wait_of}
use Rattle.model.proofs.Tests.{by_cond, clash, and_true_iff}
use Rattle.theory.specs.Acceptance.{Allowed, Waits, Acts}
use Rattle.theory.proofs.RecordedSteps.{Judged, judged}
use Rattle.theory.proofs.Soundness.{sound_iff_plain}
use Rattle.tallies.specs.Tallies.{record_next}
use Rattle.tallies.proofs.Tallies.{along_judged, recorded_allowed, recorded_wait, recorded_clock, recorded_later}
use Rattle.layout.specs.Encodings.{table_in, summary_in}
use Rattle.layout.specs.Interface.{LentBoth, lent_record}
use Rattle.lending.specs.Guarantees.{lent_call, both_in_numbers}
use Rattle.layout.proofs.Encodings.{table_comes_back, summary_comes_back}
use Rattle.lending.proofs.LentTallies.{next_whole, record_in_numbers}
use Rattle.recent.specs.Boards.{most_kept, how_many, is_process}
use Rattle.recent.specs.Encodings.{LentBoard, lent_add}
use Rattle.recent.specs.Lists.{lent_board_call, last_told, worked_out}
use Rattle.recent.specs.Tellings.{LentTold, told_gave, entered, left_alone, lent_tell, TellCall, Noted, noted, adding, tellings_in, entries_in}
use Rattle.recent.specs.Tellings.{ShownAt, CritCode}
use Rattle.recent.proofs.Following.{worked_success}
use Rattle.recent.proofs.Lists.{LentFollows, lent_answer, lent-next}
use Rattle.recent.proofs.OneTelling.{TellGiven, tell_given}
use Rattle.recent.proofs.TellingsAlong.{attempts_taken, tellings_told, tellings_alone, ToldBy, told_before, told_last, TellsAlong, TellNext}

module _ {w : ℕ} {rest spare : List ℕ} {log : List Noted} {g : LentTold} (h : TellsAlong w rest spare log g) (d : TellCall) where
  abbrev Next : LentTold → Type 0
  Next = TellNext w rest spare log d

  -- The step

  abbrev event : Event
  event = record { time = d.time; process = d.process; action = d.action }

  abbrev taken : LentBoth
  taken = lent_record g.table g.summary d.action d.process d.time

  abbrev after : Recorded
  after = record_next h.recorded event

  abbrev judgement : Judged h.recorded.outcome.state h.recorded.statistics d.action d.process d.time after
  judgement = judged h.recorded.outcome.state h.recorded.statistics d.action d.process d.time

  -- it gives back the numbers of the recorded step on what the numbers tell
  taken_is : taken ≡ both_in_numbers rest spare after
  unfolding lent_call
  taken_is = rw (h.table, h.summary) (record_in_numbers rest spare h.recorded h.whole event)

  code_is : taken.answer.code ≡ after.outcome.answer.code
  code_is = ap (λ (b : LentBoth). b.answer.code) taken_is

  -- whatever the board did
  module _ (n : d.shows ≡ false) (b : LentBoard) where
    abbrev gave : LentTold
    gave = told_gave taken b

    taken_next : LentFollows w (tellings_in (noted d gave ∷ log)) b.board
        → ToldBy (last_told (tellings_in (noted d gave ∷ log))) after.outcome.state.clock (noted d gave ∷ log)
        → TellsAlong w rest spare (noted d gave ∷ log) gave
    taken_next board last = record {
      recorded = after;
      whole = next_whole rest spare h.recorded h.whole event;
      table = ap (λ (b : LentBoth). b.table) taken_is;
      summary = ap (λ (b : LentBoth). b.summary) taken_is;
      along = rw (attempts_taken d gave log n, code_is) (along_judged h.along d.action d.process d.time judgement);
      board = board;
      last = last;
    }

  later : h.recorded.outcome.state.clock ≤ after.outcome.state.clock
  later = recorded_later h.along d.action d.process d.time judgement

  -- The board is left alone

  alone_next : d.shows ≡ false → entered taken.answer.code d.action ≡ false → Next (told_gave taken (left_alone g.board))
  alone_next n e =
      let r = told_gave taken (left_alone g.board) in
      let tellings = tellings_alone d r log n e in
      record {
        promise = record {
          told = λ _ f. clash f e;
          told_code = λ _ f. clash f e;
          shown = λ y. clash y n;
          figures = λ f. clash f (rw (n, e));
        };
        next = taken_next n (left_alone g.board) (rw tellings h.board) (rw tellings (told_before (noted d r) later h.last));
      }

  -- An accepted crit

  module _ (e : entered taken.answer.code d.action ≡ true) where
    was_accepted : after.outcome.answer.code ≡ 0
    was_accepted = sym code_is ∙ eqb-true _ _ ((and_true_iff (eqb taken.answer.code 0) (eqb d.action crit_act)).0 e).0

    crit : d.action ≡ crit_act
    crit = eqb-true _ _ ((and_true_iff (eqb taken.answer.code 0) (eqb d.action crit_act)).0 e).1

    allowed : Allowed h.recorded.outcome.state d.action d.process d.time
    allowed = recorded_allowed h.along d.action d.process d.time judgement was_accepted

    process_stands : is_process d.process ≡ true
    process_stands =
        let most = ((sound_iff_plain h.recorded.outcome.state).0 h.along.sound).parameters.count.most in
        ⊎_elim (λ (v : Waits d.action d.process). absurd (omega (arith, crit)))
        (λ (a : Acts h.recorded.outcome.state d.action d.process d.time).
        rw (le-leb 1 d.process a.some, le-leb d.process 96 (omega arith)))
        allowed.turn

    -- a time past its own was told by a showing
    past_shown : {t : ℕ} → d.time < t → ToldBy t h.recorded.outcome.state.clock log → ShownAt t log
    past_shown f (ToldBy.by_step u) = absurd (omega (arith, allowed.forward))
    past_shown f (ToldBy.by_showing u) = u

    abbrev Coded : Answer → Type 0
    Coded r = CritCode w log d.time r.code

    crit_code : Coded (worked_out w (tellings_in log) (adding log d))
    unfolding worked_out
    crit_code =
        by_cond Coded (ltb d.time (last_told (tellings_in log)))
        (λ f. CritCode.shown_past (last_told (tellings_in log)) (past_shown (ltb-true _ _ f) h.last) (ltb-true _ _ f))
        (λ _. by_cond Coded (beyond d.time) (λ f. absurd (omega (arith, allowed.within, ltb-true last_time d.time f)))
        (λ _. by_cond Coded (not (is_process d.process)) (λ f. clash process_stands (not-true _ f))
        (λ _. by_cond Coded (eqb (how_many w d.time (entries_in log)) most_kept) (λ f. CritCode.full (eqb-true _ _ f))
        (λ _. CritCode.accepted))))

    -- the wait that the summary counts is the one worked out from the acts
    add_is : lent_add g.board d.time d.process (wait_of (table_in g.table) (summary_in g.summary) d.process d.time)
        ≡ lent_board_call g.board (adding log d)
    unfolding lent_board_call
    add_is =
        ap (lent_add g.board d.time d.process)
        (rw (
          h.summary,
          h.table,
          summary_comes_back h.recorded.statistics h.whole.summary spare,
          (table_comes_back h.recorded.outcome.state h.whole.table rest).1,
        )
        (recorded_wait h.along d.action d.process d.time judgement was_accepted crit))

    told_next : d.shows ≡ false → Next (told_gave taken (lent_board_call g.board (adding log d)))
    told_next n =
        let c = adding log d in
        let b = lent_board_call g.board c in
        let r = told_gave taken b in
        let answer = lent_answer h.board c in
        let tellings = tellings_told d r log n e in
        let clock = recorded_clock h.along d.action d.process d.time judgement was_accepted in
        record {
          promise = record {
            told = λ _ _. answer;
            told_code = λ _ _. rw answer crit_code;
            shown = λ y. clash y n;
            figures = λ _ f. answer ∙ worked_success w (tellings_in log) c (rw (← answer) f) ∙ rw (tellings, f);
          };
          next = taken_next n b (rw tellings (lent-next h.board c))
              (rw tellings (told_last (noted d r) c r.told.code later (λ _. ToldBy.by_step (omega (arith, clock))) h.last));
        }

  -- Whichever it is

  taken_given : d.shows ≡ false → {r : LentTold} → TellGiven g.table g.summary g.board d.action d.process d.time r → Next r
  taken_given n (TellGiven.alone e) = alone_next n e
  taken_given n (TellGiven.told e) = subst (λ (b : LentBoard). Next (told_gave taken b)) (sym (add_is e)) (told_next e n)

  pub step_next : d.shows ≡ false → Next (lent_tell g.table g.summary g.board d.action d.process d.time)
  step_next n = taken_given n (tell_given g.table g.summary g.board d.action d.process d.time)
