-- Lists of calls on lent numbers: those that setting up left follow the log of the calls, so each answer is the one worked out from the log;
-- those of a setting up that was refused tell no sound board, and stay. Assumes nothing.
use Prim.Native.Nat.{ℕ, ◌≤◌}
use mathlib.Core.Path.{◌≡◌, refl, ap, ◌∙◌}
use mathlib.Core.Logic.{◌≢◌}
use mathlib.Core.Bool.{true, false, ◌&&◌}
use mathlib.Core.List.{List, [], ◌∷◌}
use native.Mathlib.Omega.{arith}
use lib.Dec.{leb}
use lib.ListN.{length}
use borrow.Author.Tests.{leb-true}
use Rattle.model.specs.declared.Answer.{Answer}
use Rattle.model.specs.Answers.{answer_of}
use Rattle.model.specs.Folds.{end_by, results_by, log_by}
use Rattle.model.proofs.Tests.{by_test, by_cond}
use Rattle.recent.specs.Boards.{board_sound, width_stands, set_up_of, add_of, show_of}
use Rattle.recent.specs.Encodings.{board_length, board_in, is_board, LentBoard, board_gave, lent_set_up, lent_add, lent_show}
use Rattle.recent.specs.Lists.{BoardCall, lent_board_call, board_after, Asked, asked_by, worked_out}
use Rattle.recent.specs.Lists.{asked_of, board_results, board_run, BoardPromise, EveryBoardList}
use Rattle.recent.proofs.Numbers.{numbers_follow}
use Rattle.recent.proofs.Following.{board_call_of, Follows, set_up_follows, call_answer, call_next, worked_success}

-- Lent numbers that follow a log

-- the list l after the calls of a log
pub record LentFollows (w : ℕ) (log : List Asked) (l : List ℕ) : Type 0 where
  board : is_board l ≡ true
  follows : Follows w log (board_in l)

-- a call on a list that tells a board is the call on that board
record CallFollows (l : List ℕ) (d : BoardCall) : Type 0 where
  answer : (lent_board_call l d).answer ≡ (board_call_of (board_in l) d).answer
  board : board_in (lent_board_call l d).board ≡ (board_call_of (board_in l) d).board
  told : is_board (lent_board_call l d).board ≡ true

call_follows : (l : List ℕ) (d : BoardCall) → is_board l ≡ true → CallFollows l d
unfolding lent_board_call
call_follows l d e =
    by_test d.adds
    (λ y. let f = numbers_follow.add l d.time d.process d.wait e in
    record { answer = rw y f.0; board = rw y f.1; told = rw y f.2 })
    (λ n. let f = numbers_follow.show l d.time e in record { answer = rw n f.0; board = rw n f.1; told = rw n f.2 })

module _ {w : ℕ} {log : List Asked} {l : List ℕ} (lent : LentFollows w log l) (d : BoardCall) where
  abbrev called : CallFollows l d
  called = call_follows l d lent.board

  pub lent_answer : (lent_board_call l d).answer ≡ worked_out w log d
  lent_answer = called.answer ∙ call_answer lent.follows d

  pub lent-next : LentFollows w (asked_by d (lent_board_call l d) ∷ log) (lent_board_call l d).board
  lent-next = record {
    board = called.told;
    follows = rw (called.answer, called.board) (call_next lent.follows d);
  }

follows_all : {w : ℕ} (log : List Asked) (l : List ℕ) (ds : List BoardCall) → LentFollows w log l
    → LentFollows w (log_by asked_by log ds (results_by lent_board_call board_after l ds)) (end_by lent_board_call board_after l ds)
unfolding log_by results_by end_by
follows_all log l [] h = h
follows_all log l (d ∷ ds) h = follows_all (asked_by d (lent_board_call l d) ∷ log) (lent_board_call l d).board ds (lent-next h d)

-- Lent numbers that tell no sound board

abbrev Unsound : List ℕ → Type 0
Unsound l = (is_board l && board_sound (board_in l)) ≡ false

pub unsound_call : (l : List ℕ) → Unsound l → (d : BoardCall) → lent_board_call l d ≡ board_gave (answer_of 2 0 0) l
unfolding lent_board_call lent_add lent_show add_of show_of
unsound_call l unsound d =
    by_test (is_board l)
    (λ e. let f : board_sound (board_in l) ≡ false = rw e at unsound in by_test d.adds (λ g. rw (g, e, f)) (λ g. rw (g, e, f)))
    (λ e. by_test d.adds (λ g. rw (g, e)) (λ g. rw (g, e)))

unsound_run : (l : List ℕ) → Unsound l → (ds : List BoardCall) → end_by lent_board_call board_after l ds ≡ l
unfolding end_by
unsound_run l unsound [] = refl
unsound_run l unsound (d ∷ ds) =
    ap (λ (r : LentBoard). end_by lent_board_call board_after r.board ds) (unsound_call l unsound d) ∙ unsound_run l unsound ds

-- Setting up

set_up_accepted : (w : ℕ) → width_stands w ≡ true → (set_up_of w).answer.code ≡ 0
unfolding set_up_of
set_up_accepted w y = rw y

module _ (w : ℕ) (n : width_stands w ≡ false) where
  set_up_refused : (set_up_of w).answer.code ≢ 0
  unfolding set_up_of
  set_up_refused = rw n (omega arith)

  set_up_unsound : board_sound (set_up_of w).board ≡ false
  unfolding set_up_of board_sound
  set_up_unsound = rw n

module _ (w : ℕ) (board : List ℕ) where
  abbrev set_up : LentBoard
  set_up = lent_set_up w board

  data SetUpGiven : Type 0 where
    stood : set_up.answer.code ≡ 0 → LentFollows w [] set_up.board → SetUpGiven
    fell : set_up.answer.code ≢ 0 → Unsound set_up.board → SetUpGiven

  -- a list that is too short stays, and tells no board
  too_short : leb board_length (length board) ≡ false → SetUpGiven
  unfolding lent_set_up is_board
  too_short h =
      fell (rw h (by_cond (λ (r : Answer). r.code ≢ 0) {u = answer_of 16 0 0} {v = answer_of 17 0 0} (width_stands w) (λ _. omega arith)
      (λ _. omega arith))) (rw (h, h))

  long_enough : board_length ≤ length board → SetUpGiven
  long_enough h =
      let f = numbers_follow.set-up w board h in
      by_test (width_stands w)
      (λ y. stood (ap (λ (r : Answer). r.code) f.0 ∙ set_up_accepted w y)
      (record { board = f.2; follows = rw f.1 (set_up_follows w y) }))
      (λ n. fell (rw f.0 (set_up_refused w n)) (rw (f.1, f.2) (set_up_unsound w n)))

  set_up_given : SetUpGiven
  set_up_given = by_test (leb board_length (length board)) (λ h. long_enough (leb-true _ _ h)) too_short

  pub set_up_lent : set_up.answer.code ≡ 0 → LentFollows w [] set_up.board
  set_up_lent e = elim set_up_given [ stood _ h ↦ h | fell n _ ↦ absurd (n e) ]

-- Every list

board_promise : {w : ℕ} (board : List ℕ) (ds : List BoardCall) (d : BoardCall) → SetUpGiven w board
    → BoardPromise w (lent_set_up w board).answer.code (asked_of ds (board_results w board ds)) d
    (board_run w board ds) (lent_board_call (board_run w board ds) d)
board_promise {w} board ds d (SetUpGiven.stood e h) =
    let lent = follows_all [] (lent_set_up w board).board ds h in
    record {
      answer = λ _. lent_answer lent d;
      figures = λ _ f. lent_answer lent d ∙ worked_success w _ d (rw (← lent_answer lent d) f);
      refused = λ n. absurd (n e);
      refused_stays = λ n. absurd (n e);
    }
board_promise {w} board ds d (SetUpGiven.fell n h) =
    let same = unsound_run (lent_set_up w board).board h ds in
    let gave = unsound_call (lent_set_up w board).board h d in
    record {
      answer = λ e. absurd (n e);
      figures = λ e. absurd (n e);
      refused = λ _. rw (same, gave);
      refused_stays = λ _. rw (same, gave);
    }

pub every_board_list : EveryBoardList
every_board_list w board ds d = board_promise board ds d (set_up_given w board)
