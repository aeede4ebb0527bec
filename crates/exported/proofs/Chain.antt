-- The statements about chains of exported calls on a board, or that tell one: the contracts allow one result for each call, that of the
-- definition, so a chain is the list of calls, and every list has a chain. Assumes nothing.
use Prim.Native.Nat.{ℕ}
use mathlib.Core.Path.{◌≡◌, refl, ap, ◌∙◌}
use mathlib.Core.List.{List, []}
use Rattle.model.specs.Answers.{answer_of}
use Rattle.model.specs.Folds.{results_by, itself}
use Rattle.model.specs.declared.Parameters.{Parameters}
use Rattle.layout.specs.Interface.{Lent, LentSummary, record_gave}
use Rattle.recent.specs.Encodings.{LentBoard, lent_set_up, lent_add, lent_show}
use Rattle.recent.specs.Lists.{BoardCall, lent_board_call, board_after}
use Rattle.recent.specs.Tellings.{LentTold, told_gave, TellCall, lent_tell, lent_tell_call, tell_start}
use Rattle.model.proofs.Tests.{by_test}
use Rattle.model.proofs.Folds.{chain_results, chain_last, list_chain}
use Rattle.recent.proofs.Refusals.{lent_set_ups}
use Rattle.recent.proofs.Lists.{every_board_list}
use Rattle.recent.proofs.OneTelling.{tell_is_plain}
use Rattle.recent.proofs.Tellings.{every_told_figures}
use Rattle.recent.proofs.ToldLists.{every_told_steps}
use Rattle.exported.specs.Lending.{Starts, StartsSummary, SetsUp, ShowsOn}
use Rattle.exported.specs.Chains.{MadeOnBoard, EveryBoardChain, SomeBoardChain}
use Rattle.exported.specs.Chains.{MadeTelling, starts_with, EveryToldFiguresChain, EveryToldStepsChain, SomeToldChain}
use Rattle.exported.proofs.Lending.{starts_is, new_is, sets_up_is, adds_is, shows_is, tells_is, lending}
use Rattle.exported.proofs.TableChain.{some_table_start, some_summary_start}

-- The board alone

made_is : (l : List ℕ) (d : BoardCall) (r : LentBoard) → MadeOnBoard l d r → r ≡ lent_board_call l d
unfolding lent_board_call
made_is l d r (MadeOnBoard.by_add e a) = rw e (adds_is l d.time d.process d.wait r a)
made_is l d r (MadeOnBoard.by_show e a) = rw e (shows_is l d.time r a)
made_is l d r (MadeOnBoard.by_tell e table summary act t a h w f) =
    let is = tells_is table summary l act d.process d.time t a in
    rw (e, w) (f ∙ rw (← is) at (tell_is_plain table summary l act d.process d.time).told h)

pub every_board_chain : EveryBoardChain
every_board_chain w board start ds rs d r s ch m =
    rw (made_is _ d r m, chain_last board_after made_is ch, chain_results board_after made_is ch, sets_up_is w board start s)
    (every_board_list w board ds d)

-- Every list has a chain

shows_on : (l : List ℕ) (t : ℕ) → ShowsOn l t (lent_show l t)
shows_on l t = (([], tt), lending l (lent_show l t).board, refl)

board_callable : (l : List ℕ) (d : BoardCall) → MadeOnBoard l d (lent_board_call l d)
unfolding lent_board_call
board_callable l d = by_test d.adds
    (λ e. MadeOnBoard.by_add e
    (rw e (([], tt), lending l (lent_add l d.time d.process d.wait).board, refl)))
    (λ e. MadeOnBoard.by_show e (rw e (shows_on l d.time)))

pub some_board_chain : SomeBoardChain
some_board_chain = record {
  start = λ w board. (lent_set_up w board, (([], tt), lending board (lent_set_up w board).board, refl));
  chain = λ l ds. (results_by lent_board_call board_after l ds, list_chain lent_board_call board_after board_callable l ds);
}

-- Recorded steps that tell the board

tell_made_is : (r : LentTold) (d : TellCall) (t : LentTold) → MadeTelling r d t → t ≡ lent_tell_call r d
unfolding lent_tell_call
tell_made_is r d t (MadeTelling.by_tell e a) =
    rw e (tells_is r.table r.summary r.board d.action d.process d.time t a)
tell_made_is r d t (MadeTelling.by_show e b a h) =
    rw e (h ∙ ap (told_gave (record_gave (answer_of 0 0 0) r.table r.summary)) (shows_is r.board d.time b a))

-- what the first call is given
start_is : (k : Parameters) (w : ℕ) (table summary board : List ℕ) (f : Lent) (x : LentSummary) (b : LentBoard)
    → Starts k table f → StartsSummary summary x → SetsUp w board b → starts_with f x b ≡ tell_start k w table summary board
start_is k w table summary board f x b s n u =
    λ i. starts_with (starts_is k table f s i) (new_is summary x n i) (sets_up_is w board b u i)

pub every_told_figures_chain : EveryToldFiguresChain
every_told_figures_chain k w table summary board f x b ds rs d r s n u fe xe be ch m =
    rw (
      tell_made_is _ d r m,
      chain_last itself tell_made_is ch,
      chain_results itself tell_made_is ch,
      start_is k w table summary board f x b s n u,
    )
    (every_told_figures k w table summary board ds d
    (rw (starts_is k table f s) at fe) (rw (new_is summary x n) at xe) (rw (sets_up_is w board b u) at be))

pub every_told_steps_chain : EveryToldStepsChain
every_told_steps_chain k w table summary board f x b ds rs s n u fe xe ch = record {
  results_are = rw (← start_is k w table summary board f x b s n u) (chain_results itself tell_made_is ch);
  holds = every_told_steps k w table summary board ds (rw (starts_is k table f s) at fe) (rw (new_is summary x n) at xe);
}

tell_callable : (r : LentTold) (d : TellCall) → MadeTelling r d (lent_tell_call r d)
unfolding lent_tell_call
tell_callable r d = by_test d.shows
    (λ e. MadeTelling.by_show e (lent_show r.board d.time) (shows_on r.board d.time) (rw e))
    (λ e. MadeTelling.by_tell e
    (let t = lent_tell r.table r.summary r.board d.action d.process d.time in
    rw e (([], ([], ([], tt))), lending r.table t.table, lending r.summary t.summary, lending r.board t.board, refl)))

pub some_told_chain : SomeToldChain
some_told_chain = record {
  table = some_table_start;
  summary = some_summary_start;
  board = λ w board stand long. (
    lent_set_up w board,
    (([], tt), lending board (lent_set_up w board).board, refl),
    (lent_set_ups.accepted w board).1 (stand, long),
  );
  chain = λ r ds. (results_by lent_tell_call itself r ds, list_chain lent_tell_call itself tell_callable r ds);
}
