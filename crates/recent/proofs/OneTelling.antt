-- What one recorded step that tells a board gives back: the recorded step, and the board told of an accepted crit or left alone, which the
-- board's answer shows. Assumes nothing.
use Prim.Native.Nat.{ℕ, ◌≤◌}
use mathlib.Core.Path.{◌≡◌, refl, sym, ap, ◌∙◌}
use mathlib.Core.Logic.{◌≢◌}
use mathlib.Core.Bool.{true, false}
use mathlib.Core.List.{List, [], ◌∷◌}
use native.Mathlib.Omega.{arith}
use Rattle.model.specs.declared.Answer.{Answer}
use Rattle.model.specs.Answers.{answer_of}
use Rattle.model.specs.Summaries.{wait_of}
use Rattle.model.proofs.Tests.{by_test, by_cond, clash}
use Rattle.layout.specs.Encodings.{table_in, summary_in}
use Rattle.layout.specs.Interface.{LentBoth, lent_record}
use Rattle.recent.specs.Boards.{entry_with, Board, board_sound, BoardOutcome, keeps, add_of}
use Rattle.recent.specs.Encodings.{board_in, is_board, LentBoard, lent_add}
use Rattle.recent.specs.Lists.{lent_board_call}
use Rattle.recent.specs.Tellings.{LentTold, told_gave, entered, left_alone, lent_tell, Tells, TellIsPlain}
use Rattle.recent.proofs.Figures.{figures_snoc}
use Rattle.recent.proofs.Outcomes.{Came, add_came}
use Rattle.recent.proofs.Soundness.{sound_parts}
use Rattle.recent.proofs.Writes.{refused_board_stays, board_writes_its_own}
use Rattle.recent.proofs.Numbers.{numbers_follow}
use Rattle.recent.proofs.Lists.{unsound_call}

-- One adding

module _ (t p wait : ℕ) where
  -- a success tells how many count, the new entry among them
  came_counts : {b : Board} {Good : Type 0} {r : BoardOutcome} → Came b ((board_sound b ≡ true) × Good) (keeps b t (entry_with t p wait ∷ [])) r
      → r.answer.code ≡ 0 → 1 ≤ r.answer.process
  came_counts (Came.refused n) e = absurd (n e)
  came_counts {b} (Came.accepted (s, _)) e =
      omega (arith, ap (λ (r : Answer). r.process) (figures_snoc b.width t p wait (sound_parts b s).width.least b.kept))

  -- so it is not the answer of a step that tells no entry
  added_seen : (l : List ℕ) → (lent_add l t p wait).answer ≢ answer_of 0 0 0
  unfolding lent_board_call
  added_seen l e =
      by_test (is_board l)
      (λ b. let f = numbers_follow.add l t p wait b in
      let g : (add_of (board_in l) t p wait).answer ≡ answer_of 0 0 0 = sym f.0 ∙ e in
      omega (
        arith,
        ap (λ (r : Answer). r.process) g,
        came_counts (add_came (board_in l) t p wait) (ap (λ (r : Answer). r.code) g),
      ))
      (λ b. let f = unsound_call l (rw b) (record { adds = true; time = t; process = p; wait = wait }) in
      omega (arith, ap (λ (r : LentBoard). r.answer.code) f, ap (λ (r : Answer). r.code) e))

-- The call

module _ (table summary board : List ℕ) (act p m : ℕ) where
  abbrev step : LentBoth
  step = lent_record table summary act p m

  -- the board is left alone, or told
  pub data TellGiven : LentTold → Type 0 where
    alone : entered step.answer.code act ≡ false → TellGiven (told_gave step (left_alone board))
    told : entered step.answer.code act ≡ true → TellGiven (told_gave step (lent_add board m p (wait_of (table_in table) (summary_in summary) p m)))

  pub tell_given : TellGiven (lent_tell table summary board act p m)
  unfolding lent_tell
  tell_given = by_cond (λ (b : LentBoard). TellGiven (told_gave step b)) (entered step.answer.code act) told alone

  tells : {r : LentTold} → TellGiven r → Tells table summary board act p m r
  tells (TellGiven.alone e) = record {
    step = refl;
    alone = λ _. (refl, refl);
    told = λ f. clash f e;
    seen = λ f. clash f e;
    refused_stays = λ _. refl;
    length_stays = refl;
  }
  tells (TellGiven.told e) =
      let wait = wait_of (table_in table) (summary_in summary) p m in
      record {
        step = refl;
        alone = λ f. clash e f;
        told = λ _. refl;
        seen = λ _. added_seen m p wait board;
        refused_stays = refused_board_stays.add board m p wait;
        length_stays = board_writes_its_own.add_length board m p wait;
      }

pub tell_is_plain : TellIsPlain
tell_is_plain table summary board act p m = tells table summary board act p m (tell_given table summary board act p m)
