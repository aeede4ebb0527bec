-- A board beside the log of its calls: what it keeps and what the log tells have the same figures at every time from the last one told on,
-- since an entry that has expired never counts again. Setting up begins so, and each call keeps it. Assumes nothing.
use Prim.Native.Nat.{ℕ, ◌+◌, ◌≤◌}
use mathlib.Core.Path.{◌≡◌, refl, subst, ◌∙◌}
use mathlib.Core.Logic.{◌≢◌}
use mathlib.Core.Bool.{Bool, true, false, cond, not, ◌&&◌}
use mathlib.Core.List.{List, [], ◌∷◌, ◌++◌}
use native.Mathlib.Omega.{arith}
use lib.Dec.{ltb, eqb}
use borrow.Author.Tests.{le-ltb, ltb-false, ne_eqb, not-true}
use Rattle.model.specs.declared.Answer.{Answer}
use Rattle.model.specs.Answers.{answer_of, beyond}
use Rattle.model.proofs.Tests.{by_test, by_cond, clash}
use Rattle.recent.specs.Boards.{Entry, entry_with, Board, most_kept, in_order, none_after, board_sound, counts, how_many, longest_at, figures_at}
use Rattle.recent.specs.Boards.{counting_at, BoardOutcome, outcome_with, width_stands, set_up_of, keeps, unless_barred, is_process, add_of, show_of}
use Rattle.recent.specs.Looking.{SameFigures}
use Rattle.recent.specs.Lists.{BoardCall, Asked, asked, last_told, accepted_in, worked_out}
use Rattle.recent.specs.Facts.{SoundBoard}
use Rattle.recent.proofs.Figures.{how_many-append, longest_append}
use Rattle.recent.proofs.Soundness.{board_sound_iff_plain}
use Rattle.recent.proofs.StaysSound.{board_stays_sound}

-- What has expired at a time counts at no later one

module _ (w t u : ℕ) (h : t ≤ u) where
  expired_stays : (e : Entry) → counts w t e ≡ false → counts w u e ≡ false
  expired_stays e f = le-ltb u (e.time + w) (omega (arith, ltb-false t (e.time + w) f))

  counting_many : (es : List Entry) → how_many w u (counting_at w t es) ≡ how_many w u es
  unfolding how_many counting_at
  counting_many [] = refl
  counting_many (e ∷ es) = by_test (counts w t e) (λ f. rw (f, counting_many es)) (λ f. rw (f, expired_stays e f, counting_many es))

  counting_longest : (es : List Entry) → longest_at w u (counting_at w t es) ≡ longest_at w u es
  unfolding longest_at counting_at
  counting_longest [] = refl
  counting_longest (e ∷ es) =
      by_test (counts w t e) (λ f. rw (f, counting_longest es)) (λ f. rw (f, expired_stays e f, counting_longest es))

-- A board beside a log

-- the entries that a call adds
abbrev new_in : BoardCall → List Entry
new_in d = cond d.adds (entry_with d.time d.process d.wait ∷ []) []

-- a call on a board
abbrev pub board_call_of : Board → BoardCall → BoardOutcome
board_call_of b d = cond d.adds (add_of b d.time d.process d.wait) (show_of b d.time)

-- the board b after the calls of a log, from one that was set up with w
pub record Follows (w : ℕ) (log : List Asked) (b : Board) : Type 0 where
  width : b.width ≡ w
  last : b.last ≡ last_told log
  sound : board_sound b ≡ true
  figures : (t : ℕ) → last_told log ≤ t → SameFigures w t b.kept (accepted_in log)

pub set_up_follows : (w : ℕ) → width_stands w ≡ true → Follows w [] (set_up_of w).board
unfolding set_up_of board_sound last_told accepted_in in_order none_after
set_up_follows w y = rw y (record { width = refl; last = refl; sound = rw y; figures = λ t _. record { many = refl; longest = refl } })

-- A call on it

call_sound : (b : Board) (d : BoardCall) → board_sound b ≡ true → board_sound (board_call_of b d).board ≡ true
call_sound b d s =
    let sound = (board_sound_iff_plain b).0 s in
    (board_sound_iff_plain (board_call_of b d).board).1
    (by_cond (λ (r : BoardOutcome). SoundBoard r.board) d.adds (λ _. board_stays_sound.add b d.time d.process d.wait sound)
    (λ _. board_stays_sound.show b d.time sound))

-- a refusal gives it back, an acceptance keeps what counts; the answer is the one worked out
data Goes (w : ℕ) (log : List Asked) (b : Board) (d : BoardCall) : BoardOutcome → Type 0 where
  refuses : {r : Answer} → r.code ≢ 0 → r ≡ worked_out w log d → Goes w log b d (outcome_with r b)
  accepts : last_told log ≤ d.time → (keeps b d.time (new_in d)).answer ≡ worked_out w log d → Goes w log b d (keeps b d.time (new_in d))

-- the entries of an adding stand last in the one list and first in the other
same_more : {w t : ℕ} {es ds : List Entry} (new : List Entry) → SameFigures w t es ds → SameFigures w t (es ++ new) (new ++ ds)
same_more {w} {t} {es} {ds} new h = record {
  many = rw (how_many-append w t es new, how_many-append w t new ds) (omega arith);
  longest = rw (longest_append w t es new, longest_append w t new ds) (omega arith);
}

accepted_more : (d : BoardCall) (log : List Asked) → accepted_in (asked d 0 ∷ log) ≡ new_in d ++ accepted_in log
unfolding accepted_in
accepted_more d log = by_test d.adds (λ e. rw e) (λ e. rw e)

module _ {w : ℕ} {log : List Asked} {b : Board} (follows : Follows w log b) (d : BoardCall) where
  abbrev Went : BoardOutcome → Type 0
  Went = Goes w log b d

  -- an answer of success
  answer_is : last_told log ≤ d.time
      → figures_at b.width d.time (b.kept ++ new_in d) ≡ figures_at w d.time (accepted_in (asked d 0 ∷ log))
  answer_is h =
      let same = same_more (new_in d) (follows.figures d.time h) in
      rw (follows.width, accepted_more d log, same.many, same.longest)

  in-time : {after : BoardOutcome} → (ltb d.time (last_told log) ≡ false → beyond d.time ≡ false → Went after)
      → Went (unless_barred b d.time after)
  unfolding worked_out
  in-time next =
      by_cond Went (not (board_sound b)) (λ e. clash follows.sound (not-true _ e))
      (λ _. by_cond Went (ltb d.time b.last)
      (λ e. let e' : ltb d.time (last_told log) ≡ true = rw follows.last at e in refuses (omega arith) (rw (e', follows.last)))
      (λ e. let e' : ltb d.time (last_told log) ≡ false = rw follows.last at e in
      by_cond Went (beyond d.time) (λ f. refuses (omega arith) (rw (e', f)))
      (next e')))

  showing_goes : d.adds ≡ false → Went (show_of b d.time)
  unfolding show_of worked_out
  showing_goes n =
      in-time (λ e f. subst (λ (new : List Entry). Went (keeps b d.time new)) (rw n)
      (accepts (ltb-false _ _ e) (answer_is (ltb-false _ _ e) ∙ rw (e, f, n))))

  -- whether there is no room is told by the log
  full_told : (t : Bool) → eqb (how_many b.width d.time b.kept) most_kept ≡ t → last_told log ≤ d.time
      → eqb (how_many w d.time (accepted_in log)) most_kept ≡ t
  full_told t h e = rw (follows.width, (follows.figures d.time e).many) at h

  adding_goes : d.adds ≡ true → Went (add_of b d.time d.process d.wait)
  unfolding add_of worked_out
  adding_goes y =
      in-time (λ e f. by_cond Went (not (is_process d.process)) (λ g. refuses (omega arith) (rw (e, f, y, g)))
      (λ g. by_cond Went (eqb (how_many b.width d.time b.kept) most_kept)
      (λ h. refuses {r = answer_of 18 0 0} (omega arith) (rw (e, f, y, g, full_told true h (ltb-false _ _ e))))
      (λ h. subst (λ (new : List Entry). Went (keeps b d.time new)) (rw y)
      (accepts (ltb-false _ _ e) (answer_is (ltb-false _ _ e) ∙ rw (e, f, y, g, full_told false h (ltb-false _ _ e)))))))

  goes : Went (board_call_of b d)
  goes = by_cond Went d.adds adding_goes showing_goes

  -- What comes of it

  answer-told : {r : BoardOutcome} → Went r → r.answer ≡ worked_out w log d
  answer-told (Goes.refuses _ e) = e
  answer-told (Goes.accepts _ e) = e

  -- the log is one call longer, and the board is sound
  next_follows : {r : BoardOutcome} → Went r → board_sound r.board ≡ true → Follows w (asked d r.answer.code ∷ log) r.board
  unfolding last_told accepted_in
  next_follows (Goes.refuses {r} n _) s =
      let e : eqb r.code 0 ≡ false = ne_eqb _ _ n in
      record {
        width = follows.width;
        last = rw e follows.last;
        sound = s;
        figures = λ t. by_test d.adds (λ f. rw (e, f) (follows.figures t)) (λ f. rw (e, f) (follows.figures t));
      }
  next_follows (Goes.accepts h _) s = record {
    width = follows.width;
    last = refl;
    sound = s;
    figures = λ t later. rw (accepted_more d log) (same_more {es = counting_at b.width d.time b.kept} {ds = accepted_in log} (new_in d) (record {
      many = rw (follows.width, counting_many w d.time t later b.kept) (follows.figures t (omega arith)).many;
      longest = rw (follows.width, counting_longest w d.time t later b.kept) (follows.figures t (omega arith)).longest;
    }));
  }

  pub call_answer : (board_call_of b d).answer ≡ worked_out w log d
  call_answer = answer-told goes

  pub call_next : Follows w (asked d (board_call_of b d).answer.code ∷ log) (board_call_of b d).board
  call_next = next_follows goes (call_sound b d follows.sound)

-- An answer that is worked out

module _ (w : ℕ) (log : List Asked) (d : BoardCall) where
  abbrev HasFigures : Answer → Type 0
  HasFigures r = r.code ≡ 0 → r ≡ figures_at w d.time (accepted_in (asked d 0 ∷ log))

  -- a success has the figures
  pub worked_success : HasFigures (worked_out w log d)
  unfolding worked_out
  worked_success =
      by_cond HasFigures (ltb d.time (last_told log)) (λ _ e. absurd (omega arith))
      (λ _. by_cond HasFigures (beyond d.time) (λ _ e. absurd (omega arith))
      (λ _. by_cond HasFigures (d.adds && not (is_process d.process)) (λ _ e. absurd (omega arith))
      (λ _. by_cond HasFigures (d.adds && eqb (how_many w d.time (accepted_in log)) most_kept) (λ _ e. absurd (omega arith))
      (λ _ _. refl))))
