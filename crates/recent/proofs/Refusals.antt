-- Each answer of a call on a board comes of the plain facts that are named for it, and of nothing else; and so on lent numbers.
-- Assumes nothing.
use Prim.Native.Nat.{ℕ, ◌+◌, ◌≤◌, ◌<◌}
use mathlib.Core.Path.{◌≡◌, ap, subst, ◌∙◌}
use mathlib.Core.Logic.{◌≢◌}
use mathlib.Core.List.{List, [], ◌∷◌, ◌++◌, append-nil}
use native.Mathlib.Omega.{arith}
use lib.Dec.{leb}
use lib.ListN.{length}
use borrow.Author.Tests.{lt-ltb, le-ltb, lt-leb, eq-eqb, ne_eqb, leb-true, le-leb}
use Rattle.model.specs.declared.Answer.{Answer}
use Rattle.model.specs.Answers.{answer_of}
use Rattle.model.proofs.Tests.{by_test}
use Rattle.recent.specs.Boards.{Entry, entry_with, Board, width_stands, most_kept, board_sound, how_many, counting_at}
use Rattle.recent.specs.Boards.{BoardOutcome, outcome_with, keeps, unless_barred, is_process, set_up_of, add_of, show_of}
use Rattle.recent.specs.Encodings.{board_length, lent_set_up, lent_add, lent_show}
use Rattle.recent.specs.Facts.{WidthStands, InTime, Barred, Adds, Shows, AddedIffAdds, ShownIffShows}
use Rattle.recent.specs.Facts.{NoBoard, LentSetUps}
use Rattle.recent.proofs.Figures.{how_many-most, figures_snoc}
use Rattle.recent.proofs.Expiry.{counting_snoc, left-of, left_is}
use Rattle.recent.proofs.Soundness.{board_sound_iff_plain}
use Rattle.recent.proofs.Outcomes.{show_cases, add_cases, is_process_iff, width_stands_iff, every_set_up}

-- what a call gave back, as a fact of its answer and its board
abbrev Gives : (ℕ → ℕ → ℕ → Board → Type 0) → BoardOutcome → Type 0
Gives P r = P r.answer.code r.answer.process r.answer.time r.board

-- of its parts
gives_parts : (P : ℕ → ℕ → ℕ → Board → Type 0) (r : BoardOutcome) → Gives P r → {code process time : ℕ} {after : Board}
    → (r.answer ≡ answer_of code process time) × (r.board ≡ after) → P code process time after
gives_parts P r h {code} {process} {time} {after} e =
    subst (P code process time) e.1
    (subst (λ (a : Answer). P a.code a.process a.time r.board) e.0 h)

-- A time that is refused, whatever would come of the call otherwise

barred_gives : (b : Board) (t : ℕ) (after : BoardOutcome) {code process time : ℕ} → Barred b t code process time
    → unless_barred b t after ≡ outcome_with (answer_of code process time) b
barred_gives b t after (Barred.unsound n) =
    by_test (board_sound b) (λ e. absurd (n ((board_sound_iff_plain b).0 e))) (λ e. simp e)
barred_gives b t after (Barred.backward s h) = simp ((board_sound_iff_plain b).1 s, lt-ltb _ _ h)
barred_gives b t after (Barred.beyond s h g) = simp ((board_sound_iff_plain b).1 s, le-ltb _ _ h, lt-ltb _ _ g)

timely_gives : (b : Board) (t : ℕ) (after : BoardOutcome) → InTime b t → unless_barred b t after ≡ after
timely_gives b t after h = simp ((board_sound_iff_plain b).1 h.sound, le-ltb _ _ h.forward, le-ltb _ _ h.within)

-- Showing

module _ (b : Board) (t : ℕ) where
  show_gives : Gives (Shows b t) (show_of b t)
  show_gives =
      show_cases b t (Gives (Shows b t)) (λ r _ h. h)
      (λ h. simp append-nil (Shows.shown _ _ _ h (left-of b.width t b.kept)))

  shows_given : {code process time : ℕ} {after : Board} → Shows b t code process time after
      → show_of b t ≡ outcome_with (answer_of code process time) after
  unfolding show_of
  shows_given (Shows.barred u) = barred_gives b t (keeps b t []) u
  shows_given (Shows.shown left many longest h r) =
      let e = left_is b.width t r in
      timely_gives b t (keeps b t []) h ∙ simp (append-nil, e.those, e.many_is, e.longest_is)

pub shown_iff_shows : ShownIffShows
shown_iff_shows b t code process time after = (
  gives_parts (Shows b t) (show_of b t) (show_gives b t),
  λ h. let e = shows_given b t h in (ap (λ (r : BoardOutcome). r.answer) e, ap (λ (r : BoardOutcome). r.board) e),
)

-- Adding

module _ (b : Board) (t p wait : ℕ) where
  abbrev entry : Entry
  entry = entry_with t p wait

  abbrev after_it : List Entry
  after_it = b.kept ++ (entry ∷ [])

  -- the new entry counts on a sound board
  module _ (h : InTime b t) where
    some : 1 ≤ b.width
    some = h.sound.width.least

    many_more : how_many b.width t after_it ≡ how_many b.width t b.kept + 1
    many_more = ap (λ (r : Answer). r.process) (figures_snoc b.width t p wait some b.kept)

    left_more : counting_at b.width t after_it ≡ counting_at b.width t b.kept ++ (entry ∷ [])
    left_more = counting_snoc b.width t entry (lt-ltb t (t + b.width) (omega (arith, some))) b.kept

    few : how_many b.width t b.kept ≤ most_kept
    few = omega (arith, how_many-most b.width t b.kept, h.sound.room)

  add_gives : Gives (Adds b t p wait) (add_of b t p wait)
  add_gives =
      add_cases b t p wait (Gives (Adds b t p wait)) (λ r _ h. h)
      (λ g. let h = g.timely in
      let left = rw (left_more h, many_more h) at (left-of b.width t after_it) in
      let room : how_many b.width t b.kept < most_kept = omega (arith, few h, g.room) in
      rw (many_more h) (Adds.added (counting_at b.width t b.kept) _ _ h g.process room left))

  adds_given : {code process time : ℕ} {after : Board} → Adds b t p wait code process time after
      → add_of b t p wait ≡ outcome_with (answer_of code process time) after
  unfolding add_of
  adds_given (Adds.barred u) = barred_gives b t _ u
  adds_given (Adds.misnamed h n) =
      timely_gives b t _ h ∙ by_test (is_process p) (λ e. absurd (n ((is_process_iff p).0 e))) (λ e. simp e)
  adds_given (Adds.full left longest h q r) =
      timely_gives b t _ h ∙ simp ((is_process_iff p).1 q, eq-eqb _ _ (left_is b.width t r).many_is)
  adds_given (Adds.added left many longest h q small r) =
      let e = left_is b.width t r in
      let room : how_many b.width t b.kept ≢ most_kept = λ f. omega (arith, e.many_is, many_more h) in
      timely_gives b t _ h ∙ simp ((is_process_iff p).1 q, ne_eqb _ _ room) (rw (e.many_is, e.longest_is, ← left_more h, e.those))

pub added_iff_adds : AddedIffAdds
added_iff_adds b t p wait code process time after = (
  gives_parts (Adds b t p wait) (add_of b t p wait) (add_gives b t p wait),
  λ h. let e = adds_given b t p wait h in (ap (λ (r : BoardOutcome). r.answer) e, ap (λ (r : BoardOutcome). r.board) e),
)

-- On lent numbers

pub no-board : NoBoard
unfolding lent_add lent_show
no-board = record { add = λ l t p wait e. simp e; show = λ l t e. simp e }

-- setting up is accepted on numbers where it is accepted and they are enough
set_up_accepted : (w : ℕ) (l : List ℕ) → (lent_set_up w l).answer.code ≡ 0 → WidthStands w × (board_length ≤ length l)
unfolding lent_set_up
set_up_accepted w l z =
    by_test (leb board_length (length l)) (λ e. ((every_set_up w).accepted.0 (simp e at z), leb-true _ _ e))
    (λ e. by_test (width_stands w) (λ f. absurd (omega (arith, simp (e, f) at z))) (λ f. absurd (omega (arith, simp (e, f) at z))))

pub lent_set_ups : LentSetUps
unfolding lent_set_up set_up_of
lent_set_ups = record {
  accepted = λ w l. (set_up_accepted w l, λ h. simp (le-leb _ _ h.1, (width_stands_iff w).1 h.0));
  no_width = λ w l n.
      by_test (width_stands w) (λ e. absurd (n ((width_stands_iff w).0 e)))
      (λ e. by_test (leb board_length (length l)) (λ f. simp (e, f)) (λ f. simp (e, f)));
  short = λ w l h g. simp (lt-leb _ _ g, (width_stands_iff w).1 h);
  first = λ w l h. simp (le-leb _ _ h);
}
