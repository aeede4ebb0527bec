-- What the calls on a lent board give back, by the tests that decide: one law for each exit of their functions. Assumes nothing.
use Prim.Native.Nat.{ℕ, ◌+◌, ◌-◌, ◌≤◌, ◌<◌, max}
use mathlib.Core.Path.{◌≡◌, refl, sym, ap, ◌∙◌}
use mathlib.Core.Logic.{◌≢◌}
use mathlib.Core.Bool.{true, false, ◌&&◌}
use mathlib.Core.List.{List, [], ◌∷◌, ◌++◌, append-nil}
use native.Mathlib.Omega.{arith}
use lib.Dec.{ltb}
use lib.ListN.{length, set}
use borrow.Author.Tests.{eq-eqb, ne_eqb, le-leb, lt-leb}
use Rattle.std.specs.Prelude.{Option, Some, None}
use Rattle.model.specs.declared.Answer.{Answer}
use Rattle.model.specs.Answers.{answer_of, beyond}
use Rattle.model.proofs.Tests.{by_test}
use Rattle.recent.specs.declared.rings.Look.{Look}
use Rattle.recent.specs.Boards.{Board, entry_with, width_stands, most_kept, board_sound, figures_at}
use Rattle.recent.specs.Boards.{BoardOutcome, unless_barred, is_process, set_up_of, add_of, show_of}
use Rattle.recent.specs.Encodings.{board_length, wrapped, board_in, is_board}
use Rattle.recent.specs.Encodings.{board_gave, emptied, lent_set_up, still_at, first_at, next_at, headed, placed}
use Rattle.recent.specs.Encodings.{shown, added, on_numbers, lent_add, lent_show}
use Rattle.recent.specs.Looking.{Looked, untimely_of}
use Rattle.recent.proofs.Places.{wrapped_on, wrapped_below, ring_length}
use Rattle.recent.proofs.Sights.{width_in, first_in, count_in, ring_in, SoundNumbers, sound_numbers}
use Rattle.recent.proofs.Soundness.{sound_parts}
use Rattle.recent.proofs.Figures.{how_many-most, figures_snoc}

-- both parts of what a call gives back are equal
board-gave : {r s : Answer} {l m : List ℕ} → r ≡ s → l ≡ m → board_gave r l ≡ board_gave s m
board-gave e f = λ i. board_gave (e i) (f i)

-- `set_up`

-- the header of an empty board is four stores
pub emptied_stores : (w : ℕ) (l : List ℕ) → board_length ≤ length l → set (set (set (set l 0 w) 1 0) 2 0) 3 0 ≡ emptied w l
emptied_stores w [] h = absurd (omega arith)
emptied_stores w (x ∷ []) h = absurd (omega arith)
emptied_stores w (x ∷ y ∷ []) h = absurd (omega arith)
emptied_stores w (x ∷ y ∷ z ∷ []) h = absurd (omega arith)
emptied_stores w (x ∷ y ∷ z ∷ u ∷ l) h = refl

module _ (w : ℕ) (l : List ℕ) {r : Answer} where
  module _ (fits : board_length ≤ length l) {new : List ℕ} where
    pub set_up_refused : width_stands w ≡ false → r ≡ answer_of 17 0 0 → new ≡ emptied 0 l → board_gave r new ≡ lent_set_up w l
    unfolding lent_set_up set_up_of
    set_up_refused e f g = board-gave f g ∙ simp (le-leb _ _ fits, e)

    pub set_up_made : width_stands w ≡ true → r ≡ answer_of 0 0 0 → new ≡ emptied w l → board_gave r new ≡ lent_set_up w l
    unfolding lent_set_up set_up_of
    set_up_made e f g = board-gave f g ∙ simp (le-leb _ _ fits, e)

  module _ (short : length l < board_length) where
    pub set_up_neither : width_stands w ≡ false → r ≡ answer_of 17 0 0 → board_gave r l ≡ lent_set_up w l
    unfolding lent_set_up
    set_up_neither e f = rw f (simp (lt-leb _ _ short, e))

    pub set_up_short : width_stands w ≡ true → r ≡ answer_of 16 0 0 → board_gave r l ≡ lent_set_up w l
    unfolding lent_set_up
    set_up_short e f = rw f (simp (lt-leb _ _ short, e))

-- The places of a sound board at a time

module _ (l : List ℕ) (t : ℕ) where
  pub still_most : still_at l t ≤ count_in l
  unfolding board_in
  still_most = omega (arith, ring_length l (first_in l) (count_in l), how_many-most (width_in l) t (ring_in l))

  module _ (s : SoundNumbers l) where
    pub first_inside : first_at l t < most_kept
    first_inside = wrapped_below _ (omega (arith, s.inside, s.room))

    -- the place after the last entry that counts is that after the last kept one
    pub next_is : wrapped (first_at l t + still_at l t) ≡ next_at l
    next_is =
        wrapped_on (first_in l + (count_in l - still_at l t)) (still_at l t) (omega (arith, s.inside, s.room, still_most))
        ∙ ap wrapped (omega (arith, still_most))

-- of a look
module _ {l : List ℕ} {t : ℕ} {r : Look} (k : Looked l t r) where
  pub seen_sound : SoundNumbers l
  seen_sound = sound_numbers l k.board k.sound

  pub count_most : r.count ≤ most_kept
  count_most = omega (arith, k.count_is, still_most l t, seen_sound.room)

  pub first_most : r.first < most_kept
  first_most = omega (arith, k.first_is, first_inside l t seen_sound)

  pub next_most : wrapped (r.first + r.count) < most_kept
  next_most = wrapped_below (r.first + r.count) (omega (arith, first_most, count_most))

-- A call on a sound board

some-none : {r : Answer} → ◌≡◌ {A = Option Answer} (Some r) None → ⊥
some-none e = cc

-- the tests of a time that is not refused
pub record Timely (last t : ℕ) : Type 0 where
  pub forward : ltb t last ≡ false
  pub within : beyond t ≡ false

pub timely : (last t : ℕ) → untimely_of last t ≡ None → Timely last t
timely last t e =
    by_test (ltb t last) (λ f. absurd (some-none (simp f at e)))
    (λ f. by_test (beyond t) (λ g. absurd (some-none (simp (f, g) at e))) (λ g. record { forward = f; within = g }))

-- a list that tells no sound board
on_unsound : (l new : List ℕ) (b : Board) (t : ℕ) (after : BoardOutcome) {r : Answer} → is_board l && board_sound b ≡ false → r ≡ answer_of 2 0 0
    → board_gave r l ≡ on_numbers l (unless_barred b t after).answer new
on_unsound l new b t after e f =
    rw f (by_test (is_board l) (λ g. let h : board_sound b ≡ false = rw g at e in simp (g, h)) (λ g. simp g))

-- a time that is refused
on_untimely : (l new : List ℕ) (b : Board) (t : ℕ) (after : BoardOutcome) {r : Answer} → is_board l ≡ true → board_sound b ≡ true
    → Some r ≡ untimely_of b.last t → board_gave r l ≡ on_numbers l (unless_barred b t after).answer new
on_untimely l new b t after {r} board sound f =
    by_test (ltb t b.last) (λ e. rw (same (simp e at f)) (simp (board, sound, e)))
    (λ e. by_test (beyond t) (λ g. rw (same (simp (e, g) at f)) (simp (board, sound, e, g))) (λ g. absurd (some-none (simp (e, g) at f))))
  where
    same : {u : Answer} → ◌≡◌ {A = Option Answer} (Some r) (Some u) → r ≡ u
    same e = cc

-- `add`

module _ (l : List ℕ) (t p wait : ℕ) {r : Answer} where
  pub add_unsound : is_board l && board_sound (board_in l) ≡ false → r ≡ answer_of 2 0 0 → board_gave r l ≡ lent_add l t p wait
  unfolding lent_add add_of
  add_unsound = on_unsound l (added l t p wait) (board_in l) t _

  module _ {look : Look} (k : Looked l t look) where
    pub add_untimely : Some r ≡ untimely_of (board_in l).last t → board_gave r l ≡ lent_add l t p wait
    unfolding lent_add add_of
    add_untimely = on_untimely l (added l t p wait) (board_in l) t _ k.board k.sound

    module _ (h : Timely (board_in l).last t) where
      pub add_misnamed : is_process p ≡ false → r ≡ answer_of 7 0 0 → board_gave r l ≡ lent_add l t p wait
      unfolding lent_add add_of
      add_misnamed e f = rw f (simp (k.board, k.sound, h.forward, h.within, e))

      module _ (named : is_process p ≡ true) where
        pub add_full : look.count ≡ most_kept → r ≡ answer_of 18 0 0 → board_gave r l ≡ lent_add l t p wait
        unfolding lent_add add_of
        add_full e f =
            let full = eq-eqb (still_at l t) most_kept (sym k.count_is ∙ e) in
            rw f (simp (k.board, k.sound, h.forward, h.within, named, full))

        pub add_accepted : look.count ≢ most_kept → r ≡ answer_of 0 (look.count + 1) (max look.longest wait)
            → {new : List ℕ}
            → new ≡ placed (headed l t look.first (look.count + 1)) (wrapped (look.first + look.count)) (entry_with t p wait)
            → board_gave r new ≡ lent_add l t p wait
        unfolding lent_add add_of
        add_accepted n f {new} g =
            let room = ne_eqb (still_at l t) most_kept (λ e. n (k.count_is ∙ e)) in
            let b = board_in l in
            let figures : r ≡ figures_at b.width t (b.kept ++ (entry_with t p wait ∷ [])) =
            f ∙ rw (k.count_is, k.longest_is) (sym (figures_snoc b.width t p wait (sound_parts b k.sound).width.least b.kept)) in
            let numbers : new ≡ added l t p wait = g ∙ rw (k.count_is, k.first_is, next_is l t (seen_sound k)) in
            board-gave figures numbers ∙ simp (k.board, k.sound, h.forward, h.within, named, room)

-- `show`

module _ (l : List ℕ) (t : ℕ) {r : Answer} where
  pub show_unsound : is_board l && board_sound (board_in l) ≡ false → r ≡ answer_of 2 0 0 → board_gave r l ≡ lent_show l t
  unfolding lent_show show_of
  show_unsound = on_unsound l (shown l t) (board_in l) t _

  module _ {look : Look} (k : Looked l t look) where
    pub show_untimely : Some r ≡ untimely_of (board_in l).last t → board_gave r l ≡ lent_show l t
    unfolding lent_show show_of
    show_untimely = on_untimely l (shown l t) (board_in l) t _ k.board k.sound

    pub show_accepted : Timely (board_in l).last t → r ≡ answer_of 0 look.count look.longest
        → {new : List ℕ} → new ≡ headed l t look.first look.count → board_gave r new ≡ lent_show l t
    unfolding lent_show show_of
    show_accepted h f {new} g =
        let figures : r ≡ figures_at (board_in l).width t (board_in l).kept = f ∙ rw (k.count_is, k.longest_is) in
        let numbers : new ≡ shown l t = g ∙ rw (k.count_is, k.first_is) in
        board-gave figures numbers ∙ simp (k.board, k.sound, h.forward, h.within, append-nil)
