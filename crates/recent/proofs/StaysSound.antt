-- A board that is sound stays sound: what is left of entries in order is in order, and a new entry comes last. Assumes nothing.
use Prim.Native.Nat.{ℕ, ◌≤◌}
use mathlib.Core.Path.{◌≡◌, refl, sym, ◌∙◌}
use mathlib.Core.Logic.{◌≢◌}
use mathlib.Core.Bool.{true}
use mathlib.Core.List.{List, [], ◌∷◌, ◌++◌, append-nil}
use native.Mathlib.Omega.{arith}
use lib.ListN.{length, length-append}
use Rattle.model.proofs.Tests.{by_test, tests}
use Rattle.recent.specs.Boards.{Entry, entry_with, Board, board_of, most_kept, in_order, none_after, counts, counting_at}
use Rattle.recent.specs.Boards.{BoardOutcome}
use Rattle.recent.specs.Facts.{InTime, SoundBoard, BoardStaysSound}
use Rattle.recent.proofs.Figures.{how_many-most}
use Rattle.recent.proofs.Passes.{order_head}
use Rattle.recent.proofs.Expiry.{counting_length}
use Rattle.recent.proofs.Outcomes.{show_cases, add_cases, every_set_up}
use Rattle.recent.proofs.Soundness.{SoundParts, sound_parts, parts_sound, board_sound_iff_plain}

-- What is left

module _ (w t : ℕ) where
  counting_order : (s since : ℕ) (es : List Entry) → s ≤ since → in_order since es ≡ true → in_order s (counting_at w t es) ≡ true
  unfolding counting_at in_order
  counting_order s since [] b h = refl
  counting_order s since (e ∷ es) b h =
      let g = order_head since e es h in
      by_test (counts w t e)
      (λ c. rw c (simp tests (omega arith, counting_order e.time e.time es (omega arith) g.1)))
      (λ c. rw c (counting_order s e.time es (omega arith) g.1))

  counting_none_after : (last : ℕ) (es : List Entry) → last ≤ t → none_after last es ≡ true → none_after t (counting_at w t es) ≡ true
  unfolding counting_at none_after
  counting_none_after last [] b h = refl
  counting_none_after last (e ∷ es) b h =
      let g = simp tests at h in
      by_test (counts w t e)
      (λ c. rw c (simp tests (omega (arith, g.0), counting_none_after last es b g.1)))
      (λ c. rw c (counting_none_after last es b g.1))

-- A new entry

snoc_order : (t s : ℕ) (d : Entry) (es : List Entry) → d.time ≡ t → s ≤ t → in_order s es ≡ true → none_after t es ≡ true
    → in_order s (es ++ (d ∷ [])) ≡ true
unfolding in_order none_after
snoc_order t s d [] e b h n = simp tests (omega arith, refl)
snoc_order t s d (c ∷ es) e b h n =
    let f = simp tests at h in
    let g = simp tests at n in
    simp tests (f.0, snoc_order t c.time d es e g.0 f.1 g.1)

snoc_none_after : (t : ℕ) (d : Entry) (es : List Entry) → d.time ≡ t → none_after t es ≡ true → none_after t (es ++ (d ∷ [])) ≡ true
unfolding none_after
snoc_none_after t d [] e n = simp tests (omega arith, refl)
snoc_none_after t d (c ∷ es) e n = let g = simp tests at n in simp tests (g.0, snoc_none_after t d es e g.1)

-- The board

module _ (b : Board) (t : ℕ) (timely : InTime b t) where
  abbrev left : List Entry
  left = counting_at b.width t b.kept

  parts : SoundParts b
  parts = sound_parts b ((board_sound_iff_plain b).1 timely.sound)

  left_room : length left ≤ length b.kept
  left_room = omega (arith, counting_length b.width t b.kept, how_many-most b.width t b.kept)

  left-sound : SoundParts (board_of b.width t left)
  left-sound = record {
    width = parts.width;
    room = omega (arith, left_room, parts.room);
    order = counting_order b.width t 0 0 b.kept (omega arith) parts.order;
    none_after = counting_none_after b.width t b.last b.kept timely.forward parts.none_after;
  }

  added_sound : (d : Entry) → d.time ≡ t → length left ≢ most_kept → SoundParts (board_of b.width t (left ++ (d ∷ [])))
  added_sound d e room = record {
    width = parts.width;
    room = simp length-append (omega (arith, left_room, parts.room));
    order = snoc_order t 0 d left e (omega arith) left-sound.order left-sound.none_after;
    none_after = snoc_none_after t d left e left-sound.none_after;
  }

plain_of : (b : Board) → SoundParts b → SoundBoard b
plain_of b h = (board_sound_iff_plain b).0 (parts_sound b h)

pub board_stays_sound : BoardStaysSound
unfolding in_order none_after
board_stays_sound = record {
  set-up = λ w e.
      rw ((every_set_up w).board e)
      (plain_of (board_of w 0 []) (record { width = (every_set_up w).accepted.0 e; room = omega arith; order = refl; none_after = refl }));
  add = λ b t p wait s.
      add_cases b t p wait (λ (r : BoardOutcome). SoundBoard r.board) (λ r _ _. s)
      (λ g. plain_of _
      (added_sound b t g.timely (entry_with t p wait) refl (λ e. g.room (sym (counting_length b.width t b.kept) ∙ e))));
  show = λ b t s.
      show_cases b t (λ (r : BoardOutcome). SoundBoard r.board) (λ r _ _. s) (λ g. rw append-nil (plain_of _ (left-sound b t g)));
}
