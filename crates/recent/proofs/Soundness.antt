-- `board_sound` tells the sound boards, by the places of their entries. Assumes nothing.
use Prim.Native.Nat.{ℕ, ◌+◌, ◌≤◌}
use mathlib.Core.Path.{◌≡◌, refl}
use mathlib.Core.Bool.{true}
use mathlib.Core.List.{List, [], ◌∷◌}
use native.Mathlib.Omega.{arith}
use lib.ListN.{length}
use Rattle.model.proofs.Tests.{tests}
use Rattle.recent.specs.Boards.{Entry, Board, most_kept, in_order, none_after, board_sound}
use Rattle.recent.specs.Facts.{IsAt, WidthStands, BoardSoundIffPlain}
use Rattle.recent.proofs.Passes.{order_head}

-- The tests of a board

pub record SoundParts (b : Board) : Type 0 where
  pub width : WidthStands b.width
  pub room : length b.kept ≤ most_kept
  pub order : in_order 0 b.kept ≡ true
  pub none_after : none_after b.last b.kept ≡ true

pub sound_parts : (b : Board) → board_sound b ≡ true → SoundParts b
unfolding board_sound
sound_parts b e =
    let h = simp tests at e in
    record { width = record { least = h.0.0.0.0; most = h.0.0.0.1 }; room = h.0.0.1; order = h.0.1; none_after = h.1 }

pub parts_sound : (b : Board) → SoundParts b → board_sound b ≡ true
unfolding board_sound
parts_sound b h = simp tests ((((h.width.least, h.width.most), h.room), h.order), h.none_after)

-- Order

-- no entry is before the time that they start from
order_least : {e : Entry} (t : ℕ) {j : ℕ} {es : List Entry} → in_order t es ≡ true → IsAt e j es → t ≤ e.time
order_least t {es = []} h s = elim s [ ]
order_least t {es = e ∷ es} h IsAt.here = (order_head t e es h).0
order_least t {es = d ∷ es} h (IsAt.later s) =
    let g = order_head t d es h in omega (arith, order_least d.time g.1 s)

order_plain : {d e : Entry} (t : ℕ) {i j : ℕ} {es : List Entry} → in_order t es ≡ true → IsAt d i es → IsAt e j es → i ≤ j
    → d.time ≤ e.time
order_plain t h IsAt.here IsAt.here b = omega arith
order_plain t {es = d ∷ es} h IsAt.here (IsAt.later s) b = order_least d.time (order_head t d es h).1 s
order_plain t h (IsAt.later r) IsAt.here b = absurd (omega arith)
order_plain t {es = c ∷ es} h (IsAt.later r) (IsAt.later s) b = order_plain c.time (order_head t c es h).1 r s (omega arith)

plain_order : (t : ℕ) (es : List Entry) → ((e : Entry) (j : ℕ) → IsAt e j es → t ≤ e.time)
    → ((d e : Entry) (i j : ℕ) → IsAt d i es → IsAt e j es → i ≤ j → d.time ≤ e.time) → in_order t es ≡ true
unfolding in_order
plain_order t [] h g = refl
plain_order t (e ∷ es) h g =
    simp tests (
      h e 0 IsAt.here,
      plain_order e.time es (λ d j s. g e d 0 (j + 1) IsAt.here (IsAt.later s) (omega arith))
          (λ c d i j r s b. g c d (i + 1) (j + 1) (IsAt.later r) (IsAt.later s) (omega arith)),
    )

-- None after the last time told

none_plain : (t : ℕ) {e : Entry} {j : ℕ} {es : List Entry} → none_after t es ≡ true → IsAt e j es → e.time ≤ t
unfolding none_after
none_plain t h IsAt.here = let g = simp tests at h in g.0
none_plain t h (IsAt.later s) = let g = simp tests at h in none_plain t g.1 s

plain_none : (t : ℕ) (es : List Entry) → ((e : Entry) (j : ℕ) → IsAt e j es → e.time ≤ t) → none_after t es ≡ true
unfolding none_after
plain_none t [] h = refl
plain_none t (e ∷ es) h = simp tests (h e 0 IsAt.here, plain_none t es (λ d j s. h d (j + 1) (IsAt.later s)))

-- The board

pub board_sound_iff_plain : BoardSoundIffPlain
board_sound_iff_plain b = (
  λ e. let h = sound_parts b e in
      record {
        width = h.width;
        room = h.room;
        ordered = λ c d i j r s. order_plain 0 h.order r s;
        not_after = λ d i s. none_plain b.last h.none_after s;
      },
  λ s. parts_sound b (record {
    width = s.width;
    room = s.room;
    order = plain_order 0 b.kept (λ d j r. omega arith) s.ordered;
    none_after = plain_none b.last b.kept s.not_after;
  }),
)
