-- What a look at a list of numbers shows: plain facts of a list that tells a sound board, and what the passes over its ring come to.
-- Assumes nothing.
use Prim.Native.Nat.{ℕ, ◌+◌, ◌-◌, ◌≤◌, ◌<◌}
use mathlib.Core.Path.{◌≡◌, refl, sym, ap, ◌∙◌}
use mathlib.Core.Bool.{true, false, ◌&&◌}
use mathlib.Core.List.{List, []}
use native.Mathlib.Omega.{arith}
use borrow.Author.Tests.{lt-ltb, le-leb, ltb-true, leb-true}
use lib.ListN.{length, get_or, take}
use lib.Seq.{get_or-take, length-take-le}
use Rattle.model.proofs.Tests.{by_test, if_lt, clash, and_true_iff}
use Rattle.recent.specs.declared.rings.Rest.{Rest}
use Rattle.recent.specs.declared.rings.Pass.{Pass}
use Rattle.recent.specs.declared.rings.Look.{Look}
use Rattle.recent.specs.Boards.{Entry, board_of, width_stands, most_kept, in_order, none_after, board_sound, how_many, longest_at}
use Rattle.recent.specs.Encodings.{width_index, last_index, first_index, count_index, entry_index, board_length, wrapped, entry_at, ring_from}
use Rattle.recent.specs.Encodings.{board_in, is_board}
use Rattle.recent.specs.Looking.{latest, Rested, Passed, Looked}
use Rattle.recent.proofs.Places.{wrapped_inside, wrapped_below, ring_none, ring_length, ring_same}
use Rattle.recent.proofs.Passes.{order_from, none-after, some_after, all_count, all_longest}
use Rattle.recent.proofs.Resting.{ring_left}
use Rattle.recent.proofs.Soundness.{SoundParts, sound_parts, parts_sound}
use Rattle.recent.proofs.Outcomes.{width_stands_iff}

-- the header of a list, and the ring that it tells
abbrev pub width_in : List ℕ → ℕ
width_in l = get_or l width_index 0

abbrev pub last_in : List ℕ → ℕ
last_in l = get_or l last_index 0

abbrev pub first_in : List ℕ → ℕ
first_in l = get_or l first_index 0

abbrev pub count_in : List ℕ → ℕ
count_in l = get_or l count_index 0

abbrev pub ring_in : List ℕ → List Entry
ring_in l = ring_from l (first_in l) (count_in l)

-- a list that tells a sound board
pub record SoundNumbers (l : List ℕ) : Type 0 where
  pub fits : board_length ≤ length l
  pub inside : first_in l < most_kept
  pub room : count_in l ≤ most_kept
  pub parts : SoundParts (board_of (width_in l) (last_in l) (ring_in l))

pub sound_numbers : (l : List ℕ) → is_board l ≡ true → board_sound (board_in l) ≡ true → SoundNumbers l
unfolding is_board board_in
sound_numbers l b s =
    let board = simp and_true_iff at b in
    let parts = sound_parts (board_in l) s in
    record {
      fits = leb-true _ _ board.0;
      inside = ltb-true _ _ board.1;
      room = omega (arith, parts.room, ring_length l (first_in l) (count_in l));
      parts = parts;
    }

module _ (l : List ℕ) (s : SoundNumbers l) where
  numbers_board : is_board l ≡ true
  unfolding is_board
  numbers_board = simp (le-leb _ _ s.fits, lt-ltb _ _ s.inside)

  numbers_sound : board_sound (board_in l) ≡ true
  unfolding board_in
  numbers_sound = parts_sound (board_in l) s.parts

  pub width-in : width_stands (width_in l) ≡ true
  width-in = (width_stands_iff (width_in l)).1 s.parts.width

-- a list that tells no sound board
pub no_sight : (l : List ℕ) → (SoundNumbers l → ⊥) → (is_board l && board_sound (board_in l)) ≡ false
no_sight l n = by_test (is_board l && board_sound (board_in l))
    (λ h. let both = (and_true_iff (is_board l) (board_sound (board_in l))).0 h in absurd (n (sound_numbers l both.0 both.1)))
    (λ h. h)

-- an empty board, whatever the time
pub empty_seen : (l : List ℕ) (t : ℕ) → count_in l ≡ 0 → board_length ≤ length l → first_in l < most_kept → width_stands (width_in l) ≡ true
    → Looked l t (record { first = first_in l; count = 0; longest = 0 })
unfolding board_in in_order none_after how_many longest_at
empty_seen l t none fits inside stands =
    let empty : ring_in l ≡ [] = rw none (ring_none l (first_in l) (omega arith)) in
    let s : SoundNumbers l = record {
      fits = fits;
      inside = inside;
      room = omega arith;
      parts = record {
        width = (width_stands_iff (width_in l)).0 stands;
        room = rw empty (omega arith);
        order = rw empty;
        none_after = rw empty;
      };
    } in
    record {
      board = numbers_board l s;
      sound = numbers_sound l s;
      first_is = rw (empty, none) (omega (arith, wrapped_inside (first_in l + 0) (omega arith)));
      count_is = rw empty;
      longest_is = rw empty;
    }

-- The passes over the ring of a list

-- where the second starts: at the last time that is gone
abbrev pub start_of : Rest → Pass
start_of rest = record { time = rest.time; longest = 0 }

-- the entries that are left by the first
abbrev pub left_of : List ℕ → Rest → List Entry
left_of l rest = ring_from l rest.first rest.count

-- the first time that counts at the time t
abbrev pub since_in : List ℕ → ℕ → ℕ
since_in l t = t + 1 - width_in l

module _ (l : List ℕ) (t : ℕ) {rest : Rest} (gone : Rested l (first_in l) (count_in l) (since_in l t) rest) where
  -- a time that falls among the entries that are left
  pub fall_seen : in_order rest.time (left_of l rest) ≡ false → SoundNumbers l → ⊥
  fall_seen falls s = clash s.parts.order (gone.resting.order ∙ falls)

  module _ {pass : Pass} (passed : Passed (left_of l rest) (start_of rest) pass) where
    latest_seen : latest 0 (ring_in l) ≡ pass.time
    latest_seen = gone.resting.latest_is ∙ sym passed.latest_is

    -- a last time past the one told
    pub late_seen : last_in l < pass.time → SoundNumbers l → ⊥
    late_seen h s = clash s.parts.none_after (some_after 0 (last_in l) (ring_in l) (omega arith) (omega (arith, latest_seen)))

    module _ (few : count_in l ≤ most_kept) where
      -- what is left is in order from the first time on that counts
      left-counts : in_order (since_in l t) (left_of l rest) ≡ true
      unfolding in_order
      left-counts =
          if_lt 0 rest.count
          (λ h. let some = ring_left gone.resting h few in
          rw some
          (order_from (since_in l t) rest.time (entry_at l rest.first) (ring_from l (wrapped (rest.first + 1)) (rest.count - 1))
          (gone.counts_first h) (rw some at passed.order)))
          (λ h. let none : rest.count ≡ 0 = omega arith in
          rw (none, ring_none l rest.first (omega (arith, gone.resting.inside))))

      many_seen : rest.count ≡ how_many (width_in l) t (ring_in l)
      many_seen =
          sym ((gone.resting.figures (width_in l) t refl).many
          ∙ all_count (width_in l) t (since_in l t) (left_of l rest) (omega arith) left-counts
          ∙ ring_length l rest.first rest.count)

      longest_seen : pass.longest ≡ longest_at (width_in l) t (ring_in l)
      longest_seen =
          let over = all_longest (width_in l) t (since_in l t) 0 (left_of l rest) (omega arith) left-counts in
          omega (arith, passed.longest_is, over, (gone.resting.figures (width_in l) t refl).longest)

      sound_seen : board_length ≤ length l → first_in l < most_kept → width_stands (width_in l) ≡ true → pass.time ≤ last_in l → SoundNumbers l
      sound_seen fits inside stands h =
          let order = gone.resting.order ∙ passed.order in
          let size = ring_length l (first_in l) (count_in l) in
          record {
            fits = fits;
            inside = inside;
            room = few;
            parts = record {
              width = (width_stands_iff (width_in l)).0 stands;
              room = omega arith;
              order = order;
              none_after = none-after 0 (last_in l) (ring_in l) order (omega (arith, latest_seen));
            };
          }

      -- a sound board, whose figures are those of the passes
      pub seen : board_length ≤ length l → first_in l < most_kept → width_stands (width_in l) ≡ true → pass.time ≤ last_in l
          → Looked l t (record { first = rest.first; count = rest.count; longest = pass.longest })
      unfolding board_in
      seen fits inside stands h =
          let s = sound_seen fits inside stands h in
          record {
            board = numbers_board l s;
            sound = numbers_sound l s;
            first_is = gone.resting.first_is ∙ ap (λ (n : ℕ). wrapped (first_in l + (count_in l - n))) many_seen;
            count_is = many_seen;
            longest_is = longest_seen;
          }

-- A list that is longer tells the same as the numbers of a board at its front

module _ (l : List ℕ) (long : board_length ≤ length l) where
  -- its front
  abbrev front : List ℕ
  front = take board_length l

  front_at : (i : ℕ) → i < board_length → get_or front i 0 ≡ get_or l i 0
  front_at i h = get_or-take board_length l i 0 h

  front_entry : (p : ℕ) → p < most_kept → entry_at front p ≡ entry_at l p
  front_entry p h =
      rw (front_at (entry_index p) (omega arith), front_at (entry_index p + 1) (omega arith), front_at (entry_index p + 2) (omega arith))

  front_ring : (k n : ℕ) → k < most_kept → n ≤ most_kept → ring_from front k n ≡ ring_from l k n
  front_ring k n h g = ring_same front l k n h g (λ i b. front_entry (wrapped (k + i)) (wrapped_below (k + i) (omega arith)))

  front_board : first_in l < most_kept → count_in l ≤ most_kept → board_in front ≡ board_in l
  unfolding board_in
  front_board h g =
      rw (
        front_at first_index (omega arith),
        front_at count_index (omega arith),
        front_at width_index (omega arith),
        front_at last_index (omega arith),
        front_ring (first_in l) (count_in l) h g,
      )

  front_sound : SoundNumbers l → is_board front && board_sound (board_in front) ≡ true
  unfolding is_board
  front_sound s =
      let size = length-take-le board_length l long in
      let fits : board_length ≤ length front = omega arith in
      let inside : first_in front < most_kept = rw (front_at first_index (omega arith)) s.inside in
      simp (le-leb _ _ fits, lt-ltb _ _ inside) (rw (front_board s.inside s.room) (numbers_sound l s))

  pub front_seen : (t : ℕ) {r : Look} → Looked front t r → Looked l t r
  unfolding is_board
  front_seen t seen =
      let s = sound_numbers front seen.board seen.sound in
      let inside = rw (front_at first_index (omega arith)) at s.inside in
      let room = rw (front_at count_index (omega arith)) at s.room in
      let same = front_board inside room in
      record {
        board = simp (le-leb _ _ long, lt-ltb _ _ inside);
        sound = rw same at seen.sound;
        first_is = rw (same, front_at first_index (omega arith), front_at count_index (omega arith)) at seen.first_is;
        count_is = rw same at seen.count_is;
        longest_is = rw same at seen.longest_is;
      }

  pub front_unsound : (is_board front && board_sound (board_in front)) ≡ false → (is_board l && board_sound (board_in l)) ≡ false
  front_unsound e = no_sight l (λ s. clash (front_sound s) e)
