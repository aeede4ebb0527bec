-- What a reading for the library gives back: one law for each way out of `read_to`. Assumes nothing.
use Prim.Native.Nat.{ℕ, ◌≤◌, ◌<◌}
use mathlib.Core.Path.{◌≡◌, refl, sym, ap, ◌∙◌}
use mathlib.Core.List.{List, []}
use lib.Dec.{ltb}
use lib.ListN.{length}
use borrow.Author.Tests.{lt-ltb, le-ltb}
use Rattle.std.specs.Prelude.{Result, Ok, Err}
use Rattle.model.specs.declared.Reading.{Reading}
use Rattle.model.specs.declared.Answer.{Answer}
use Rattle.model.specs.Answers.{answer_of}
use Rattle.model.specs.Readings.{Lists, lists, room, Trace, refused, trace, trace_of, Scanned, into, scanned_of}
use Rattle.model.specs.Readings.{Read, read_gave, reading_from, read_of}
use Rattle.model.proofs.Tests.{by_cond}
use Rattle.trace.specs.Passes.{answer_roomless, answer_without_room}
use Rattle.trace.specs.ReadingTo.{unread_to, was_read_to, read_to_from, read_to_of}

module _ (text a : List ℕ) (l : Lists) where
  -- a refused reading leaves the lists
  abbrev Stays : Scanned → Type 0
  Stays x = (answer : Answer) → reading_from x.scan ≡ Err answer → x.kept ≡ l

  stays : (t : Trace) → Stays (into l t)
  stays (refused why line) = λ _ _. refl
  stays (trace line k events) = by_cond Stays (ltb (room l) (length events)) (λ _ _ _. refl) (λ _ answer e. cc)

  module _ {r : Result Reading Answer} {kept : Lists} (e : read_gave r kept ≡ read_of text l) where
    lists_stay : (answer : Answer) → r ≡ Err answer → kept ≡ l
    unfolding read_of scanned_of
    lists_stay answer q = ap (λ (x : Read). x.kept) e ∙ stays (trace_of text) answer (sym (ap (λ (x : Read). x.reading) e) ∙ q)

    pub to_refused : (answer : Answer) → r ≡ Err answer → unread_to answer a kept ≡ read_to_of text a l
    unfolding read_to_of
    to_refused answer q = rw (← e, lists_stay answer q, q)

    pub to_stored : 96 ≤ length a → (q : Reading) → r ≡ Ok q → was_read_to a q kept ≡ read_to_of text a l
    unfolding read_to_of
    to_stored h q s = rw (← e, s, le-ltb (length a) 96 h)

  -- the list for the values of a is too short
  module _ (h : length a < 96) where
    full : (t : Trace) → unread_to (answer_roomless (reading_from (into (lists [] [] []) t).scan)) a l
        ≡ read_to_from a l (reading_from (into l t).scan) (into l t).kept
    full (refused why line) = refl
    full (trace line k events) =
        let none : unread_to (answer_of 16 0 0) a l
        ≡ read_to_from a l (reading_from (into l (trace line k events)).scan) (into l (trace line k events)).kept =
        by_cond (λ (x : Scanned). unread_to (answer_of 16 0 0) a l ≡ read_to_from a l (reading_from x.scan) x.kept)
        (ltb (room l) (length events)) (λ _. refl) (λ _. rw (lt-ltb (length a) 96 h)) in
        by_cond (λ (x : Scanned). unread_to (answer_roomless (reading_from x.scan)) a l
        ≡ read_to_from a l (reading_from (into l (trace line k events)).scan) (into l (trace line k events)).kept)
        (ltb 0 (length events)) (λ _. none) (λ _. none)

    pub to_full : unread_to (answer_without_room text) a l ≡ read_to_of text a l
    unfolding read_to_of read_of scanned_of
    to_full = full (trace_of text)
