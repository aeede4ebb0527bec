-- The search for the first deadline over a lent deadline table: it tells the first of the last times where the table is sound, and else a fault.
-- Assumes nothing.
use Prim.Native.Nat.{ℕ}
use mathlib.Core.Path.{◌≡◌, refl, sym, ◌∙◌}
use mathlib.Core.Bool.{true, false≢true}
use mathlib.Core.List.{List}
use lib.ListN.{take}
use lib.Seq.{length-take-le}
use borrow.Author.Tests.{eqb-false}
use Rattle.rules.specs.declared.survey.Survey.{Survey}
use Rattle.rules.specs.Search.{TellsFirst}
use Rattle.deadlines.specs.Deadlines.{sound_with, first_last}
use Rattle.deadlines.proofs.Search.{whole_tells_with}
use Rattle.deadline_layout.specs.Encodings.{deadline_length, state_with_in}
use Rattle.deadline_layout.specs.Search.{DeadlineTableSearchTellsFirst, DeadlineTableSearchFindsFault}
use Rattle.deadline_layout.proofs.Encodings.{table_fits, sound_is_table, table_is_sound}
use Rattle.deadline_layout.proofs.Surveys.{tell_sound, Found, faulty, whole, survey_found}
use Rattle.deadline_layout.proofs.Lending.{first_sound, found_sound}

found_tells : (l : List ℕ) (acting : ℕ) {f : Survey} → Found l acting f → tell_sound l ≡ true → sound_with (state_with_in l) ≡ true
    → TellsFirst (state_with_in l).clock (state_with_in l).parameters.c (first_last (state_with_in l)) f
found_tells l acting (faulty u n) e sound = absurd (false≢true (sym u ∙ e))
found_tells l acting {f} (whole u w) e sound = whole_tells_with (state_with_in l) acting f sound w

pub deadline_table_search_tells_first : DeadlineTableSearchTellsFirst
deadline_table_search_tells_first l acting e =
    let fits = table_fits l (sound_is_table l e) in
    found_tells (take deadline_length l) acting (survey_found (take deadline_length l) (length-take-le deadline_length l fits) acting)
    (sym (first_sound l fits) ∙ e) (table_is_sound l e)

pub deadline_table_search_finds_fault : DeadlineTableSearchFindsFault
deadline_table_search_finds_fault l acting fits e = eqb-false _ 0 (found_sound l fits acting refl ∙ e)
