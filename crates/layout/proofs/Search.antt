-- The search for the first deadline over a lent table: it tells what the definition tells where the table is sound, and else a fault. Assumes
-- nothing.
use Rattle.std.proofs.Common.{◌≡◌, ℕ, true, List, take, sym, refl, ◌∙◌, length-take-le}
use mathlib.Core.Bool.{false≢true}
use borrow.Author.Tests.{eqb-false}
use Rattle.model.specs.Answers.{first_deadline}
use Rattle.rules.specs.declared.survey.Survey.{Survey}
use Rattle.rules.specs.Search.{TellsFirst}
use Rattle.rules.proofs.Search.{whole_tells}
use Rattle.layout.specs.Encodings.{table_length, state_in}
use Rattle.layout.specs.Search.{TableSearchTellsFirst, TableSearchFindsFault}
use Rattle.layout.proofs.Encodings.{table_fits, sound_is_table}
use Rattle.layout.proofs.Surveys.{tell_sound, Found, faulty, whole, survey_found}
use Rattle.layout.proofs.Lending.{first_sound, found_sound}

found_tells : (l : List ℕ) (acting : ℕ) {f : Survey} → Found l acting f → tell_sound l ≡ true
    → TellsFirst (state_in l).clock (state_in l).parameters.c (first_deadline (state_in l)) f
found_tells l acting (faulty u n) e = absurd (false≢true (sym u ∙ e))
found_tells l acting {f} (whole u w) e = whole_tells (state_in l) acting f w

pub table_search_tells_first : TableSearchTellsFirst
table_search_tells_first l acting e =
    let fits = table_fits l (sound_is_table l e) in
    found_tells (take table_length l) acting (survey_found (take table_length l) (length-take-le table_length l fits) acting) (sym (first_sound l fits) ∙ e)

pub table_search_finds_fault : TableSearchFindsFault
table_search_finds_fault l acting fits e = eqb-false _ 0 (found_sound l fits acting refl ∙ e)
