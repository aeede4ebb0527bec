-- That the searches of both engines find the first deadline, in plain facts: they tell the definition's, of which the theory says them. Assumes
-- nothing.
use Prim.Native.Nat.{ℕ}
use mathlib.Core.Path.{refl, sym, subst}
use lib.Dec.{eqb}
use borrow.Author.Tests.{eqb-true}
use Rattle.model.specs.Types.{State}
use Rattle.model.specs.Answers.{none_due, first_deadline}
use Rattle.model.proofs.Tests.{by_test}
use Rattle.theory.specs.Lateness.{FirstTold}
use Rattle.theory.proofs.Lateness.{first_is_first}
use Rattle.rules.specs.declared.survey.Survey.{Survey}
use Rattle.rules.specs.Search.{TellsFirst}
use Rattle.rules.proofs.Search.{search_tells_first}
use Rattle.deadlines.specs.Types.{DeadlineState}
use Rattle.deadlines.specs.Matching.{Matches, arrived}
use Rattle.deadlines.proofs.Matched.{sound_matched}
use Rattle.deadlines.proofs.Search.{search_tells_arrived}
use Rattle.matching.specs.Search.{FindsFirst, SearchFindsFirst, FindsFirstWith, SearchFindsFirstWith}
use Rattle.matching.proofs.Matchings.{matches_matched}
use Rattle.matching.proofs.Facts.{last_is_deadline, deadline_is_last}

tells_finds : (s : State) (f : Survey) {c : ℕ} → TellsFirst s.clock c (first_deadline s) f → FindsFirst s f
tells_finds s f t =
    let first = subst (FirstTold s) (sym t.same) (first_is_first s) in
    by_test (eqb f.process 0)
    (λ z. let nobody : FirstTold s none_due = rw z at first in
    record { none = (λ _. nobody.none.0 refl, λ _. eqb-true f.process 0 z); some = λ n. absurd (n (eqb-true f.process 0 z)) })
    (λ z. let one = rw z at first in record { none = one.none; some = one.some })

pub search_finds_first : SearchFindsFirst
search_finds_first s acting sound = tells_finds s _ (search_tells_first s acting sound)

-- of two that match, what is found of one is found of the other
finds_same : {s : State} {d : DeadlineState} {f : Survey} → Matches s d → FindsFirst s f → FindsFirstWith d f
finds_same {s} {d} {f} m found = record {
  none = (
    λ z i first last h. found.none.0 z i last (last_is_deadline m h),
    λ nobody. found.none.1 (λ i last h. let t = deadline_is_last m h in nobody i t.0 last t.1),
  );
  has = λ n. deadline_is_last m (rw m.clock (found.some n).has);
  smallest = λ n i first last h. rw m.clock ((found.some n).smallest i last (last_is_deadline m h));
  lowest = λ n i first h. (found.some n).lowest i (rw m.clock at (last_is_deadline m h));
}

pub search_finds_first_with : SearchFindsFirstWith
search_finds_first_with d acting sound =
    finds_same (subst (Matches (arrived d)) (sound_matched d sound) (matches_matched (arrived d)))
    (tells_finds (arrived d) _ (search_tells_arrived d acting sound))
