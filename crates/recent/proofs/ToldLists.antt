-- The recorded steps of a list that tells a board are a list of recorded steps: the board plays no part in table and summary, so what holds
-- of every list of recorded steps holds of it. Assumes nothing.
use mathlib.Core.Path.{◌≡◌, refl, sym, ap, ◌∙◌}
use mathlib.Core.Bool.{true, false}
use mathlib.Core.List.{List, [], ◌∷◌}
use Rattle.model.specs.declared.Answer.{Answer}
use Rattle.model.specs.Texts.{Event}
use Rattle.model.specs.Folds.{end_by}
use Rattle.model.proofs.Tests.{by_test}
use Rattle.layout.specs.Interface.{LentBoth, record_gave, lent_record}
use Rattle.lending.specs.Guarantees.{lent_call, lent_run, lent_all}
use Rattle.lending.proofs.LentSteps.{record_call}
use Rattle.lending.proofs.LentLists.{every_lent_list}
use Rattle.lending.proofs.LentTallies.{every_lent_tally}
use Rattle.recent.specs.Tellings.{LentTold, lent_tell, TellCall, lent_tell_call, tell_start, tell_all, steps_told, acts_told, EveryToldSteps}

-- table and summary of what a call gave back
abbrev both_of : Answer → LentTold → LentBoth
both_of a r = record_gave a r.table r.summary

-- One call

module _ (r : LentTold) (d : TellCall) where
  -- a showing leaves both
  shown_both : (a : Answer) → d.shows ≡ true → both_of a (lent_tell_call r d) ≡ both_of a r
  unfolding lent_tell_call
  shown_both a y = rw y

  -- a step gives back what the recorded step does
  taken_both : d.shows ≡ false
      → both_of (lent_tell_call r d).answer (lent_tell_call r d) ≡ lent_record r.table r.summary d.action d.process d.time
  unfolding lent_tell_call lent_tell
  taken_both n = rw n

-- A list

module _ (r : LentTold) (d : TellCall) (ds : List TellCall) where
  abbrev next : LentTold
  next = lent_tell_call r d

  steps_shown : d.shows ≡ true → steps_told r (d ∷ ds) ≡ steps_told next ds
  unfolding steps_told
  steps_shown y = rw y

  steps_taken : d.shows ≡ false → steps_told r (d ∷ ds) ≡ record_call r.summary d.action d.process d.time ∷ steps_told next ds
  unfolding steps_told
  steps_taken n = rw n

  acts_shown : d.shows ≡ true → acts_told (d ∷ ds) ≡ acts_told ds
  unfolding acts_told
  acts_shown y = rw y

  acts_taken : d.shows ≡ false → acts_told (d ∷ ds) ≡ record { time = d.time; process = d.process; action = d.action } ∷ acts_told ds
  unfolding acts_told
  acts_taken n = rw n

  -- the tables that the rest of the steps lead to
  table_next : lent_run next.table (steps_told next ds) ≡ lent_run r.table (steps_told r (d ∷ ds))
  unfolding end_by lent_call
  table_next = by_test d.shows
      (λ y. ap (λ (b : LentBoth). lent_run b.table (steps_told next ds)) (shown_both r d r.answer y)
      ∙ ap (lent_run r.table) (sym (steps_shown y)))
      (λ n. ap (λ (b : LentBoth). lent_run b.table (steps_told next ds)) (taken_both r d n)
      ∙ ap (lent_run r.table) (sym (steps_taken n)))

  -- and the summaries, where the answer before them is of no account
  module _ (rest : (a : Answer) → (tell_all next ds).summary ≡ (lent_all (both_of a next) (acts_told ds)).summary) (a : Answer) where
    summary_next : (tell_all next ds).summary ≡ (lent_all (both_of a r) (acts_told (d ∷ ds))).summary
    unfolding end_by
    summary_next = by_test d.shows
        (λ y. rest a ∙ ap (λ (b : LentBoth). (lent_all b (acts_told ds)).summary) (shown_both r d a y)
        ∙ ap (λ (es : List Event). (lent_all (both_of a r) es).summary) (sym (acts_shown y)))
        (λ n. rest next.answer ∙ ap (λ (b : LentBoth). (lent_all b (acts_told ds)).summary) (taken_both r d n)
        ∙ ap (λ (es : List Event). (lent_all (both_of a r) es).summary) (sym (acts_taken n)))

table_told : (r : LentTold) (ds : List TellCall) → (tell_all r ds).table ≡ lent_run r.table (steps_told r ds)
unfolding end_by steps_told
table_told r [] = refl
table_told r (d ∷ ds) = table_told (lent_tell_call r d) ds ∙ table_next r d ds

summary_told : (r : LentTold) (ds : List TellCall) (a : Answer) → (tell_all r ds).summary ≡ (lent_all (both_of a r) (acts_told ds)).summary
unfolding end_by acts_told
summary_told r [] a = refl
summary_told r (d ∷ ds) a = summary_next r d ds (summary_told (lent_tell_call r d) ds) a

pub every_told_steps : EveryToldSteps
every_told_steps k w table summary board ds e f =
    let start = tell_start k w table summary board in
    record {
      demand3 = every_lent_list k table (steps_told start ds) e;
      table_is = table_told start ds;
      tally = every_lent_tally k table summary (acts_told ds) e f;
      summary_is = summary_told start ds _;
    }
