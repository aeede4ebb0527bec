-- What is read of a lent summary, and what counting makes of it, on the numbers themselves. For the proofs only. `proofs/` relates
-- these definitions to the recorded step of the model. Assumes nothing.
use Rattle.std.specs.Prelude.{ℕ, ◌*◌, cond, List, ◌++◌, take, drop, slice_index, slice_set, Option, Result, Ok, Err}
use Rattle.model.specs.Types.{Process}
use Rattle.model.specs.declared.Refusal.{Refusal}
use Rattle.model.specs.Answers.{answer_of}
use Rattle.model.specs.Refusals.{code_of}
use Rattle.model.specs.Summaries.{waited_sound, waited_on, clears}
use Rattle.rules.specs.Judging.{slot_of}
use Rattle.statistics.specs.Countings.{fault_by, refused_after, accepted_after}
use Rattle.statistics.specs.Waitings.{longer_by}
use Rattle.layout.specs.declared.Entered.{Entered}
use Rattle.layout.specs.Encodings.{stride, summary_counts, counts_length, refused_place, waited_place}
use Rattle.layout.specs.Places.{counts_put}

-- the refusal 2 or 3, or none where an act can be counted
abbrev pub fault_in : List ℕ → ℕ → Option Refusal
fault_in l clock = fault_by (summary_counts l) (waited_sound clock (drop counts_length l))

-- the stage of the entry at a place, in the numbers of the entries
abbrev pub stage_in : List ℕ → ℕ → ℕ
stage_in entries i = slice_index entries (stride * i)

-- the wait that an accepted action of process p with the unused time d ends, if it is a crit
abbrev pub wait_in : List ℕ → ℕ → ℕ → ℕ
wait_in l p d = longer_by d (slice_index l (waited_place (slot_of p)))

-- the counts after it
abbrev pub counts_counted : List ℕ → ℕ → ℕ → ℕ → List ℕ
counts_counted l act p d = counts_put l (accepted_after (summary_counts l) act (wait_in l p d))

-- the waits so far after it, of processes with the entries qs
abbrev pub waited_put : List ℕ → List Process → ℕ → List ℕ
waited_put l qs d = take counts_length l ++ waited_on d qs (drop counts_length l)

-- its own is cleared, or not
abbrev pub cleared_in : List ℕ → ℕ → ℕ → List ℕ
cleared_in l act p = cond (clears act) (slice_set l (waited_place (slot_of p)) 0) l

-- all of it
unfoldable pub accepted_in : List ℕ → List Process → ℕ → ℕ → ℕ → List ℕ
accepted_in l qs act p d = cleared_in (waited_put (counts_counted l act p d) qs d) act p

-- after a refused one
unfoldable pub refused_in : List ℕ → List ℕ
refused_in l = slice_set l refused_place (refused_after (summary_counts l)).refused

-- what a recorded step hands on, by what it gave or was refused with: a refusal ends no wait
abbrev pub entered_with : Result Entered Refusal → Entered
entered_with (Ok entered) = entered
entered_with (Err refusal) = record { answer = answer_of (code_of refusal) 0 0; wait = 0 }
