-- Section 5 of the specification: which summaries are sound, how an action is counted, and the step that is lent a summary.
-- Assumes nothing.
use Rattle.std.specs.Prelude.{ℕ, ◌+◌, ◌-◌, max, Bool, true, cond, not, ◌&&◌, ◌||◌, List, [], ◌∷◌, get_or, set, replicate, leb, eqb}
use Rattle.model.specs.Types.{Process}
use Rattle.model.specs.Types.{State}
use Rattle.model.specs.Types.{Outcome}
use Rattle.model.specs.declared.Counts.{Counts}
use Rattle.model.specs.declared.Statistics.{Statistics}
use Rattle.model.specs.declared.Recorded.{Recorded}
use Rattle.model.specs.Acts.{try_act, crit_act, exit_act, withdraw_act}
use Rattle.model.specs.States.{last_time, trying, sound_of}
use Rattle.model.specs.Answers.{critical_of, answers, step_of}

-- [5.10] the five counts
abbrev pub counts_of : ℕ → ℕ → ℕ → ℕ → ℕ → Counts
counts_of accepted refused entries exits longest = record {
  accepted = accepted;
  refused = refused;
  entries = entries;
  exits = exits;
  longest = longest;
}

-- [5.10] [8.152] [9.30] their numbers
abbrev pub counts_numbers : Counts → List ℕ
counts_numbers k = k.accepted ∷ k.refused ∷ k.entries ∷ k.exits ∷ k.longest ∷ []

-- [8.152] the counts that numbers tell
abbrev pub counts_in : List ℕ → Counts
counts_in l = counts_of (get_or l 0 0) (get_or l 1 0) (get_or l 2 0) (get_or l 3 0) (get_or l 4 0)

-- [5.10] the counts, and a list for the 96 waits so far
abbrev pub statistics_of : Counts → List ℕ → Statistics
statistics_of k waited = record { counts = k; waited = waited }

-- [5.20]
abbrev pub new_statistics : Statistics
new_statistics = statistics_of (counts_of 0 0 0 0 0) (replicate 96 0)

-- Soundness. The sums are those of numbers without an end: none wraps.

-- [5.40] [5.60] the most actions that a summary counts
abbrev pub most_acts : ℕ
most_acts = 1_000_000_000_000

-- [5.40] [5.50] of the counts
abbrev pub counts_sound : Counts → Bool
counts_sound k = leb (k.accepted + k.refused) most_acts && leb (k.entries + k.exits) k.accepted && leb k.longest last_time

-- [5.40] of the waits so far
unfoldable pub waited_sound : ℕ → List ℕ → Bool
waited_sound clock [] = true
waited_sound clock (w ∷ ws) = leb w clock && waited_sound clock ws

-- [5.40] [4.2] of a summary that is lent beside a state with that clock
unfoldable pub statistics_sound : ℕ → Statistics → Bool
statistics_sound clock x = counts_sound x.counts && waited_sound clock x.waited

-- [5.60] [4.3]
abbrev pub full : Counts → Bool
full k = eqb (k.accepted + k.refused) most_acts

-- Counting

-- [5.100]
abbrev pub one_refused : Counts → Counts
one_refused k = counts_of k.accepted (k.refused + 1) k.entries k.exits k.longest

-- [5.70] an action that is neither a crit nor an exit
abbrev pub one_accepted : Counts → Counts
one_accepted k = counts_of (k.accepted + 1) k.refused k.entries k.exits k.longest

-- [5.70] [5.90] a crit, and the wait that it ends
abbrev pub one_entry : Counts → ℕ → Counts
one_entry k wait = counts_of (k.accepted + 1) k.refused (k.entries + 1) k.exits (max k.longest wait)

-- [5.70] an exit
abbrev pub one_exit : Counts → Counts
one_exit k = counts_of (k.accepted + 1) k.refused k.entries (k.exits + 1) k.longest

-- [5.70] [5.90] the counts after an accepted action; `wait` is the one that it ends, if it is a crit
abbrev pub counts_after : Counts → ℕ → ℕ → Counts
counts_after k act wait = cond (eqb act crit_act) (one_entry k wait) (cond (eqb act exit_act) (one_exit k) (one_accepted k))

-- [5.75] the unused time of an action at the time m: the clock's advance, where nobody is critical before it
abbrev pub unused_time : State → ℕ → ℕ
unused_time s m = cond (eqb (critical_of s) 0) (m - s.clock) 0

-- [5.80] what processes have waited so far once those of them that are trying have waited for d more
unfoldable pub waited_on : ℕ → List Process → List ℕ → List ℕ
waited_on d [] ws = ws
waited_on d (q ∷ qs) [] = []
waited_on d (q ∷ qs) (w ∷ ws) = cond (trying q.location) (w + d) w ∷ waited_on d qs ws

-- [5.80] an action after which its process has waited for nothing: a wait starts or ends
abbrev pub clears : ℕ → Bool
clears act = eqb act try_act || eqb act crit_act || eqb act withdraw_act

-- [5.80] the waits so far after an action of process p
abbrev pub cleared_by : ℕ → ℕ → List ℕ → List ℕ
cleared_by act p l = cond (clears act) (set l (p - 1) 0) l

-- [5.10] what process p has waited so far
abbrev pub waited_by : Statistics → ℕ → ℕ
waited_by x p = get_or x.waited (p - 1) 0

-- [5.90] [10.200] the wait that a crit of process p at the time m ends, beside the state and the summary before it
abbrev pub wait_of : State → Statistics → ℕ → ℕ → ℕ
wait_of s x p m = waited_by x p + unused_time s m

-- [5.75] [5.80] the waits so far after an accepted action in the state s
abbrev pub waited_after : State → List ℕ → ℕ → ℕ → ℕ → List ℕ
waited_after s l act p m = cleared_by act p (waited_on (unused_time s m) s.processes l)

-- [5.70] [5.75] [5.80] [5.90] the summary after an accepted action in the state s
unfoldable pub accepted_counted : State → Statistics → ℕ → ℕ → ℕ → Statistics
accepted_counted s x act p m = statistics_of (counts_after x.counts act (wait_of s x p m)) (waited_after s x.waited act p m)

-- [5.100] the summary after a refused one
abbrev pub refused_counted : Statistics → Statistics
refused_counted x = statistics_of (one_refused x.counts) x.waited

-- [5.70] [5.100] the summary after an action in the state s that was answered with a code
unfoldable pub answer_counted : State → Statistics → ℕ → ℕ → ℕ → ℕ → Statistics
answer_counted s x code act p m = cond (eqb code 0) (accepted_counted s x act p m) (refused_counted x)

-- The recorded step

-- helper: an outcome beside a summary
abbrev pub beside : Statistics → Outcome → Recorded
beside x o = record { outcome = o; statistics = x }

-- helper: the code of the answer that a recorded step, or a call, gave back
abbrev pub code_of : Recorded → ℕ
code_of r = r.outcome.answer.code

-- [5.110] the outcome of a step in the state s, and its answer counted
abbrev pub counting : State → Statistics → ℕ → ℕ → ℕ → Outcome → Recorded
counting s x act p m o = beside (answer_counted s x o.answer.code act p m) o

-- [5.30] [5.105] [5.110] [4.80] [4.110] [4.1] [4.2] [4.3] one condition a line; 1, 2 and 3 give the summary back
unfoldable pub recorded_of : State → Statistics → ℕ → ℕ → ℕ → Recorded
recorded_of s x act p m =
    cond (not (sound_of s)) (beside x (answers 1 0 0 s))
    (cond (not (statistics_sound s.clock x)) (beside x (answers 2 0 0 s))
    (cond (full x.counts) (beside x (answers 3 0 0 s))
    (counting s x act p m (step_of s act p m))))
