-- What is judged of a summary before an action is counted, and how any counts are counted on, sound or not. Where there is room this is
-- what the model says; `proofs/Laws` tells so. Assumes nothing.
use Rattle.std.specs.Prelude.{ℕ, ◌+◌, ◌%◌, ◌^◌, ◌<◌, max, Bool, cond, not, ◌&&◌, ◌==◌, Option, Some, None}
use Rattle.model.specs.declared.Counts.{Counts}
use Rattle.model.specs.declared.Refusal.{Refusal}
use Rattle.model.specs.declared.Refusal.TheVariants.{NoSummary, SummaryFull}
use Rattle.model.specs.Acts.{crit_act, exit_act}
use Rattle.model.specs.Summaries.{most_acts, counts_of, counts_sound, full}

-- [4.2] [4.3] [5.60] the refusal 2 or 3, by the counts and by whether the waits so far stand; none where an action can be counted
abbrev pub fault_by : Counts → Bool → Option Refusal
fault_by k stand = cond (not (counts_sound k && stand)) (Some NoSummary) (cond (full k) (Some SummaryFull) None)

-- helper: each count has room for one more
pub record Room (k : Counts) : Type 0 where
  pub accepted : k.accepted < most_acts
  pub refused : k.refused < most_acts
  pub entries : k.entries < most_acts
  pub exits : k.exits < most_acts

-- Counting

-- helper: one more; a count without room may wrap
abbrev pub one_more : ℕ → ℕ
one_more k = (k + 1) % 2 ^ 64

-- [5.100]
abbrev pub refused_after : Counts → Counts
refused_after k = counts_of k.accepted (one_more k.refused) k.entries k.exits k.longest

-- [5.70] an action that is neither a crit nor an exit
abbrev pub other_after : Counts → Counts
other_after k = counts_of (one_more k.accepted) k.refused k.entries k.exits k.longest

-- [5.70] [5.90] a crit, and the wait that it ends
abbrev pub entry_after : Counts → ℕ → Counts
entry_after k wait = counts_of (one_more k.accepted) k.refused (one_more k.entries) k.exits (max k.longest wait)

-- [5.70] an exit
abbrev pub exit_after : Counts → Counts
exit_after k = counts_of (one_more k.accepted) k.refused k.entries (one_more k.exits) k.longest

-- [5.70] [5.90] the counts after an accepted action; `wait` is the one that it ends, if it is a crit
abbrev pub accepted_after : Counts → ℕ → ℕ → Counts
accepted_after k act wait = cond (act == crit_act) (entry_after k wait) (cond (act == exit_act) (exit_after k) (other_after k))
