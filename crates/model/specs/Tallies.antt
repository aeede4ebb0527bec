-- The counts and the longest wait by a second account, [5.120] and [5.125]: worked out from a list of actions and their answers, with no summary in
-- it. Assumes nothing.
use Rattle.std.specs.Prelude.{ℕ, ◌+◌, ◌-◌, max, Bool, true, false, cond, ◌&&◌, ◌||◌, List, [], ◌∷◌, leb, eqb}
use Rattle.model.specs.declared.Counts.{Counts}
use Rattle.model.specs.Types.{Process}
use Rattle.model.specs.Acts.{try_act, crit_act, exit_act, withdraw_act}
use Rattle.model.specs.Stages.{critical}
use Rattle.model.specs.States.{stage_of}
use Rattle.model.specs.Summaries.{counts_of}
use Rattle.model.specs.Texts.{Event}
use Rattle.model.specs.Folds.{log_by}

-- [5.120] an action, and the code of the answer to it
pub record Attempt : Type 0 where
  pub action : ℕ
  pub process : ℕ
  pub time : ℕ
  pub code : ℕ

-- helper: of its parts
abbrev pub attempt : ℕ → ℕ → ℕ → ℕ → Attempt
attempt act p m code = record { action = act; process = p; time = m; code = code }

-- [5.120] an act that was answered with a code
abbrev pub attempted : Event → ℕ → Attempt
attempted e code = attempt e.action e.process e.time code

-- [5.120] the log of a list of acts from its start
abbrev pub log_of : List Event → List ℕ → List Attempt
log_of es codes = log_by attempted [] es codes

-- Kinds of attempts

-- [5.120]
abbrev pub is_accepted : Attempt → Bool
is_accepted e = eqb e.code 0

-- [5.120]
abbrev pub is_refused : Attempt → Bool
is_refused e = leb 4 e.code && leb e.code 10

-- [5.125] an accepted try of process p
abbrev pub is_try : ℕ → Attempt → Bool
is_try p e = is_accepted e && eqb e.action try_act && eqb e.process p

-- [5.122] an accepted crit or withdraw of process p, by which it is no longer trying
abbrev pub is_tried_out : ℕ → Attempt → Bool
is_tried_out p e = is_accepted e && (eqb e.action crit_act || eqb e.action withdraw_act) && eqb e.process p

-- [5.120] an accepted crit
abbrev pub is_entry : Attempt → Bool
is_entry e = is_accepted e && eqb e.action crit_act

-- [5.120] an accepted exit
abbrev pub is_exit : Attempt → Bool
is_exit e = is_accepted e && eqb e.action exit_act

-- The tally of a log, which has the last attempt first

-- [5.120] how many pass a test
unfoldable pub count_of : (Attempt → Bool) → List Attempt → ℕ
count_of test [] = 0
count_of test (e ∷ es) = cond (test e) 1 0 + count_of test es

-- Unused time

-- [5.122] the clock after the attempts of a log: the time of the last one accepted
unfoldable pub clock_after : List Attempt → ℕ
clock_after [] = 0
clock_after (e ∷ es) = cond (is_accepted e) e.time (clock_after es)

-- [5.122] who is critical after them: the process of the last entry, until an exit; 0 where nobody is
unfoldable pub critical_after : List Attempt → ℕ
critical_after [] = 0
critical_after (e ∷ es) = cond (is_entry e) e.process (cond (is_exit e) 0 (critical_after es))

-- [5.122] whether process p is trying after them: it has tried, and neither entered nor withdrawn since
unfoldable pub trying_after : ℕ → List Attempt → Bool
trying_after p [] = false
trying_after p (e ∷ es) = cond (is_try p e) true (cond (is_tried_out p e) false (trying_after p es))

-- [5.123] the unused time of an accepted action at the time m after them: the clock's advance, where nobody was critical
abbrev pub unused_after : List Attempt → ℕ → ℕ
unused_after log m = cond (eqb (critical_after log) 0) (m - clock_after log) 0

-- [5.124] the unused time since the last try of process p: that of each accepted action after it, or of all where there is none
unfoldable pub unused_since : ℕ → List Attempt → ℕ
unused_since p [] = 0
unused_since p (e ∷ es) =
    cond (is_try p e) 0
    (cond (is_accepted e) (unused_since p es + unused_after es e.time) (unused_since p es))

-- [5.125] [10.220] the wait that an entry of process p at the time m ends, after the attempts of a log
abbrev pub wait_after : List Attempt → ℕ → ℕ → ℕ
wait_after log p m = unused_since p log + unused_after log m

-- [5.125] the longest wait that an entry ended
unfoldable pub longest_wait : List Attempt → ℕ
longest_wait [] = 0
longest_wait (e ∷ es) = cond (is_entry e) (max (longest_wait es) (wait_after es e.process e.time)) (longest_wait es)

-- [5.120] [5.125] what is worked out
abbrev pub tally_of : List Attempt → Counts
tally_of log = counts_of (count_of is_accepted log) (count_of is_refused log) (count_of is_entry log) (count_of is_exit log) (longest_wait log)

-- All time, used or not: what a wait was before unused time alone counted

-- [5.128] the time of the last try of process p; 0 where there is none
unfoldable pub last_try : ℕ → List Attempt → ℕ
last_try p [] = 0
last_try p (e ∷ es) = cond (is_try p e) e.time (last_try p es)

-- [5.128] the longest time from a try to its entry
unfoldable pub longest_passage : List Attempt → ℕ
longest_passage [] = 0
longest_passage (e ∷ es) = cond (is_entry e) (max (longest_passage es) (e.time - last_try e.process es)) (longest_passage es)

-- Refused attempts

-- [5.127] a log without them
unfoldable pub accepted_only : List Attempt → List Attempt
accepted_only [] = []
accepted_only (e ∷ es) = cond (is_accepted e) (e ∷ accepted_only es) (accepted_only es)

-- [5.130] how many processes are critical
unfoldable pub critical_count : List Process → ℕ
critical_count [] = 0
critical_count (q ∷ qs) = cond (eqb (stage_of q.location) critical) 1 0 + critical_count qs
