-- Calls that withdraw: a try that is taken back, whatever kinds of calls the two are; and, of section 8 of the specification, what those who
-- withdraw give up of the owed wait, [8.78], and that nobody gives up more, with examples, which antt computes. Assumes nothing.
use Rattle.std.specs.Prelude.{ℕ, zero, suc, ◌+◌, ◌<◌, ◌≡◌, ◌⊎◌, false, List, [], ◌∷◌, ◌++◌, map, length}
use Rattle.model.specs.Types.{State}
use Rattle.model.specs.States.{equal_limits, parameters_of, initial}
use Rattle.model.specs.Acts.{wait_act, try_act, withdraw_act}
use Rattle.model.specs.Facts.{Accepted, IsFresh, IsTrying}
use Rattle.model.specs.Summaries.{new_statistics, code_of}
use Rattle.model.specs.Calls.{Call, outcome_of, table_of, run_of, results_of}
use Rattle.theory.specs.Acceptance.{ClockOnly}
use Rattle.lists.specs.Demand3.{Span, Withdraws, NotWithdrawn, OwedIf, owed_wait}

-- A try that is taken back

-- [3.96] of a state of 96 entries, as each of the code is: a try d, and directly after it a withdraw e of the same process at the same time
abbrev pub CallsTakenBack : Type 0
CallsTakenBack = (s : State) → length s.processes ≡ 96 → (d e : Call) → d.action ≡ try_act → e.action ≡ withdraw_act
    → e.process ≡ d.process → e.time ≡ d.time
    → Accepted (outcome_of s d) → Accepted (outcome_of (table_of s d) e) → ClockOnly s d.time (table_of (table_of s d) e)

-- What is given up, and no more

-- [8.142] process w has withdrawn: one of the calls from s on is a withdraw of it that is accepted
abbrev pub HasWithdrawn : State → ℕ → List Call → Type 0
HasWithdrawn s w [] = ⊥
HasWithdrawn s w (d ∷ ds) = Withdraws s w d ⊎ HasWithdrawn (table_of s d) w ds

-- [8.142] of every list from a fresh table
abbrev pub PastBoundAllWithdrew : Type 0
PastBoundAllWithdrew = (s : State) → IsFresh s → (before during : List Call) (w : ℕ) → Span (run_of s before) w during
    → (run_of s before).clock + owed_wait s.parameters < (run_of s (before ++ during)).clock
    → HasWithdrawn (run_of s before) w during

-- helper: the wait as it was owed before anybody could withdraw
abbrev pub NoCondition : State → ℕ → List Call → Type 0
NoCondition s w ds = Unit {0}

-- [8.143] of every list from a fresh table in which nobody withdraws
abbrev pub OwedIfNobodyWithdraws : Type 0
OwedIfNobodyWithdraws = (s : State) → IsFresh s → (ds : List Call) → ((w : ℕ) → NotWithdrawn s w ds)
    → OwedIf NoCondition (owed_wait s.parameters) s ds

-- Examples

-- helper: a step, as a call
abbrev pub example_step : ℕ → ℕ → ℕ → Call
example_step act p m = record { recorded = false; action = act; process = p; time = m; lent = new_statistics }

-- helper: the table that the examples start from
abbrev pub example_table : State
example_table = initial (parameters_of 2 8 12 (equal_limits 2 5))

-- helper: the wait that is owed there
abbrev pub example_wait : ℕ
example_wait = owed_wait example_table.parameters

-- helper: both processes try
abbrev pub both_try : List Call
both_try = example_step try_act 1 0 ∷ example_step try_act 2 0 ∷ []

-- [8.144] both withdraw, and the clock runs on
abbrev pub both_withdraw : List Call
both_withdraw = example_step withdraw_act 1 3 ∷ example_step withdraw_act 2 5 ∷ example_step wait_act 0 50 ∷ []

-- [8.144] so the condition is needed
pub record AllWithdraw : Type 0 where
  pub fresh : IsFresh example_table
  pub accepted : map code_of (results_of example_table (both_try ++ both_withdraw)) ≡ 0 ∷ 0 ∷ 0 ∷ 0 ∷ 0 ∷ []
  pub clock : (run_of example_table (both_try ++ both_withdraw)).clock ≡ example_wait + 1
  pub runs_on : OwedIf NoCondition example_wait example_table (both_try ++ both_withdraw) → ⊥

-- [8.145] one withdraws; the other one's withdraw comes too late, and is refused
abbrev pub one_withdraws : List Call
one_withdraws = example_step withdraw_act 1 3 ∷ example_step withdraw_act 2 6 ∷ []

-- [8.145] so the wait is still owed
pub record OneStays : Type 0 where
  pub answers : map code_of (results_of example_table (both_try ++ one_withdraws)) ≡ 0 ∷ 0 ∷ 0 ∷ 8 ∷ []
  pub span : Span (run_of example_table both_try) 2 one_withdraws
  pub stays : NotWithdrawn (run_of example_table both_try) 2 one_withdraws
  pub gone : HasWithdrawn (run_of example_table both_try) 1 one_withdraws

-- [8.146] process 1 withdraws and tries anew, k times: at m + 5, at m + 10 and so on
unfoldable pub comes_back : ℕ → ℕ → List Call
comes_back zero m = []
comes_back (suc k) m = example_step withdraw_act 1 (m + 5) ∷ example_step try_act 1 (m + 5) ∷ comes_back k (m + 5)

-- [8.146] process w is trying at the point too
abbrev pub StillTrying : State → ℕ → List Call → Type 0
StillTrying s w ds = IsTrying (run_of s ds) w

-- [8.146] so to be trying at both ends is not enough
pub record ComingBack : Type 0 where
  pub fresh : IsFresh example_table
  pub clock : (run_of example_table (example_step try_act 1 0 ∷ comes_back 10 0)).clock ≡ example_wait + 1
  pub still : StillTrying (run_of example_table (example_step try_act 1 0 ∷ [])) 1 (comes_back 10 0)
  pub gone : HasWithdrawn (run_of example_table (example_step try_act 1 0 ∷ [])) 1 (comes_back 10 0)
  pub runs_on : OwedIf StillTrying example_wait example_table (example_step try_act 1 0 ∷ comes_back 10 0) → ⊥
