-- Section 3 of the specification: its table row by row, and what an accepted action makes of the state. An action comes with a
-- process p and a time m. Assumes nothing.
use Rattle.std.specs.Prelude.{ℕ, ◌-◌, cond, List, set, eqb}
use Rattle.model.specs.Types.{Location}
use Rattle.model.specs.declared.Location.TheVariants.{Remainder, Testing, Setting, Checking, Entering, Critical, Resetting, Leaving}
use Rattle.model.specs.Types.{Process}
use Rattle.model.specs.Types.{State}
use Rattle.model.specs.declared.Transition.{Transition}
use Rattle.model.specs.Acts.{wait_act, try_act, test_act, set_act, check_act, crit_act, exit_act, reset_act, rem_act, withdraw_act, leaves}
use Rattle.model.specs.States.{entry}

-- The table, row by row

-- helper: a row: the stage that is left, the location that is reached, the word after it
abbrev pub row : ℕ → Location → ℕ → Transition
row from to word = record { from = from; to = to; word = word }

-- [3.1] [3.60]
abbrev pub try_row : ℕ → ℕ → ℕ → Transition
try_row word p m = row (leaves try_act) (Testing m) word

-- [3.2] [3.60] where it leads
abbrev pub after_test : ℕ → ℕ → Location
after_test word m = cond (eqb word 0) (Setting m) (Testing m)

-- [3.2]
abbrev pub test_row : ℕ → ℕ → ℕ → Transition
test_row word p m = row (leaves test_act) (after_test word m) word

-- [3.3] [3.60]
abbrev pub set_row : ℕ → ℕ → ℕ → Transition
set_row word p m = row (leaves set_act) (Checking m) p

-- [3.4] [3.60] where it leads
abbrev pub after_check : ℕ → ℕ → ℕ → Location
after_check word p m = cond (eqb word p) (Entering m) (Testing m)

-- [3.4]
abbrev pub check_row : ℕ → ℕ → ℕ → Transition
check_row word p m = row (leaves check_act) (after_check word p m) word

-- [3.5]
abbrev pub crit_row : ℕ → ℕ → ℕ → Transition
crit_row word p m = row (leaves crit_act) Critical word

-- [3.6] [3.60]
abbrev pub exit_row : ℕ → ℕ → ℕ → Transition
exit_row word p m = row (leaves exit_act) (Resetting m) word

-- [3.7] [3.60]
abbrev pub reset_row : ℕ → ℕ → ℕ → Transition
reset_row word p m = row (leaves reset_act) (Leaving m) 0

-- [3.8]
abbrev pub rem_row : ℕ → ℕ → ℕ → Transition
rem_row word p m = row (leaves rem_act) Remainder word

-- [3.9]
abbrev pub withdraw_row : ℕ → ℕ → ℕ → Transition
withdraw_row word p m = row (leaves withdraw_act) Remainder word

-- [3.40] the row of an action from `try_act` on, at a word: of a state the rows look at nothing else
unfoldable pub transition_of : ℕ → ℕ → ℕ → ℕ → Transition
transition_of word act p m =
    cond (eqb act try_act) (try_row word p m)
    (cond (eqb act test_act) (test_row word p m)
    (cond (eqb act set_act) (set_row word p m)
    (cond (eqb act check_act) (check_row word p m)
    (cond (eqb act crit_act) (crit_row word p m)
    (cond (eqb act exit_act) (exit_row word p m)
    (cond (eqb act reset_act) (reset_row word p m)
    (cond (eqb act rem_act) (rem_row word p m)
    (withdraw_row word p m))))))))

-- What an accepted action makes of the state

-- [3.50] [3.70] the state at the time m, with another word and other entries
abbrev pub changed : State → ℕ → ℕ → List Process → State
changed s m w qs = record { parameters = s.parameters; clock = m; word = w; processes = qs }

-- [3.0]
abbrev pub waited : State → ℕ → State
waited s m = changed s m s.word s.processes

-- [3.70] the entries with process p in another location
abbrev pub placed : State → ℕ → Location → List Process
placed s p l = set s.processes (p - 1) (entry l)

-- [3.70] the state after the row t of process p
abbrev pub moved : State → ℕ → ℕ → Transition → State
moved s p m t = changed s m t.word (placed s p t.to)

-- [3.70] the state after an accepted action
unfoldable pub effect : State → ℕ → ℕ → ℕ → State
effect s act p m = cond (eqb act wait_act) (waited s m) (moved s p m (transition_of s.word act p m))
