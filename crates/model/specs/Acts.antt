-- The numbers of the actions, the last of them, and the stage that each leaves. No other definition has such a number. Assumes
-- nothing.
use Rattle.std.specs.Prelude.{ℕ, cond, eqb}
use Rattle.model.specs.Stages.{remainder, testing, setting, checking, entering, critical, resetting, leaving}

-- [3.0]
abbrev pub wait_act : ℕ
wait_act = 0

-- [3.1]
abbrev pub try_act : ℕ
try_act = 1

-- [3.2]
abbrev pub test_act : ℕ
test_act = 2

-- [3.3]
abbrev pub set_act : ℕ
set_act = 3

-- [3.4]
abbrev pub check_act : ℕ
check_act = 4

-- [3.5]
abbrev pub crit_act : ℕ
crit_act = 5

-- [3.6]
abbrev pub exit_act : ℕ
exit_act = 6

-- [3.7]
abbrev pub reset_act : ℕ
reset_act = 7

-- [3.8]
abbrev pub rem_act : ℕ
rem_act = 8

-- [3.9]
abbrev pub withdraw_act : ℕ
withdraw_act = 9

-- [3.40] the last
abbrev pub last_act : ℕ
last_act = withdraw_act

-- [3.1] [3.2] [3.3] [3.4] [3.5] [3.6] [3.7] [3.8] [3.9] the stage that an action from `try_act` on leaves
unfoldable pub leaves : ℕ → ℕ
leaves act =
    cond (eqb act try_act) remainder
    (cond (eqb act test_act) testing
    (cond (eqb act set_act) setting
    (cond (eqb act check_act) checking
    (cond (eqb act crit_act) entering
    (cond (eqb act exit_act) critical
    (cond (eqb act reset_act) resetting
    (cond (eqb act rem_act) leaving
    testing)))))))
