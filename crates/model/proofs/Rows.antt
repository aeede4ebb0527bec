-- The rows of the table of section 3 of the specification: each leaves the stage that its action leaves. Assumes nothing.
use Prim.Native.Nat.{ℕ}
use mathlib.Core.Path.{◌≡◌, refl}
use mathlib.Core.Bool.{Bool, true, false, cond}
use lib.Dec.{eqb}
use Rattle.model.specs.declared.Transition.{Transition}
use Rattle.model.specs.Acts.{try_act, test_act, set_act, check_act, crit_act, exit_act, reset_act, rem_act, leaves}
use Rattle.model.specs.Actions.{transition_of}

-- a row leaves a stage
record Leaves (t : Transition) (stage : ℕ) : Type 0 where
  from_is : t.from ≡ stage

-- rows and stages are chosen by the same test
either : (b : Bool) {t u : Transition} {x y : ℕ} → Leaves t x → Leaves u y → Leaves (cond b t u) (cond b x y)
either true h k = h
either false h k = k

-- a row that is said by its action
stands : {t : Transition} {x : ℕ} → t.from ≡ x → Leaves t x
stands e = record { from_is = e }

rows_leave : (word act p m : ℕ) → Leaves (transition_of word act p m) (leaves act)
unfolding transition_of leaves
rows_leave word act p m =
    either (eqb act try_act) (stands refl) (either (eqb act test_act) (stands refl) (either (eqb act set_act) (stands refl)
    (either (eqb act check_act) (stands refl) (either (eqb act crit_act) (stands refl) (either (eqb act exit_act) (stands refl)
    (either (eqb act reset_act) (stands refl) (either (eqb act rem_act) (stands refl) (stands refl))))))))

pub row_leaves : (word act p m : ℕ) → (transition_of word act p m).from ≡ leaves act
row_leaves word act p m = (rows_leave word act p m).from_is
