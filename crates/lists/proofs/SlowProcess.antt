-- A slow process that comes alone, computed. Assumes nothing.
use mathlib.Core.Path.{refl}
use mathlib.Core.Logic.{inl, inr}
use mathlib.Core.List.{[]}
use native.Mathlib.Omega.{arith}
use Rattle.model.specs.Acts.{try_act, leaves}
use Rattle.model.specs.States.{limits_in, own_stand, limits_stand, greatest, limit_at, entries_sound, sound_of, entry_of}
use Rattle.model.specs.Actions.{transition_of, effect}
use Rattle.model.specs.Answers.{first_by, first_deadline, critical_by, critical_of, step_of, fresh_of}
use Rattle.model.specs.Folds.{end_by, results_by}
use Rattle.model.specs.Calls.{call_of}
use Rattle.lists.specs.SlowProcess.{slow_table, slow_tries, slow_comes, SlowComesAlone}
use Rattle.theory.proofs.Lowest.{accepted_tells}

pub slow_comes_alone : SlowComesAlone
unfolding end_by results_by call_of step_of fresh_of sound_of limits_stand own_stand limits_in entries_sound first_deadline first_by entry_of leaves
    transition_of effect
    critical_of critical_by limit_at greatest
slow_comes_alone = record {
  fresh = record { parameters = slow_table.parameters; accepted = refl; is = refl };
  accepted = refl;
  bound = refl;
  too_short = λ owed. omega (
    arith,
    owed slow_tries slow_comes [] 2 refl (record {
      trying = record { from = omega arith; at = refl };
      none = (accepted_tells slow_table try_act 2 0 refl).none.0 refl;
      calls = inr (λ e. omega (arith, e.crit), inr (λ e. omega (arith, e.crit), inr (λ e. omega (arith, e.crit), inl refl)));
    }) (
      λ h. omega (arith, h.withdraw),
      (λ h. omega (arith, h.withdraw), (λ h. omega (arith, h.withdraw), (λ h. omega (arith, h.withdraw), tt))),
    ),
  );
}
