-- Section 8 of the specification: its statements hold of every list of calls from a fresh table. Assumes nothing.
use Prim.Native.Nat.{ℕ}
use mathlib.Core.Path.{◌≡◌, refl}
use mathlib.Core.List.{List, [], ◌∷◌}
use native.Mathlib.Omega.{arith}
use Rattle.model.specs.declared.Parameters.{Parameters}
use Rattle.model.specs.Types.{State}
use Rattle.model.specs.Types.{Outcome}
use Rattle.model.specs.Facts.{Accepted}
use Rattle.model.specs.Folds.{end_by, results_by}
use Rattle.model.specs.Calls.{Call, call_of, handed_on, table_of, run_of, results_of}
use Rattle.lists.specs.Demand3.{Span, OwedWithin, owed_wait, OneCritical, NamesTheOnly, EachNames, EveryList}
use Rattle.lists.specs.Demand3.{SoundIsNotEnough, EveryTableSound}
use Rattle.model.proofs.Tests.{if_eq}
use Rattle.model.proofs.Folds.{end_append}
use Rattle.theory.proofs.Soundness.{sound_iff_plain, two_critical_may_be_sound}
use Rattle.theory.proofs.OwnLimits.{largest_stands}
use Rattle.theory.proofs.Lowest.{accepted_tells}
use Rattle.lists.proofs.Exclusion.{one_owner}
use Rattle.lists.proofs.Wait.{Room}
use Rattle.lists.proofs.StateView.{view_of, lock_of, critical_owns, view_past}
use Rattle.lists.proofs.Calls.{Called, called}
use Rattle.lists.proofs.Reached.{parameters-stand, fresh_reached, run_reached}
use Rattle.lists.proofs.Guarded.{Guarded, fresh_guarded, call_guarded, run_guarded}
use Rattle.lists.proofs.Progress.{waits_unless_due, due_may_act}
use Rattle.lists.proofs.Spans.{wait_within}

-- The owed wait

-- the bound B leaves room wherever a span starts
abbrev LeavesRoom : Parameters → ℕ → Type 0
LeavesRoom k B = (s : State) (w : ℕ) (ds : List Call) → Guarded k s → Span s w ds → Room (lock_of k) (view_of s) w B

owed_within : {k : Parameters} {s : State} {B : ℕ} → LeavesRoom k B → Guarded k s → (ds : List Call) → OwedWithin B s ds
owed_within {s = s} {B = B} room g ds before during after w e span stays =
    let g' = run_guarded before g in
    rw (end_append call_of handed_on s before during) (wait_within B g' span stays (room (run_of s before) w during g' span))

-- 2c + 5a leaves room, with the largest a; as a < c, even 2c + 4a would
owed_room : {k : Parameters} → LeavesRoom k (owed_wait k)
owed_room {k} s w ds g span =
    let stand = parameters-stand g.reached in
    omega (arith, stand.limits, largest_stands k stand, view_past g.reached.sound w)

-- One critical process

pub one_critical : {k : Parameters} {s : State} → Guarded k s → OneCritical s
one_critical g i j h l = one_owner g.inv i j (critical_owns h) (critical_owns l)

names_the_only : {s : State} {d : Call} {o : Outcome} → Called s d o → OneCritical o.state → Accepted o → NamesTheOnly o
names_the_only {s} {d} (Called.accepted a) one _ =
    let tells = accepted_tells s d.action d.process d.time a in
    record {
      critical = λ n. (tells.some n).critical;
      only = λ i h. if_eq _ 0 (λ e. absurd (tells.none.0 e i h)) (λ n. one i _ h (tells.some n).critical);
    }
names_the_only (Called.refused n _) one a = absurd (n a)

each_names : {k : Parameters} {s : State} (ds : List Call) → Guarded k s → EachNames (results_of s ds)
unfolding results_by
each_names [] g = tt
each_names {s = s} (d ∷ ds) g =
    let g' = call_guarded d g in
    (names_the_only (called s d) (one_critical g'), each_names {s = table_of s d} ds g')

-- The whole

pub every_list : EveryList
every_list s fresh ds =
    let g = fresh_guarded fresh in
    let g' = run_guarded ds g in
    record {
      results = refl;
      table = refl;
      owed = owed_within owed_room g ds;
      one = one_critical g';
      names = each_names ds g;
      waits = waits_unless_due (run_of s ds) g'.reached.sound;
      acts = due_may_act (run_of s ds) g'.reached.sound;
    }

pub sound_is_not_enough : SoundIsNotEnough
unfolding end_by
sound_is_not_enough every =
    let witness = two_critical_may_be_sound in
    let one : OneCritical witness.0 = (every witness.0 ((sound_iff_plain witness.0).1 witness.1.sound) []).one in
    let same : ◌≡◌ {A = ℕ} 1 2 = one 1 2 witness.1.first witness.1.second in
    omega arith

pub every_table_sound : EveryTableSound
every_table_sound s fresh ds = (sound_iff_plain (run_of s ds)).1 (run_reached ds (fresh_reached fresh)).sound
