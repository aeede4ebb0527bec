-- `local_log::shift_between` meets its contract: the bounds of d and e, the actions, and then the differences of the times or only their
-- bounds. Assumes nothing.
use Rattle.std.proofs.Common.{◌≡◌, ◌≤◌, List, take, Some, sym, ap, ◌∙◌, arith}
use Rattle.local_log.specs.Comparisons.{Entry, entries_of, most_shift, times_in, actions_in, SameActions}
use Rattle.local_log.specs.Formulas.{in_time, same_numbers}
use Rattle.local_log.specs.Passes.{pass_of}
use Rattle.std.proofs.lemmas.Result.{err_from_is_err_and}
use Rattle.model.specs.declared.Refusal.TheVariants as refusal
use Rattle.local_log.proofs.Worked.{same_iff}
use Rattle.local_log.proofs.Entries.{times-of, actions-of}
use Rattle.local_log.proofs.Compared.{past_range, past_tolerance, past_local, past_other, not_same, past_place, all_places}
use Rattle.local_log.proofs.shift_between.Goals.{After-same_numbers, After-find_differences}
use Rattle.local_log.proofs.shift_between.Goals.{then-d-gt-MOST-via-then-d-gt-MOST, then-d-gt-MOST-via-else-d-gt-MOST+then-e-gt-MOST}
use Rattle.local_log.proofs.shift_between.Goals.{else-in_time-via-then-in_time+else-in_time-2, else-in_time-via-else-in_time}
use Rattle.local_log.proofs.shift_between.Goals as goal

-- Where their actions have been compared
module _ (c : After-same_numbers) where
  abbrev local : List Entry
  local = entries_of c.args.stamps.now c.args.claims.now

  abbrev other : List Entry
  other = entries_of c.args.times.now c.args.actions.now

  range : c.args.d ≤ most_shift
  range = omega (arith, c.if-d-gt-MOST.false)

  tolerance : c.args.e ≤ most_shift
  tolerance = omega (arith, c.if-e-gt-MOST.false)

  -- the parts of the lists that are lent are the logs
  local_times : take c.min-local_count.result c.args.stamps.now ≡ times_in local
  local_times = rw c.min-local_count.ensures (sym (times-of c.args.stamps.now c.args.claims.now))

  other_times : take c.min-count.result c.args.times.now ≡ times_in other
  other_times = rw c.min-count.ensures (sym (times-of c.args.times.now c.args.actions.now))

  local-actions : take c.min-local_count.result c.args.claims.now ≡ actions_in local
  local-actions = rw c.min-local_count.ensures (sym (actions-of c.args.stamps.now c.args.claims.now))

  other_actions : take c.min-count.result c.args.actions.now ≡ actions_in other
  other_actions = rw c.min-count.ensures (sym (actions-of c.args.times.now c.args.actions.now))

  told-same : c.same_numbers.result ≡ same_numbers (actions_in local) (actions_in other)
  told-same = rw (local-actions, other_actions) at c.same_numbers.ensures

-- Where they are the same
module _ (c : After-find_differences) where
  abbrev looked : After-same_numbers
  looked = (goal.at-After-find_differences c).After-same_numbers

  same : SameActions (local looked) (other looked)
  same = (same_iff _ _).0 (sym (told-same looked) ∙ c.if-same_numbers.true)

  found : c.find_differences.result ≡ pass_of (times_in (local looked)) (times_in (other looked))
  found = rw (local_times looked, other_times looked) at c.find_differences.ensures

pub returns-then-d-gt-MOST : goal.returns-then-d-gt-MOST
returns-then-d-gt-MOST c =
    elim c.then-d-gt-MOST.branch [
      | then-d-gt-MOST-via-then-d-gt-MOST w ↦ past_range _ _ _ _ w.if-d-gt-MOST.true
      | then-d-gt-MOST-via-else-d-gt-MOST+then-e-gt-MOST w ↦ past_tolerance _ _ _ _ w.if-e-gt-MOST.true
    ]

pub returns-in_err-found : goal.returns-in_err-found
returns-in_err-found c =
    let f = (goal.at.returns-in_err-found c).After-find_differences in
    let l = looked f in
    let none = c.in_err-found.ensures.ok_part in
    let past : c.in_err-found.field-0.0 ≡ refusal.PastBounds = cc (rw none at c.in_err-found.ensures.value) in
    let p = err_from_is_err_and c.from_residual.result c.from_residual.ensures.1 in
    rw (p.1, p.2, past) (past_place c.args.d c.args.e (local l) (other l) (range l) (tolerance l) (same f) (sym (found f) ∙ none))

pub bounded-requires-clause-smallest_le_twice : goal.bounded-requires-clause-smallest_le_twice
bounded-requires-clause-smallest_le_twice c =
    let f = (goal.at.bounded-requires-clause-smallest_le_twice c).After-find_differences in
    let l = looked f in
    let some : c.find_differences.result ≡ Some c.in_ok-found.found = grind arith in
    (all_places c.args.d c.args.e (local l) (other l) (range l) (tolerance l) (same f) (sym (found f) ∙ some)).0

pub returns-then-same_numbers : goal.returns-then-same_numbers
returns-then-same_numbers c =
    let f = (goal.at.returns-then-same_numbers c).After-find_differences in
    let l = looked f in
    let some : c.find_differences.result ≡ Some c.in_ok-found.found = grind arith in
    rw c.bounded.ensures (all_places c.args.d c.args.e (local l) (other l) (range l) (tolerance l) (same f) (sym (found f) ∙ some)).1

pub returns-then-in_time-2 : goal.returns-then-in_time-2
returns-then-in_time-2 c =
    let l = (goal.at.returns-then-in_time-2 c).After-same_numbers in
    let t = ap in_time (sym (local_times l)) ∙ sym c.in_time.ensures ∙ c.if-in_time.true in
    let u = ap in_time (sym (other_times l)) ∙ sym c.in_time-then-in_time.ensures ∙ c.if-in_time-2.true in
    not_same c.args.d c.args.e (local l) (other l) (range l) (tolerance l) (sym (told-same l) ∙ c.if-same_numbers.false) t u

pub returns-else-in_time : goal.returns-else-in_time
returns-else-in_time c =
    let l = (goal.at.returns-else-in_time c).After-same_numbers in
    elim c.else-in_time.branch [
      | else-in_time-via-then-in_time+else-in_time-2 w ↦
          past_other c.args.d c.args.e (local l) (other l)
          (ap in_time (sym (other_times l)) ∙ sym w.in_time-then-in_time.ensures ∙ w.if-in_time-2.false)
      | else-in_time-via-else-in_time w ↦
          past_local c.args.d c.args.e (local l) (other l) (ap in_time (sym (local_times l)) ∙ sym c.in_time.ensures ∙ w.if-in_time.false)
    ]
