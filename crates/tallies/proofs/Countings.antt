-- How a step changes the counts of a summary, by the kinds of acts: they stay those of the log, and entries are exits and critical
-- processes. For the tally `accepted_counted` is taken apart here. Assumes nothing.
use Prim.Native.Nat.{ℕ, ◌+◌, ◌≤◌}
use mathlib.Core.Path.{◌≡◌, refl}
use mathlib.Core.List.{List, ◌∷◌}
use native.Mathlib.Omega.{arith}
use borrow.Author.Tests.{ne_eqb, le-leb}
use Rattle.model.specs.Types.{Location}
use Rattle.model.specs.Types.{State}
use Rattle.model.specs.declared.Statistics.{Statistics}
use Rattle.model.specs.Acts.{crit_act}
use Rattle.model.specs.Summaries.{wait_of, accepted_counted, refused_counted}
use Rattle.model.specs.Tallies.{Attempt, attempt, is_accepted, is_refused, is_entry, is_exit, count_of, wait_after, longest_wait, last_try, longest_passage}
use Rattle.theory.proofs.Steps.{Refuses}
use Rattle.tallies.proofs.CountLaws.{weight}
use Rattle.tallies.proofs.ActKinds.{Plain, plain_tests, Kind}
use Rattle.tallies.proofs.Logs.{Unmarked, skipped, refused_unmarked}

-- its counts and its longest wait are those of the log, and that is no longer than the longest time from a try to its entry
pub record Counted (log : List Attempt) (x : Statistics) : Type 0 where
  pub accepted : x.counts.accepted ≡ count_of is_accepted log
  pub refused : x.counts.refused ≡ count_of is_refused log
  pub entries : x.counts.entries ≡ count_of is_entry log
  pub exits : x.counts.exits ≡ count_of is_exit log
  pub longest : x.counts.longest ≡ longest_wait log
  pub within : x.counts.longest ≤ longest_passage log

-- The answer 3

pub filled_counted : {log : List Attempt} {x : Statistics} (act p m : ℕ) → Counted log x → Counted (attempt act p m 3 ∷ log) x
unfolding count_of longest_wait longest_passage
filled_counted act p m c = omega arith

-- A refused act

pub refused-counted : {log : List Attempt} {x : Statistics} (act p m : ℕ) {code : ℕ} → Refuses code → Counted log x
    → Counted (attempt act p m code ∷ log) (refused_counted x)
unfolding count_of
refused-counted {log} act p m {code} h c =
    let f = ne_eqb code 0 (omega arith) in
    let s = skipped (attempt act p m code) log (refused_unmarked f) in
    record {
      accepted = rw f (omega arith);
      refused = rw (le-leb 4 code h.some, le-leb code 10 h.most) (omega arith);
      entries = omega arith;
      exits = omega arith;
      longest = omega arith;
      within = omega arith;
    }

-- An accepted act

plain_unmarked : (p m : ℕ) {act : ℕ} → Plain act → Unmarked (attempt act p m 0)
plain_unmarked p m h = let t = plain_tests h in record { no_entry = t.no_crit; no_exit = t.no_exit }

module _ (s : State) (x : Statistics) (p m : ℕ) where
  -- entries are exits and critical processes, `count` before the act and `count'` after it
  pub accepted_balance : {act : ℕ} {l l' : Location} (count count' : ℕ) → Kind m act l l'
      → count' + weight l ≡ count + weight l' → x.counts.entries ≡ x.counts.exits + count
      → (accepted_counted s x act p m).counts.entries ≡ (accepted_counted s x act p m).counts.exits + count'
  unfolding accepted_counted
  accepted_balance count count' Kind.try e b = omega arith
  accepted_balance count count' Kind.crit e b = omega arith
  accepted_balance count count' Kind.exit e b = omega arith
  accepted_balance count count' Kind.withdraw e b = omega arith
  accepted_balance count count' (Kind.other k a) e b = let t = plain_tests k in rw (t.no_crit, t.no_exit) (omega arith)

  -- a crit ends the wait that the log tells, and that is no more than the time since the try
  pub accepted-counted : (log : List Attempt) {act : ℕ} {l l' : Location} → Kind m act l l'
      → (act ≡ crit_act → (wait_of s x p m ≡ wait_after log p m) × (last_try p log + wait_after log p m ≤ m))
      → Counted log x → Counted (attempt act p m 0 ∷ log) (accepted_counted s x act p m)
  unfolding accepted_counted count_of longest_wait longest_passage
  accepted-counted log Kind.try wait c = omega arith
  accepted-counted log Kind.crit wait c = omega (arith, wait refl)
  accepted-counted log Kind.exit wait c = omega arith
  accepted-counted log Kind.withdraw wait c = omega arith
  accepted-counted log {act} (Kind.other k _) wait c =
      let t = plain_tests k in
      rw (t.no_crit, t.no_exit) (omega (arith, skipped (attempt act p m 0) log (plain_unmarked p m k)))
