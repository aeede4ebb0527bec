-- The tests by which the definitions know an accepted crit and an accepted exit, and what they say. Assumes nothing.
use mathlib.Core.Path.{◌≡◌}
use mathlib.Core.Bool.{true, false}
use native.Mathlib.Omega.{arith}
use borrow.Author.Tests.{eq-eqb}
use Rattle.model.specs.Acts.{crit_act, exit_act}
use Rattle.model.specs.Tallies.{Attempt, is_entry, is_exit}
use Rattle.model.proofs.Tests.{by_test, tests}
use Rattle.intervals.specs.Runs.{AcceptedCrit, AcceptedExit}

module _ {e : Attempt} where
  pub entry_true : AcceptedCrit e → is_entry e ≡ true
  entry_true h = rw (eq-eqb _ 0 h.accepted, eq-eqb _ crit_act h.crit)

  pub exit_true : AcceptedExit e → is_exit e ≡ true
  exit_true h = rw (eq-eqb _ 0 h.accepted, eq-eqb _ exit_act h.exit)

  entry_tells : is_entry e ≡ true → AcceptedCrit e
  entry_tells t = let h = simp tests at t in record { accepted = h.0; crit = h.1 }

  exit_tells : is_exit e ≡ true → AcceptedExit e
  exit_tells t = let h = simp tests at t in record { accepted = h.0; exit = h.1 }

  pub entry_false : (AcceptedCrit e → ⊥) → is_entry e ≡ false
  entry_false n = by_test (is_entry e) (λ t. absurd (n (entry_tells t))) (λ f. f)

  pub exit_false : (AcceptedExit e → ⊥) → is_exit e ≡ false
  exit_false n = by_test (is_exit e) (λ t. absurd (n (exit_tells t))) (λ f. f)

  -- no act is both
  pub leaves_not_enters : AcceptedExit e → AcceptedCrit e → ⊥
  leaves_not_enters l h = omega (arith, l.exit, h.crit)
