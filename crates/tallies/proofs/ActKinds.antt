-- The accepted acts as the summary tells them apart: a try, a crit, an exit, a withdraw, and another. The acts are split here, so that
-- the laws of the summary have five cases. Assumes nothing.
use Prim.Native.Nat.{ℕ, ◌+◌, ◌-◌, ◌≤◌, ◌<◌}
use mathlib.Core.Path.{◌≡◌, refl, sym, ap, ◌∙◌}
use mathlib.Core.Logic.{◌⊎◌, inl, inr, ◌≢◌}
use mathlib.Core.Bool.{true, false}
use native.Mathlib.Omega.{arith}
use lib.Dec.{eqb}
use lib.ListN.{length, set, length-set}
use lib.Seq.{ext_get_or, get_or-set_same, get_or-set_other}
use borrow.Author.Tests.{ne_eqb}
use Rattle.model.specs.Types.{Location}
use Rattle.model.specs.declared.Location.TheVariants.{Remainder, Testing, Entering, Critical, Resetting}
use Rattle.model.specs.Types.{Process}
use Rattle.model.specs.Types.{State}
use Rattle.model.specs.Acts.{wait_act, try_act, test_act, set_act, check_act, crit_act, exit_act, reset_act, rem_act, withdraw_act}
use Rattle.model.specs.States.{idle, trying, entry_of}
use Rattle.model.specs.Tallies.{critical_count}
use Rattle.theory.specs.Acceptance.{From, Effect, Waits, Acts, Changed}
use Rattle.theory.specs.Summaries.{Clears}
use Rattle.model.proofs.Tests.{if_eq}
use Rattle.theory.proofs.Rows.{from_ready}
use Rattle.theory.proofs.Entries.{entry_at}
use Rattle.tallies.proofs.CountLaws.{weight, count_set}

-- The kinds

-- an act that changes no count but that of the accepted acts, and that neither starts nor ends a wait
pub record Plain (act : ℕ) : Type 0 where
  pub not_try : act ≢ try_act
  pub not_crit : act ≢ crit_act
  pub not_exit : act ≢ exit_act
  pub not_withdraw : act ≢ withdraw_act

-- the tests of such an act
pub record PlainTests (act : ℕ) : Type 0 where
  pub no_try : eqb act try_act ≡ false
  pub no_crit : eqb act crit_act ≡ false
  pub no_exit : eqb act exit_act ≡ false
  pub no_withdraw : eqb act withdraw_act ≡ false

pub plain_tests : {act : ℕ} → Plain act → PlainTests act
plain_tests h = record {
  no_try = ne_eqb _ try_act h.not_try;
  no_crit = ne_eqb _ crit_act h.not_crit;
  no_exit = ne_eqb _ exit_act h.not_exit;
  no_withdraw = ne_eqb _ withdraw_act h.not_withdraw;
}

pub plain_clears : {act : ℕ} → Plain act → Clears act → ⊥
plain_clears h Clears.try = h.not_try refl
plain_clears h Clears.crit = h.not_crit refl
plain_clears h Clears.withdraw = h.not_withdraw refl

-- a move that does not lead into trying or out of it, nor into critical or out of it
pub record Alike (l l' : Location) : Type 0 where
  pub weighs : weight l' ≡ weight l
  pub tries : trying l' ≡ trying l

-- an act of a process at the time m, by where the process was and where it is after
pub data Kind (m : ℕ) : ℕ → Location → Location → Type 0 where
  try : Kind m try_act Remainder (Testing m)
  crit : {t : ℕ} → Kind m crit_act (Entering t) Critical
  exit : Kind m exit_act Critical (Resetting m)
  withdraw : {t : ℕ} → Kind m withdraw_act (Testing t) Remainder
  other : {act : ℕ} {l l' : Location} → Plain act → Alike l l' → Kind m act l l'

act_kind : {b p m act w w' : ℕ} {l l' : Location} → From b m act l → Effect p m act w l' w' → Kind m act l l'
act_kind From.try Effect.try = try
act_kind From.test Effect.test_free = other {act = test_act} (omega arith) (record { weighs = refl; tries = refl })
act_kind From.test (Effect.test_taken _) = other {act = test_act} (omega arith) (record { weighs = refl; tries = refl })
act_kind From.set Effect.set = other {act = set_act} (omega arith) (record { weighs = refl; tries = refl })
act_kind (From.check _) Effect.check_own = other {act = check_act} (omega arith) (record { weighs = refl; tries = refl })
act_kind (From.check _) (Effect.check_other _) = other {act = check_act} (omega arith) (record { weighs = refl; tries = refl })
act_kind From.crit Effect.crit = crit
act_kind From.exit Effect.exit = exit
act_kind From.reset Effect.reset = other {act = reset_act} (omega arith) (record { weighs = refl; tries = refl })
act_kind From.rem Effect.rem = other {act = rem_act} (omega arith) (record { weighs = refl; tries = refl })
act_kind From.withdraw Effect.withdraw = withdraw

-- a crit is of a process that is trying
pub crit_tries : {m act : ℕ} {l l' : Location} → Kind m act l l' → act ≡ crit_act → trying l ≡ true
crit_tries try e = absurd (omega arith)
crit_tries crit e = refl
crit_tries exit e = absurd (omega arith)
crit_tries withdraw e = absurd (omega arith)
crit_tries (other h _) e = absurd (h.not_crit e)

-- Whose act it is

pub turn_some : {s : State} {act p m : ℕ} → Waits act p ⊎ Acts s act p m → act ≢ wait_act → 1 ≤ p
turn_some (inl w) n = absurd (n w.wait)
turn_some (inr a) n = a.some

-- The state after an act

stays_kind : {m act : ℕ} {q q' : Process} → Plain act → q' ≡ q → Kind m act q.location q'.location
stays_kind {act = act} h e = rw e (other {act = act} h (record { weighs = refl; tries = refl }))

module _ {s s' : State} {act p m : ℕ} (changed : Changed s act p m s') where
  -- a wait is told as an act of process 0; `entry_of` gives 0, which is no process, the entry of process 1, and that stays
  pub turn_kind : Waits act p ⊎ Acts s act p m → Kind m act (entry_of s p).location (entry_of s' p).location
  unfolding entry_of
  turn_kind (inl w) = stays_kind (omega arith) (rw w.nobody (changed.others_stay 1 (omega arith) (omega arith)))
  turn_kind (inr a) = act_kind a.from (changed.effect (from_ready a.from).not_wait)

  -- one entry takes the place of another
  next_entries : p - 1 < length s.processes → s'.processes ≡ set s.processes (p - 1) (entry_of s' p)
  unfolding entry_of
  next_entries h = ext_get_or idle _ _ (changed.size_stays ∙ simp length-set)
      (λ i _. if_eq i (p - 1)
      (λ e. rw e (sym (get_or-set_same s.processes (p - 1) _ idle h)))
      (λ n. rw (get_or-set_other s.processes (p - 1) i _ idle n)
      (sym (entry_at s' i) ∙ changed.others_stay (i + 1) (omega arith) (omega arith) ∙ entry_at s i)))

  pub next_count : p - 1 < length s.processes
      → critical_count s'.processes + weight (entry_of s p).location
      ≡ critical_count s.processes + weight (entry_of s' p).location
  unfolding entry_of
  next_count h = omega (arith, ap critical_count (next_entries h), count_set s.processes (p - 1) (entry_of s' p) h)
