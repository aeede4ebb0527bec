-- A state as plain numbers, its view, and an accepted act on it, a move. The invariants and the owed wait rest on what is said here
-- of views and moves, and on nothing else of a state. Assumes nothing.
use Prim.Native.Nat.{ℕ, ◌+◌, ◌≤◌, ◌<◌}
use mathlib.Core.Path.{◌≡◌, sym, subst}
use mathlib.Core.Logic.{◌≢◌}
use Rattle.model.specs.Acts.{crit_act, withdraw_act}
use Rattle.model.proofs.Tests.{if_eq}
use Rattle.lists.proofs.Ranks.{at_remainder, at_testing, at_setting, at_checking, at_entering, at_critical, at_resetting, at_leaving}

-- Views

-- the limits
pub record Lock : Type 0 where
  -- the largest a
  pub a : ℕ
  pub b : ℕ
  pub c : ℕ
  -- the longest time from a check that finds its own word to the critical place
  pub tail : ℕ

-- process j, from 1, is at the place of rank `rank j` since the time `since j`; 0 is no process, and is always in remainder
pub record View : Type 0 where
  pub clock : ℕ
  pub word : ℕ
  pub rank : ℕ → ℕ
  pub since : ℕ → ℕ

-- of a fresh table
pub record Fresh (x : View) : Type 0 where
  pub word : x.word ≡ 0
  pub all : (j : ℕ) → x.rank j ≡ at_remainder

-- Conditions of a process

-- it has found the word its own, and has not yet freed it
pub record Owns (x : View) (i : ℕ) : Type 0 where
  pub low : at_entering ≤ x.rank i
  pub high : x.rank i ≤ at_resetting

-- it is about to write the word
pub record Sets (x : View) (j : ℕ) : Type 0 where
  pub at : x.rank j ≡ at_setting

-- its deadline is c after its arrival
pub record Checks (x : View) (j : ℕ) : Type 0 where
  pub at : x.rank j ≡ at_checking

-- its deadline is at most a after its arrival
pub record Short (x : View) (j : ℕ) : Type 0 where
  pub not_remainder : x.rank j ≢ at_remainder
  pub not_checking : x.rank j ≢ at_checking
  pub not_critical : x.rank j ≢ at_critical

-- Moves

-- a process that the act does not touch
pub record Same (x y : View) (j : ℕ) : Type 0 where
  pub rank : y.rank j ≡ x.rank j
  pub since : y.since j ≡ x.since j

-- what an act of process p at the time m tells, by where p comes to in y and by the word in y
pub record Comes (x y : View) (p m : ℕ) : Type 0 where
  pub to_set : Sets y p → (x.rank p ≡ at_testing) × (x.word ≡ 0) × (y.word ≡ 0)
  pub to_own : Owns y p → (at_checking ≤ x.rank p) × (x.rank p ≤ at_critical) × (y.word ≡ x.word)
  pub arrival : y.rank p ≢ at_remainder → y.rank p ≢ at_critical → y.since p ≡ m
  pub own_word : y.word ≡ p → y.rank p ≢ at_checking → x.word ≡ p
  pub other_word : (k : ℕ) → k ≢ p → 0 < k → y.word ≡ k → x.word ≡ k

-- what it makes of p and of the word, by where p is in x; from testing a withdraw leads out of the line
pub record Goes (x y : View) (act p : ℕ) : Type 0 where
  pub test_free : act ≢ withdraw_act → x.rank p ≡ at_testing → x.word ≡ 0 → y.rank p ≡ at_setting
  pub test_taken : act ≢ withdraw_act → x.rank p ≡ at_testing → x.word ≢ 0 → y.rank p ≡ at_testing
  pub set : x.rank p ≡ at_setting → (y.rank p ≡ at_checking) × (y.word ≡ p)
  pub check_own : x.rank p ≡ at_checking → x.word ≡ p → y.rank p ≡ at_entering
  pub check_other : x.rank p ≡ at_checking → x.word ≢ p → y.rank p ≡ at_testing
  pub own_on : x.word ≡ p → at_checking ≤ x.rank p → x.rank p ≤ at_critical → (x.rank p < y.rank p) × (y.rank p ≤ at_resetting)
  pub reset : x.rank p ≡ at_resetting → (y.rank p ≡ at_leaving) × (y.word ≡ 0)
  pub word_stays : x.rank p ≢ at_setting → x.rank p ≢ at_resetting → y.word ≡ x.word

-- an accepted act of process p at the time m; a wait is one of 0, which stays in remainder
pub record Move (x y : View) (act p m : ℕ) : Type 0 where
  pub forward : x.clock ≤ m
  pub clock_is : y.clock ≡ m
  pub past : (j : ℕ) → x.since j ≤ x.clock
  pub comes : Comes x y p m
  pub goes : Goes x y act p
  pub others : (j : ℕ) → j ≢ p → Same x y j
  pub nobody : y.rank 0 ≡ at_remainder
  pub is_crit : x.rank p ≡ at_entering → act ≡ crit_act

-- of every process: of the one that acts, and of one that does not
pub split : {x y : View} {act p m : ℕ} → Move x y act p m → {P : ℕ → Type 0}
    → P p → ((j : ℕ) → j ≢ p → Same x y j → P j) → (j : ℕ) → P j
split {p = p} move {P} own others j = if_eq j p (λ e. subst P (sym e) own) (λ n. others j n (move.others j n))

-- Times, apart from the move

-- no deadline is before the time m
pub record Timely (L : Lock) (x : View) (m : ℕ) : Type 0 where
  pub short : (j : ℕ) → Short x j → m ≤ x.since j + L.a
  pub long : (j : ℕ) → Checks x j → m ≤ x.since j + L.c

-- an act of process p at the time m keeps the limits
pub record Kept (L : Lock) (x : View) (p m : ℕ) : Type 0 where
  pub timely : Timely L x m
  pub released : x.rank p ≡ at_checking → x.since p + L.b ≤ m
