-- What an attempt more makes of a log: one that was not accepted changes nothing that the log tells of waits, so that such attempts between
-- others count not; an accepted act is, to a process, a try, the end of its trying, or neither. Assumes nothing.
use Prim.Native.Nat.{ℕ, ◌+◌}
use mathlib.Core.Path.{◌≡◌, refl}
use mathlib.Core.Bool.{Bool, true, false}
use mathlib.Core.List.{List, [], ◌∷◌}
use native.Mathlib.Omega.{arith}
use Rattle.model.specs.Tallies.{Attempt, attempt, is_accepted, is_try, is_tried_out, is_entry, is_exit, count_of, clock_after, critical_after, trying_after}
use Rattle.model.specs.Tallies.{unused_after, unused_since, longest_wait, last_try, longest_passage, accepted_only}
use Rattle.tallies.specs.Tallies.{RefusedBetween}
use Rattle.model.proofs.Tests.{by_test}

-- No crit or exit

-- an attempt that is no accepted crit or exit
pub record Unmarked (e : Attempt) : Type 0 where
  pub no_entry : is_entry e ≡ false
  pub no_exit : is_exit e ≡ false

-- what it leaves as it was
pub record Skipped (e : Attempt) (log : List Attempt) : Type 0 where
  pub entries : count_of is_entry (e ∷ log) ≡ count_of is_entry log
  pub exits : count_of is_exit (e ∷ log) ≡ count_of is_exit log
  pub critical : critical_after (e ∷ log) ≡ critical_after log
  pub longest : longest_wait (e ∷ log) ≡ longest_wait log
  pub passage : longest_passage (e ∷ log) ≡ longest_passage log

pub skipped : (e : Attempt) (log : List Attempt) → Unmarked e → Skipped e log
unfolding count_of critical_after longest_wait longest_passage
skipped e log u = record {
  entries = rw u.no_entry (omega arith);
  exits = rw u.no_exit (omega arith);
  critical = rw (u.no_entry, u.no_exit);
  longest = rw u.no_entry;
  passage = rw u.no_entry;
}

-- Not accepted

pub refused_unmarked : {e : Attempt} → is_accepted e ≡ false → Unmarked e
refused_unmarked f = record { no_entry = rw f; no_exit = rw f }

-- what an attempt that was not accepted leaves as it was, beside what is skipped
pub record Unheard (e : Attempt) (log : List Attempt) : Type 0 where
  pub clock : clock_after (e ∷ log) ≡ clock_after log
  pub trying : (i : ℕ) → trying_after i (e ∷ log) ≡ trying_after i log
  pub since : (i : ℕ) → unused_since i (e ∷ log) ≡ unused_since i log
  pub tries : (i : ℕ) → last_try i (e ∷ log) ≡ last_try i log

pub unheard : (e : Attempt) (log : List Attempt) → is_accepted e ≡ false → Unheard e log
unfolding clock_after trying_after unused_since last_try
unheard e log f = record { clock = rw f; trying = λ i. rw f; since = λ i. rw f; tries = λ i. rw f }

-- Accepted, by what the act is to process i

-- what a log tells of it
pub record LogTells (log : List Attempt) (i : ℕ) (trying : Bool) (since last : ℕ) : Type 0 where
  pub trying_is : trying_after i log ≡ trying
  pub since_is : unused_since i log ≡ since
  pub last_is : last_try i log ≡ last

module _ (act p m : ℕ) (log : List Attempt) (i : ℕ) where
  abbrev this : Attempt
  this = attempt act p m 0

  pub try_tells : is_try i this ≡ true → LogTells (this ∷ log) i true 0 m
  unfolding trying_after unused_since last_try
  try_tells e = record { trying_is = rw e; since_is = rw e; last_is = rw e }

  pub out_tells : is_try i this ≡ false → is_tried_out i this ≡ true
      → LogTells (this ∷ log) i false (unused_since i log + unused_after log m) (last_try i log)
  unfolding trying_after unused_since last_try
  out_tells e f = record { trying_is = rw (e, f); since_is = rw e; last_is = rw e }

  pub other_tells : is_try i this ≡ false → is_tried_out i this ≡ false
      → LogTells (this ∷ log) i (trying_after i log) (unused_since i log + unused_after log m) (last_try i log)
  unfolding trying_after unused_since last_try
  other_tells e f = record { trying_is = rw (e, f); since_is = rw e; last_is = rw e }

-- A log without what was not accepted

-- it tells the same
record SameTold (l log : List Attempt) : Type 0 where
  clock : clock_after l ≡ clock_after log
  critical : critical_after l ≡ critical_after log
  trying : (i : ℕ) → trying_after i l ≡ trying_after i log
  since : (i : ℕ) → unused_since i l ≡ unused_since i log
  longest : longest_wait l ≡ longest_wait log

same_next : (e : Attempt) {l log : List Attempt} → SameTold l log → SameTold (e ∷ l) (e ∷ log)
unfolding clock_after critical_after trying_after unused_since longest_wait
same_next e h = record {
  clock = rw h.clock;
  critical = rw h.critical;
  trying = λ i. rw (h.trying i);
  since = λ i. rw (h.since i, h.critical, h.clock);
  longest = rw (h.longest, h.since e.process, h.critical, h.clock);
}

accepted_same : (log : List Attempt) → SameTold (accepted_only log) log
unfolding accepted_only
accepted_same [] = record { clock = refl; critical = refl; trying = λ i. refl; since = λ i. refl; longest = refl }
accepted_same (e ∷ log) =
    let h = accepted_same log in
    by_test (is_accepted e)
    (λ t. rw t (same_next e h))
    (λ f.
    let s = skipped e log (refused_unmarked f) in
    let u = unheard e log f in
    rw f (record {
      clock = rw u.clock h.clock;
      critical = rw s.critical h.critical;
      trying = λ i. rw (u.trying i) (h.trying i);
      since = λ i. rw (u.since i) (h.since i);
      longest = rw s.longest h.longest;
    }))

pub refused_between : RefusedBetween
refused_between log =
    let h = accepted_same log in
    record {
      trying = h.trying;
      since = h.since;
      wait = λ p m. rw (h.since p, h.critical, h.clock);
      longest = h.longest;
    }
