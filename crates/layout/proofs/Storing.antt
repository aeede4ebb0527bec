-- What an action stores is what it changes: the clock, the word and the entry of its process in the numbers of a table, the counts and
-- the waits so far in those of a summary. Assumes nothing.
use Rattle.std.proofs.Common.{◌≡◌, ℕ, zero, suc, ◌+◌, ◌-◌, ◌*◌, List, [], ◌∷◌, ◌++◌, length, set, sym, refl, ap, ◌∙◌, arith}
use Rattle.model.specs.Types.{Location}
use Rattle.model.specs.Types.{Process}
use Rattle.model.specs.declared.Parameters.{Parameters}
use Rattle.model.specs.Types.{State}
use Rattle.model.specs.declared.Transition.{Transition}
use Rattle.model.specs.declared.Counts.{Counts}
use Rattle.model.specs.declared.Statistics.{Statistics}
use Rattle.model.specs.States.{entry, stage_of, since_of}
use Rattle.model.specs.Actions.{waited, moved}
use Rattle.model.specs.Summaries.{counts_numbers, statistics_of, one_refused, waited_on, refused_counted}
use Rattle.layout.specs.Encodings.{stride, stage_place, since_place, process_numbers, header_numbers, state_numbers}
use Rattle.layout.specs.Encodings.{refused_place, waited_place, statistics_numbers}
use Rattle.layout.specs.Places.{clocked, placed_at, counts_put}
use Rattle.layout.specs.Countings.{waited_put}
use Rattle.layout.proofs.Lists.{set_behind}
use Rattle.layout.proofs.Numbers.{stored_behind}

-- A table

-- an entry among the processes is its pair among their numbers
entries_set : (qs : List Process) (i : ℕ) (q : Process)
    → process_numbers (set qs i q)
    ≡ set (set (process_numbers qs) (stride * i) (stage_of q.location)) (stride * i + 1) (since_of q.location)
unfolding process_numbers
entries_set [] i q = refl
entries_set (r ∷ qs) zero q = refl
entries_set (r ∷ qs) (suc i) q =
    let e : stride * suc i ≡ suc (suc (stride * i)) = omega arith in
    let f : stride * suc i + 1 ≡ suc (suc (stride * i + 1)) = omega arith in
    rw (f, e, entries_set qs i q)

module _ (k : Parameters) (size : length k.a ≡ 96) (clock word : ℕ) where
  abbrev header : List ℕ
  header = header_numbers k clock word

  -- an entry stored behind what stands before the entries is stored among them
  placed_behind : (qs : List Process) (i : ℕ) (to : Location)
      → placed_at (header ++ process_numbers qs) i to ≡ header ++ process_numbers (set qs i (entry to))
  placed_behind qs i to =
      let ns = process_numbers qs in
      ap (λ (l : List ℕ). set l (since_place i) (since_of to)) (stored_behind k size clock word ns (stage_place i) (stride * i) (stage_of to) refl)
      ∙ stored_behind k size clock word (set ns (stride * i) (stage_of to)) (since_place i) (stride * i + 1) (since_of to) (omega arith)
      ∙ ap (λ (l : List ℕ). header ++ l) (sym (entries_set qs i (entry to)))

-- with process p in another location, which stands in the row t
pub moved_stored : (s : State) → length s.parameters.a ≡ 96 → (p m : ℕ) (t : Transition)
    → state_numbers (moved s p m t) ≡ placed_at (clocked (state_numbers s) m t.word) (p - 1) t.to
unfolding state_numbers
moved_stored s size p m t = sym (placed_behind s.parameters size m t.word s.processes (p - 1) t.to)

-- after a wait
pub waited_stored : (s : State) (m : ℕ) → state_numbers (waited s m) ≡ clocked (state_numbers s) m s.word
unfolding state_numbers
waited_stored s m = refl

-- A summary

-- other counts
pub counts_stored : (x : Statistics) (k : Counts) → statistics_numbers (statistics_of k x.waited) ≡ counts_put (statistics_numbers x) k
unfolding statistics_numbers
counts_stored x k = refl

-- time that is added to the waits so far
pub waits_stored : (x : Statistics) (qs : List Process) (d : ℕ)
    → statistics_numbers (statistics_of x.counts (waited_on d qs x.waited)) ≡ waited_put (statistics_numbers x) qs d
unfolding statistics_numbers
waits_stored x qs d = refl

-- another wait so far
pub wait_stored : (x : Statistics) (i v : ℕ)
    → statistics_numbers (statistics_of x.counts (set x.waited i v)) ≡ set (statistics_numbers x) (waited_place i) v
unfolding statistics_numbers
wait_stored x i v = sym (set_behind (counts_numbers x.counts) x.waited i v)

-- another count of refused actions
pub refused_stored : (x : Statistics)
    → statistics_numbers (refused_counted x) ≡ set (statistics_numbers x) refused_place (one_refused x.counts).refused
unfolding statistics_numbers
refused_stored x = refl
