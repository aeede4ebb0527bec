-- What an action stores is what it changes: the clock, the word and the entry of its process in the numbers of a deadline table. Assumes nothing.
use Prim.Native.Nat.{ℕ, zero, suc, ◌+◌, ◌*◌}
use mathlib.Core.Path.{◌≡◌, refl, sym, ap, ◌∙◌}
use mathlib.Core.List.{List, [], ◌∷◌, ◌++◌}
use native.Mathlib.Omega.{arith}
use lib.ListN.{length, set}
use Rattle.model.specs.declared.Parameters.{Parameters}
use Rattle.layout.specs.Encodings.{header_numbers}
use Rattle.layout.specs.Places.{clocked}
use Rattle.layout.proofs.Numbers.{stored_behind}
use Rattle.deadlines.specs.Types.{DeadlineLocation}
use Rattle.deadlines.specs.Types.{DeadlineProcess}
use Rattle.deadlines.specs.Types.{DeadlineState}
use Rattle.deadlines.specs.Deadlines.{stage_with, first_of, last_of, entry_with, changed_with}
use Rattle.deadline_layout.specs.Encodings.{deadline_stride, stage_place_with, first_place, last_place, deadline_numbers, state_numbers_with}
use Rattle.deadline_layout.specs.Places.{placed_with}

-- an entry among the processes is its three numbers among theirs
entries_set : (qs : List DeadlineProcess) (i : ℕ) (q : DeadlineProcess)
    → deadline_numbers (set qs i q)
    ≡ set (set (set (deadline_numbers qs) (deadline_stride * i) (stage_with q.location)) (deadline_stride * i + 1) (first_of q.location))
    (deadline_stride * i + 2) (last_of q.location)
unfolding deadline_numbers
entries_set [] i q = refl
entries_set (r ∷ qs) zero q = refl
entries_set (r ∷ qs) (suc i) q =
    let e : deadline_stride * suc i ≡ suc (suc (suc (deadline_stride * i))) = omega arith in
    let f : deadline_stride * suc i + 1 ≡ suc (suc (suc (deadline_stride * i + 1))) = omega arith in
    let g : deadline_stride * suc i + 2 ≡ suc (suc (suc (deadline_stride * i + 2))) = omega arith in
    rw (g, f, e, entries_set qs i q)

module _ (k : Parameters) (size : length k.a ≡ 96) (clock word : ℕ) where
  abbrev header : List ℕ
  header = header_numbers k clock word

  -- an entry stored behind what stands before the entries is stored among them
  placed_behind : (qs : List DeadlineProcess) (i : ℕ) (to : DeadlineLocation)
      → placed_with (header ++ deadline_numbers qs) i to ≡ header ++ deadline_numbers (set qs i (entry_with to))
  placed_behind qs i to =
      let ns = deadline_numbers qs in
      let staged = set ns (deadline_stride * i) (stage_with to) in
      let opened = set staged (deadline_stride * i + 1) (first_of to) in
      ap (λ (l : List ℕ). set (set l (first_place i) (first_of to)) (last_place i) (last_of to))
      (stored_behind k size clock word ns (stage_place_with i) (deadline_stride * i) (stage_with to) refl)
      ∙ ap (λ (l : List ℕ). set l (last_place i) (last_of to))
      (stored_behind k size clock word staged (first_place i) (deadline_stride * i + 1) (first_of to) (omega arith))
      ∙ stored_behind k size clock word opened (last_place i) (deadline_stride * i + 2) (last_of to) (omega arith)
      ∙ ap (λ (l : List ℕ). header ++ l) (sym (entries_set qs i (entry_with to)))

-- at another time, with another word and entry i in another location
pub moved_stored : (d : DeadlineState) → length d.parameters.a ≡ 96 → (m word i : ℕ) (to : DeadlineLocation)
    → state_numbers_with (changed_with d m word (set d.processes i (entry_with to))) ≡ clocked (placed_with (state_numbers_with d) i to) m word
unfolding state_numbers_with
moved_stored d size m word i to =
    sym (ap (λ (l : List ℕ). clocked l m word) (placed_behind d.parameters size d.clock d.word d.processes i to))

-- after a wait
pub waited_stored : (d : DeadlineState) (m : ℕ)
    → state_numbers_with (changed_with d m d.word d.processes) ≡ clocked (state_numbers_with d) m d.word
unfolding state_numbers_with
waited_stored d m = refl
