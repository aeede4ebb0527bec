-- The stages of entries that lie as numbers, and what a sound table tells of them: what going over the waits so far asks for.
-- Assumes nothing.
use Rattle.std.proofs.Common.{◌≡◌, ℕ, zero, suc, ◌*◌, ◌≤◌, true, leb, List, [], ◌∷◌, length, take, drop, sym, refl, ap}
use Rattle.std.proofs.Common.{◌∙◌, arith, get_or-drop, take_all}
use Rattle.model.specs.Types.{Process}
use Rattle.model.specs.Stages.{remainder}
use Rattle.theory.specs.Soundness.{Sound}
use Rattle.theory.proofs.Soundness.{sound_iff_plain}
use Rattle.statistics.specs.Waitings.{stage_at}
use Rattle.statistics.proofs.Counted.{past_rests}
use Rattle.layout.specs.Encodings.{header_length, stride, table_length, count_in, process_numbers, processes_in, state_in, are_entries}
use Rattle.layout.specs.Encodings.{is_table, is_sound_table}
use Rattle.layout.specs.Places.{entry_in}
use Rattle.layout.specs.Countings.{stage_in}
use Rattle.layout.proofs.Numbers.{entries-told}
use Rattle.layout.proofs.Encodings.{sound_is_table, table_is_sound}
use Rattle.model.proofs.Tests.{and_true_iff}

-- past the end of either list it is the remainder
stage_numbers : (qs : List Process) (i : ℕ) → stage_in (process_numbers qs) i ≡ stage_at qs i
unfolding process_numbers
stage_numbers [] i = refl
stage_numbers (q ∷ qs) zero = refl
stage_numbers (q ∷ qs) (suc i) =
    let e : stride * suc i ≡ suc (suc (stride * i)) = omega arith in
    rw e (stage_numbers qs i)

module _ (l : List ℕ) (told : are_entries l ≡ true) (i : ℕ) where
  stage-in : stage_in l i ≡ stage_at (processes_in l) i
  stage-in = ap (λ (k : List ℕ). stage_in k i) (sym (entries-told l told)) ∙ stage_numbers (processes_in l) i

-- A sound table that is no longer than its numbers

module _ (table : List ℕ) (long : length table ≡ table_length) (sound : is_sound_table table ≡ true) where
  whole : take table_length table ≡ table
  whole = take_all table_length table (omega arith)

  told : are_entries (drop header_length table) ≡ true
  unfolding is_table
  told = ((and_true_iff (leb table_length (length table)) (are_entries (drop header_length table))).0 (rw whole at (sound_is_table table sound))).1

  sound_state : Sound (state_in table)
  sound_state = (sound_iff_plain (state_in table)).0 (rw whole at (table_is_sound table sound))

  pub few_processes : count_in table ≤ 96
  unfolding state_in
  few_processes = sound_state.parameters.count.most

  pub past_count : (i : ℕ) → count_in table ≤ i → stage_at (state_in table).processes i ≡ remainder
  unfolding state_in
  past_count i h = past_rests (state_in table) sound_state i h

  pub stage_read : (i : ℕ) → (entry_in table i).stage ≡ stage_at (state_in table).processes i
  unfolding state_in
  stage_read i = sym (get_or-drop header_length table (stride * i) 0) ∙ stage-in (drop header_length table) told i
