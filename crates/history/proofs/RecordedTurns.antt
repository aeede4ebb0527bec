-- Laws of a list of recorded steps in rows: the steps that rows stand for, one turn of the loop of `run_recorded`, the loop by the
-- record `Going` of model, and that the rows which it leaves tell the log of the list. Assumes nothing.
use Prim.Native.Nat.{ℕ, ◌+◌, ◌≤◌, ◌<◌, min}
use mathlib.Core.Path.{◌≡◌, refl, ap, ◌∙◌}
use mathlib.Core.List.{List, [], ◌∷◌, map}
use native.Mathlib.Omega.{arith}
use lib.ListN.{length, get_or, set, length-take, length-map, get_or-map}
use lib.Seq.{get_or-take}
use Rattle.model.specs.declared.Parameters.{Parameters}
use Rattle.model.specs.declared.Recorded.{Recorded}
use Rattle.model.specs.Readings.{over}
use Rattle.model.specs.Answers.{fresh_of}
use Rattle.model.specs.Facts.{Accepted}
use Rattle.model.specs.Folds.{results_by, itself, log_by}
use Rattle.model.specs.Summaries.{new_statistics, beside, code_of}
use Rattle.model.specs.Tallies.{Attempt, attempted}
use Rattle.model.proofs.Lists.{row_at, rows_snoc}
use Rattle.model.proofs.Folds.{Going, count_going, long_going, moves_on, end_reached, all_written}
use Rattle.theory.proofs.Soundness.{fresh_is_plain, fresh_is}
use Rattle.tallies.specs.Tallies.{record_next, records_of, Tallied, start_of}
use Rattle.tallies.proofs.Tallies.{every_tally}
use Rattle.history.specs.Lists.{Tuple, answer_row}
use Rattle.history.specs.RecordedRuns.{event_in_row, events_in_rows, code_in, log_in, RecordedRun, recorded_run_gave, started}
use Rattle.history.specs.RecordedRuns.{recorded_run_from, recorded_run_of, record_at}

-- The events that rows stand for

pub length_events : (acts answers : List Tuple) → length (events_in_rows acts answers) ≡ min (length acts) (length answers)
length_events acts answers = simp (length-take, length-map) (omega arith)

event-at : (acts answers : List Tuple) (i : ℕ) → i < length answers
    → get_or (events_in_rows acts answers) i (event_in_row []) ≡ event_in_row (get_or acts i [])
event-at acts answers i h = get_or-take (length answers) (map event_in_row acts) i (event_in_row []) h ∙ get_or-map event_in_row acts i []

-- One turn

pub record-at : (r : Recorded) (acts answers : List Tuple) (i : ℕ) (d : Tuple) → i < length acts → {t : Recorded}
    → t ≡ record_next r (event_in_row (get_or acts i d)) → recorded_run_gave t (set answers i (answer_row t)) ≡ record_at r acts answers i
record-at r acts answers i d h e =
    ap (λ (u : Recorded). recorded_run_gave u (set answers i (answer_row u)))
    (e ∙ ap (λ (row : Tuple). record_next r (event_in_row row)) (row_at acts i d [] h))

-- The loop of `run_recorded`: of n steps i have been made, t is what the last one gave back, and the answers have become m

abbrev pub answered : List Recorded → List Tuple → List Tuple
answered rs answers = over (map answer_row rs) answers

abbrev pub Recording : Recorded → List Tuple → List Tuple → ℕ → ℕ → Recorded → List Tuple → Type 0
Recording r acts answers n i t m = Going record_next itself events_in_rows answered r acts answers n i t m

module _ {r : Recorded} {acts answers : List Tuple} {n i : ℕ} {t : Recorded} {m : List Tuple} (g : Recording r acts answers n i t m) where
  pub records_on : i < n → {u : Recorded} {k : List Tuple} → recorded_run_gave u k ≡ record_at t acts m i
      → Recording r acts answers n (i + 1) u k
  records_on h e =
      let inside : i < length answers = omega (arith, g.all, length_events acts answers) in
      moves_on g h (event_in_row (get_or acts i [])) (event_in_row []) (event-at acts answers i inside)
      (ap (λ (v : RecordedRun). v.recorded) e)
      (ap (λ (v : RecordedRun). v.answers) e ∙ rw g.written (rows_snoc answer_row g.results answers i (count_going g) inside _))

  -- the answers have become neither longer nor shorter
  pub answers_long : length m ≡ length answers
  answers_long = rw g.written (long_going g answer_row answers (omega (arith, g.all, length_events acts answers)))

pub ends : (r : Recorded) {acts answers : List Tuple} {n i : ℕ} {t : Recorded} {m : List Tuple} → Recording r acts answers n i t m → n ≤ i
    → recorded_run_gave (started r t) m ≡ recorded_run_from r (events_in_rows acts answers) answers
ends r g h = λ j. recorded_run_gave (started r (end_reached g h j)) (all_written g h j)

-- The log

-- the acts, and the answers that are left in their rows, tell the log of the list
log_onto : (log : List Attempt) (r : Recorded) (acts answers : List Tuple)
    → log_by attempted log (map event_in_row acts) (map code_in (answered (records_of r (events_in_rows acts answers)) answers))
    ≡ log_by attempted log (events_in_rows acts answers) (map code_of (records_of r (events_in_rows acts answers)))
unfolding results_by log_by
log_onto log r [] [] = refl
log_onto log r [] (b ∷ bs) = refl
log_onto log r (e ∷ es) [] = refl
log_onto log r (e ∷ es) (b ∷ bs) = log_onto (attempted (event_in_row e) (code_of (record_next r (event_in_row e))) ∷ log) (record_next r (event_in_row e)) es bs

-- a tally does not look at the answer that is given back
tallied_started : {log : List Attempt} {r : Recorded} (p : Recorded) → Tallied log r → Tallied log (started p r)
tallied_started p t = record { counts = t.counts; state = t.state; waits = t.waits; sound = t.sound; balance = t.balance }

-- an accepted fresh table beside a new summary is where a tally starts
pub fresh_starts : (k : Parameters) → Accepted (fresh_of k) → beside new_statistics (fresh_of k) ≡ start_of (fresh_of k).state
fresh_starts k accepted = λ j. beside new_statistics (record { answer = (fresh_is_plain k).answer accepted j; state = (fresh_of k).state })

pub recorded_run_tallied : (k : Parameters) (acts answers : List Tuple) {t : RecordedRun} → t ≡ recorded_run_of k acts answers
    → Accepted (fresh_of k) → Tallied (log_in acts t.answers) t.recorded
unfolding recorded_run_of
recorded_run_tallied k acts answers e accepted =
    rw (e, fresh_starts k accepted, log_onto [] (start_of (fresh_of k).state) acts answers)
    (tallied_started (beside new_statistics (fresh_of k)) (every_tally (fresh_of k).state (fresh_is k accepted) (events_in_rows acts answers)))
