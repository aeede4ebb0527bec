-- Section 9 of the specification: what `read_to` gave back, handed on to another call of the library, by its lists: it is what a reading by value
-- gives back, and so it is written, and started from, as that is. Assumes nothing.
use Rattle.std.specs.Prelude.{ℕ, ◌≤◌, ◌≡◌, List, Ok, length}
use Rattle.model.specs.declared.Parameters.{Parameters}
use Rattle.model.specs.declared.Reading.{Reading}
use Rattle.model.specs.declared.Started.{Started}
use Rattle.model.specs.States.{parameters_of, limits_in}
use Rattle.model.specs.Answers.{answer_of, fresh_of}
use Rattle.model.specs.Texts.{Event, value_names}
use Rattle.model.specs.Readings.{Lists, read_of}
use Rattle.model.specs.Writings.{events_of, written, write_of}
use Rattle.model.specs.Executions.{started_of}
use Rattle.grammar.specs.RoundTrips.{first_of, Starts}
use Rattle.trace.specs.ReadingTo.{ReadTo, read_to_of}

-- [9.45] [9.105] the parameters that n, b, c and the list of a stand for, where a call is handed them
abbrev pub parameters_told : ReadTo → Parameters
parameters_told r = parameters_of r.reading.n r.reading.b r.reading.c (limits_in r.a)

-- [9.105] the steps in the three lists: as many as the answer counts
abbrev pub events_told : ReadTo → List Event
events_told r = events_of (first_of r.reading.answer.time r.kept)

-- [9.105] it tells what a reading by value gives back
pub record TellsRead (r : ReadTo) (q : Reading) (kept : Lists) : Type 0 where
  pub answer : r.reading.answer ≡ answer_of 0 0 q.steps
  pub parameters : parameters_told r ≡ q.parameters
  pub kept_is : r.kept ≡ kept

-- [9.90] [9.105] whatever the list of a held before, and however long it is
abbrev pub ReadToTells : Type 0
ReadToTells = (text a : List ℕ) (l : Lists) → (read_to_of text a l).reading.answer.code ≡ 0
    → (q : Reading) × ((read_of text l).reading ≡ Ok q) × TellsRead (read_to_of text a l) q (read_of text l).kept

-- [6.200] [9.105] a text of the shape that is written comes back
abbrev pub ReadToThenWrite : Type 0
ReadToThenWrite = (text a : List ℕ) (l : Lists) (out : List ℕ)
    → Starts value_names text → (read_to_of text a l).reading.answer.code ≡ 0 → length text ≤ length out
    → write_of (parameters_told (read_to_of text a l)) (events_told (read_to_of text a l)) out ≡ written text out

-- [7.45] [9.105] and a fresh state of what was told is the one that the first step of the text is taken in
abbrev pub ReadToThenFresh : Type 0
ReadToThenFresh = (text a : List ℕ) (l : Lists) → (read_to_of text a l).reading.answer.code ≡ 0
    → (s : Started) × ((started_of text l).started ≡ Ok s) × ((fresh_of (parameters_told (read_to_of text a l))).state ≡ s.state)
