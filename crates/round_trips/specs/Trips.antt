-- Section 6 of the specification: what a round trip gives back, refusals included. Assumes nothing.
use Rattle.std.specs.Prelude.{ℕ, ◌≤◌, ◌≡◌, cond, List, Result, Ok, Err, eqb, length}
use Rattle.model.specs.declared.Parameters.{Parameters}
use Rattle.model.specs.declared.Answer.{Answer}
use Rattle.model.specs.declared.Reading.{Reading}
use Rattle.model.specs.Texts.{Event, value_names}
use Rattle.model.specs.Readings.{Lists, room, over, stored, Read, read_gave, read_of}
use Rattle.model.specs.Writings.{Written, write_gave, write_of}
use Rattle.grammar.specs.RoundTrips.{events_read, rewritten, rereading, Starts}

-- [6.205] a reading, and the writing of what was read, or the reading's refusal
abbrev pub rewrite_from : Result Reading Answer → Lists → List ℕ → Written
rewrite_from (Ok q) l out = rewritten q l out
rewrite_from (Err answer) l out = write_gave answer out

-- [6.205] of all that a reading gave back
unfoldable pub rewrite_of : Read → List ℕ → Written
rewrite_of r out = rewrite_from r.reading r.kept out

-- [6.215] a writing, and the reading of what was written, or the writing's refusal, which leaves nothing to read
unfoldable pub reread_of : Written → Lists → Read
reread_of w l = cond (eqb w.answer.code 0) (rereading w l) (read_gave (Err w.answer) l)

-- [6.200] a text of the shape that is written stands in an output that has room for it, where it is read
abbrev pub ComesBack : List ℕ → Lists → List ℕ → List ℕ → Type 0
ComesBack text l out out' = (q : Reading) → Starts value_names text → (read_of text l).reading ≡ Ok q → length text ≤ length out
    → out' ≡ over text out

-- [6.202] what was written of a text, whatever its shape, is read as the text was, into lists with room for its steps
abbrev pub ReadsAlike : List ℕ → Lists → Written → Type 0
ReadsAlike text l w =
    w.answer.code ≡ 0
    → (q : Reading) × ((read_of text l).reading ≡ Ok q)
    × ((m : Lists) → length (events_read q (read_of text l).kept) ≤ room m
    → rereading w m ≡ read_gave (Ok q) (stored (events_read q (read_of text l).kept) m))

-- [6.210] the steps are read again, where they are written and there is room for them
abbrev pub StepsComeBack : Parameters → List Event → List ℕ → Lists → Read → Type 0
StepsComeBack k events out l r =
    (write_of k events out).answer.code ≡ 0 → length events ≤ room l
    → (q : Reading) × (r.reading ≡ Ok q) × (events_read q r.kept ≡ events)
