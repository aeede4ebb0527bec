-- Section 6 of the specification, its last clauses: reading and writing undo each other, and what becomes of a text of the former shape. By
-- their contracts the functions `read` and `write` give back exactly `read_of` and `write_of` of what they are lent, so these sentences are
-- about the functions. Assumes nothing.
use Rattle.std.specs.Prelude.{ℕ, ◌≤◌, ◌<◌, ◌≡◌, List, ◌++◌, Ok, length, take}
use Rattle.model.specs.declared.Parameters.{Parameters}
use Rattle.model.specs.declared.Reading.{Reading}
use Rattle.model.specs.Texts.{Event, value_names, events_text, trace_text, text_limit, former_names, former_parameters, former_head_text}
use Rattle.model.specs.Readings.{Lists, lists, room, stored, Read, read_gave, reading_of, read_of}
use Rattle.model.specs.Writings.{events_of, Written, unwritten, written, write_of}

-- helper: the first k places of the lists
abbrev pub first_of : ℕ → Lists → Lists
first_of k l = lists (take k l.times) (take k l.processes) (take k l.actions)

-- helper: the steps that a reading left in the lists
abbrev pub events_read : Reading → Lists → List Event
events_read q l = events_of (first_of q.steps l)

-- [6.200] writing what a reading gave back
abbrev pub rewritten : Reading → Lists → List ℕ → Written
rewritten q l out = write_of q.parameters (events_read q l) out

-- [6.210] reading what a writing left in its output: as many bytes as its answer counts
abbrev pub rereading : Written → Lists → Read
rereading w l = read_of (take w.answer.time w.out) l

-- helper: a text starts with this one
abbrev pub Starts : List ℕ → List ℕ → Type 0
Starts start text = (more : List ℕ) × (text ≡ start ++ more)

-- [6.200] of the shape that is written: read into any lent lists, and written into any output of the text's length or more, with answer 0, 0
-- and its length; bytes after it are unchanged.
abbrev pub ReadThenWrite : Type 0
ReadThenWrite =
    (text : List ℕ) (l : Lists) (out : List ℕ) (q : Reading)
    → Starts value_names text → (read_of text l).reading ≡ Ok q → length text ≤ length out
    → rewritten q (read_of text l).kept out ≡ written text out

-- [6.202] the text that is written of what a reading gave back
abbrev pub text_again : Reading → Lists → List ℕ
text_again q l = trace_text q.parameters (events_read q l)

-- [6.45] [6.202] a reading found these numbers and steps in a text of the former shape, and has n equal values of a
pub record ReadFormer (text : List ℕ) (q : Reading) (l : Lists) (n a b c : ℕ) : Type 0 where
  pub text_is : text ≡ former_head_text n a b c ++ events_text (events_read q l)
  pub parameters : q.parameters ≡ former_parameters n a b c

-- [6.202] what becomes of what a reading gave back, as it is written into this output
pub record Renewed (q : Reading) (l : Lists) (out : List ℕ) : Type 0 where
  -- [4.15]
  pub long : text_limit < length (text_again q l) → rewritten q l out ≡ unwritten 15 0 out
  -- [4.16]
  pub no_room : length (text_again q l) ≤ text_limit → length out < length (text_again q l) → rewritten q l out ≡ unwritten 16 0 out
  pub fits : length (text_again q l) ≤ text_limit → length (text_again q l) ≤ length out → rewritten q l out ≡ written (text_again q l) out

-- [6.202] and as that text is read again, into lists with room for the steps: the same parameters, and the same steps
abbrev pub ReadAgain : Reading → Lists → Type 0
ReadAgain q l =
    length (text_again q l) ≤ text_limit → (m : Lists) → length (events_read q l) ≤ room m
    → (read_of (text_again q l) m ≡ read_gave (Ok q) (stored (events_read q l) m))
    × (events_read q (read_of (text_again q l) m).kept ≡ events_read q l)

-- [6.202]
abbrev pub FormerThenWrite : Type 0
FormerThenWrite =
    (text : List ℕ) (l : Lists) (out : List ℕ) (q : Reading)
    → Starts former_names text → (read_of text l).reading ≡ Ok q
    → ((n : ℕ) × (a : ℕ) × (b : ℕ) × (c : ℕ) × ReadFormer text q (read_of text l).kept n a b c)
    × Renewed q (read_of text l).kept out
    × ReadAgain q (read_of text l).kept

-- [6.210] read into any lent lists with room for them, with their number, and stored in the first places of these
-- lists
abbrev pub WriteThenRead : Type 0
WriteThenRead =
    (k : Parameters) (l : Lists) (out : List ℕ) (m : Lists)
    → (write_of k (events_of l) out).answer.code ≡ 0 → length (events_of l) ≤ room m
    → rereading (write_of k (events_of l) out) m
    ≡ read_gave (Ok (reading_of k (length (events_of l)))) (stored (events_of l) m)

-- [6.210] So the steps that were read are the steps that were written.
abbrev pub SameEvents : Type 0
SameEvents =
    (k : Parameters) (l : Lists) (out : List ℕ) (m : Lists)
    → (write_of k (events_of l) out).answer.code ≡ 0 → length (events_of l) ≤ room m
    → (q : Reading) × ((rereading (write_of k (events_of l) out) m).reading ≡ Ok q)
    × (events_read q (rereading (write_of k (events_of l) out) m).kept ≡ events_of l)
