-- Section 9 of the specification: a reading for the library, whose values of a go to a lent list of their own. Assumes nothing.
use Rattle.std.specs.Prelude.{ℕ, cond, List, Result, Ok, Err, ltb, length}
use Rattle.model.specs.declared.Answer.{Answer}
use Rattle.model.specs.declared.Reading.{Reading}
use Rattle.model.specs.Answers.{answer_of}
use Rattle.model.specs.Readings.{Lists, over, read_of}
use Rattle.trace.specs.declared.ReadingTo.{ReadingTo}

-- [9.90] its answer with n, b and c, the list for the values of a, and the three lists for the steps
pub record ReadTo : Type 0 where
  pub reading : ReadingTo
  pub a : List ℕ
  pub kept : Lists

-- helper: of its parts
abbrev pub read_to_gave : ReadingTo → List ℕ → Lists → ReadTo
read_to_gave r a l = record { reading = r; a = a; kept = l }

-- helper: an answer with n, b and c
abbrev pub reading_to_of : Answer → ℕ → ℕ → ℕ → ReadingTo
reading_to_of answer n b c = record { answer = answer; n = n; b = b; c = c }

-- [9.90] [6.140] [4.110] refused: n, b and c are 0, and the lists are as they were lent
abbrev pub unread_to : Answer → List ℕ → Lists → ReadTo
unread_to answer a l = read_to_gave (reading_to_of answer 0 0 0) a l

-- [9.90] read: all 96 values of a stand in the first places of their list
abbrev pub was_read_to : List ℕ → Reading → Lists → ReadTo
was_read_to a q l =
    let k = q.parameters in
    read_to_gave (reading_to_of (answer_of 0 0 q.steps) k.n k.b k.c) (over k.a a) l

-- [9.90] [4.16] what the reading into the lists l gives back, which are `kept` then: all its refusals come first, and then 16 for want of room for
-- the values of a
abbrev pub read_to_from : List ℕ → Lists → Result Reading Answer → Lists → ReadTo
read_to_from a l (Err answer) kept = unread_to answer a l
read_to_from a l (Ok q) kept = cond (ltb (length a) 96) (unread_to (answer_of 16 0 0) a l) (was_read_to a q kept)

-- [9.90] all that it gives back, of a text, a list for the values of a and three lists for the steps
unfoldable pub read_to_of : List ℕ → List ℕ → Lists → ReadTo
read_to_of text a l = read_to_from a l (read_of text l).reading (read_of text l).kept
