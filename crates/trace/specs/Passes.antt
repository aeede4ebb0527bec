-- What the passes over a recording's lines ensure: parts of `read_of` and `write_of`. For the proofs only.
-- Assumes nothing.
use Rattle.std.specs.Prelude.{ℕ, ◌+◌, ◌≤◌, ◌≡◌, cond, List, [], Option, Some, None, Result, Ok, Err, ltb, eqb, length}
use Rattle.std.proofs.lemmas.List.Edits.{sets}
use Rattle.model.specs.declared.Fault.{Fault}
use Rattle.model.specs.declared.Refusal.TheVariants.{BadLine}
use Rattle.model.specs.declared.Answer.{Answer}
use Rattle.model.specs.declared.Reading.{Reading}
use Rattle.model.specs.Texts.{text_limit}
use Rattle.model.specs.Answers.{answer_of}
use Rattle.model.specs.Readings.{fault, Body, lists, read_of}

-- [21.100] how many steps there are, or the refusal of the first line that is none
abbrev pub counted_of : Body → Result ℕ Fault
counted_of b = cond (eqb b.fault 0) (Ok (length b.events)) (Err (fault BadLine b.fault))

-- helper: the answer to a reading that has no room for the values of a
abbrev pub answer_roomless : Result Reading Answer → Answer
answer_roomless (Ok q) = answer_of 16 0 0
answer_roomless (Err answer) = answer

-- helper: the answer to a text where the values of a have no room: its own refusal, or 16. Read without room for a step, a text without a fault
-- is read or answered with 16
abbrev pub answer_without_room : List ℕ → Answer
answer_without_room text = answer_roomless (read_of text (lists [] [] [])).reading

-- how many bytes there are, up to 65,536
abbrev pub size_of : ℕ → Option ℕ
size_of k = cond (ltb text_limit k) None (Some k)

-- `text` has been put into `old` from place `at` on and `size` says where it ends: as much of it as there is room for, unless
-- it ends past 65,536
pub record PutSized (old new : List ℕ) (at : ℕ) (text : List ℕ) (size : Option ℕ) : Type 0 where
  pub sized : size ≡ size_of (at + length text)
  pub same : length new ≡ length old
  pub put : at + length text ≤ text_limit → new ≡ sets old at text
