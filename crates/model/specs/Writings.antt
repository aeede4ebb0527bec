-- Section 6 of the specification, the writer: `write_of`, all that a writing gives back. Assumes nothing.
use Rattle.std.specs.Prelude.{ℕ, ◌+◌, cond, not, List, [], ◌∷◌, Option, Some, None, ltb, length, get_or}
use Rattle.model.specs.declared.Parameters.{Parameters}
use Rattle.model.specs.declared.Answer.{Answer}
use Rattle.model.specs.States.{count_stands, limits_stand}
use Rattle.model.specs.Answers.{answer_of}
use Rattle.model.specs.Texts.{Event, event, first_line, trace_text, text_limit, has_form}
use Rattle.model.specs.Readings.{Lists, over}

-- [6.150] one step for each place that all three lists have
unfoldable pub events_in : List ℕ → List ℕ → List ℕ → List Event
events_in [] ps qs = []
events_in (t ∷ ts) [] qs = []
events_in (t ∷ ts) (p ∷ ps) [] = []
events_in (t ∷ ts) (p ∷ ps) (q ∷ qs) = event t p q ∷ events_in ts ps qs

-- [6.150]
abbrev pub events_of : Lists → List Event
events_of l = events_in l.times l.processes l.actions

-- helper: the step at place i
abbrev pub event_in : Lists → ℕ → Event
event_in l i = event (get_or l.times i 0) (get_or l.processes i 0) (get_or l.actions i 0)

-- [6.170] [4.14] the line of the first step without a form, where the first has `line`, if there is one
unfoldable pub formless_from : ℕ → List Event → Option ℕ
formless_from line [] = None
formless_from line (e ∷ es) = cond (has_form e) (formless_from (line + 1) es) (Some line)

-- What a writing gives back

-- [6.153] its answer, and the lent bytes
pub record Written : Type 0 where
  pub answer : Answer
  pub out : List ℕ

-- helper: of its parts
abbrev pub write_gave : Answer → List ℕ → Written
write_gave r out = record { answer = r; out = out }

-- [6.180] [4.110]
abbrev pub unwritten : ℕ → ℕ → List ℕ → Written
unwritten code line out = write_gave (answer_of code 0 line) out

-- [6.153] [6.156] [4.70]
abbrev pub written : List ℕ → List ℕ → Written
written text out = write_gave (answer_of 0 0 (length text)) (over text out)

-- [4.16] [4.110] a text in an output that may be too short for it
unfoldable pub fitted : List ℕ → List ℕ → Written
fitted text out = cond (ltb (length out) (length text)) (unwritten 16 0 out) (written text out)

-- [6.170] [4.14] a step without a form is told by its line; what follows is for a trace that has none
abbrev pub unless_formless : Option ℕ → List ℕ → Written → Written
unless_formless None out next = next
unless_formless (Some line) out next = unwritten 14 line out

-- [6.170] [6.153] [6.180] [4.11] [4.12] [4.14] [4.15] one condition a line
unfoldable pub write_of : Parameters → List Event → List ℕ → Written
write_of k events out =
    cond (not (count_stands k.n)) (unwritten 11 0 out)
    (cond (not (limits_stand k)) (unwritten 12 0 out)
    (unless_formless (formless_from (first_line k) events) out
    (cond (ltb text_limit (length (trace_text k events))) (unwritten 15 0 out)
    (fitted (trace_text k events) out))))
