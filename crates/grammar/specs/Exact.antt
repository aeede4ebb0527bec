-- Section 6 of the specification, the grammar from a second side: which texts are read, said by what is written, in the shape that is written
-- and in the former one. Assumes nothing.
use Rattle.std.specs.Prelude.{ℕ, ◌+◌, ◌≤◌, ◌≡◌, ◌↔◌, true, List, ◌++◌, None, length}
use Rattle.model.specs.declared.Parameters.{Parameters}
use Rattle.model.specs.Acts.{last_act}
use Rattle.model.specs.States.{parameters_stand}
use Rattle.model.specs.Texts.{words, Event, head_text, first_line, events_text, trace_text, text_limit}
use Rattle.model.specs.Texts.{former_parameters, former_head_text, former_first_line}
use Rattle.model.specs.Readings.{trace, trace_of}
use Rattle.model.specs.Writings.{formless_from}

-- [6.190] a trace has a form
pub record Formed (k : Parameters) (events : List Event) : Type 0 where
  pub stand : parameters_stand k ≡ true
  -- [6.160] of each step: there is none that lacks its form
  pub forms : formless_from (first_line k) events ≡ None
  pub short : length (trace_text k events) ≤ text_limit

-- [6.20] [6.45] [6.50] the first lines of a trace with these parameters, in either shape, and the line of its first step
pub data FirstLines : Parameters → List ℕ → ℕ → Type 0 where
  new : (k : Parameters) → FirstLines k (head_text k) (first_line k)
  former : (n a b c : ℕ) → FirstLines (former_parameters n a b c) (former_head_text n a b c) former_first_line

-- [6.190] a text says this trace, whose first step stands on this line
pub record Says (text : List ℕ) (line : ℕ) (k : Parameters) (events : List Event) : Type 0 where
  pub head : List ℕ
  pub shape : FirstLines k head line
  pub text_is : text ≡ head ++ events_text events
  pub stand : parameters_stand k ≡ true
  -- [6.160] as above
  pub forms : formless_from line events ≡ None
  pub short : length text ≤ text_limit

-- [6.190] [6.125] of a text that is read
abbrev pub ReadExactly : Type 0
ReadExactly = (text : List ℕ) (line : ℕ) (k : Parameters) (events : List Event) → (trace_of text ≡ trace line k events) ↔ Says text line k events

-- [3.40] [6.70] there is a word for each action, and no other
abbrev pub WordForEachAct : Type 0
WordForEachAct = length words ≡ last_act + 1
