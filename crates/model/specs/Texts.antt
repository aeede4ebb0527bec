-- Section 6 of the specification, as traces are written: the numbers, words and lines, and the text of a whole trace, each a list of
-- bytes. What counts as a faultless trace is settled here. Assumes nothing.
use Rattle.std.specs.Prelude.{ℕ, zero, suc, ◌+◌, ◌/◌, ◌%◌, Bool, true, false, ◌&&◌, List, [], ◌∷◌, ◌++◌, ltb, length, get_or, take}
use Prim.Native.Char.{code}
use Prim.Native.String.{String, [] as nothing, ◌∷◌ as ◌then◌}
use Rattle.model.specs.declared.Parameters.{Parameters}
use Rattle.model.specs.declared.Event.{Event as Step}
use Rattle.model.specs.States.{parameters_of, equal_limits}

-- [6.10] the bytes of a quoted text, in ASCII
abbrev pub bytes : String → List ℕ
bytes nothing = []
bytes (c then s) = code c ∷ bytes s

-- [6.30]
abbrev pub comma : ℕ
comma = 44

-- [6.10]
abbrev pub newline : ℕ
newline = 10

-- Numbers

-- [6.60] the digits of v, no more than k of them
unfoldable pub decimal_in : ℕ → ℕ → List ℕ
decimal_in zero v = []
decimal_in (suc k) v = elim (ltb v 10) [ true ↦ (48 + v) ∷ [] | false ↦ decimal_in k (v / 10) ++ ((48 + v % 10) ∷ []) ]

-- [6.60] v has no more than v + 1 digits
unfoldable pub decimal : ℕ → List ℕ
decimal v = decimal_in (suc v) v

-- [6.60] a number and the byte that ends its field
unfoldable pub number_text : ℕ → ℕ → List ℕ
number_text end v = decimal v ++ (end ∷ [])

-- [6.65] a time is below it: 13 digits
abbrev pub time_bound : ℕ
time_bound = 10_000_000_000_000

-- [6.65] any other number is below it: 8 digits
abbrev pub number_bound : ℕ
number_bound = 100_000_000

-- Words

-- [6.70] the words of the actions from 0 on
abbrev pub words : List (List ℕ)
words =
    bytes "wait" ∷ bytes "try" ∷ bytes "test" ∷ bytes "set" ∷ bytes "check" ∷ bytes "crit" ∷ bytes "exit" ∷ bytes "reset" ∷ bytes "rem"
    ∷ bytes "withdraw" ∷ []

-- [6.70] the word of an action, with the end of its line
unfoldable pub word_text : ℕ → List ℕ
word_text action = get_or words action [] ++ (newline ∷ [])

-- Lines

-- [6.50] a step of a trace
abbrev pub Event : Type 0
Event = Step

-- helper: of its parts
abbrev pub event : ℕ → ℕ → ℕ → Event
event time process action = record { time = time; process = process; action = action }

-- [6.30] [7.25] a line of numbers, v and then the others, with commas between them
unfoldable pub numbers_text : ℕ → List ℕ → List ℕ
numbers_text v [] = number_text newline v
numbers_text v (w ∷ ws) = number_text comma v ++ numbers_text w ws

-- [6.20]
abbrev pub value_names : List ℕ
value_names = bytes "windows,b,c\n"

-- [6.30]
unfoldable pub values_text : ℕ → ℕ → ℕ → List ℕ
values_text n b c = numbers_text n (b ∷ c ∷ [])

-- [6.32]
abbrev pub limit_names : List ℕ
limit_names = bytes "window,a\n"

-- [6.34] a line for each of these values of a, the first of them of process i
unfoldable pub limits_text : ℕ → List ℕ → List ℕ
limits_text i [] = []
limits_text i (x ∷ a) = numbers_text i (x ∷ []) ++ limits_text (i + 1) a

-- [6.40]
abbrev pub event_names : List ℕ
event_names = bytes "time,window,act\n"

-- [6.50]
unfoldable pub event_text : Event → List ℕ
event_text e = number_text comma e.time ++ (number_text comma e.process ++ word_text e.action)

-- Whole texts

-- [6.20] [6.30] [6.32] [6.34] [6.40] the first lines
unfoldable pub head_text : Parameters → List ℕ
head_text k = value_names ++ (values_text k.n k.b k.c ++ (limit_names ++ (limits_text 1 (take k.n k.a) ++ event_names)))

-- [6.50] the line of the first step, after the first lines
unfoldable pub first_line : Parameters → ℕ
first_line k = k.n + 5

-- [6.50] the lines of the steps
unfoldable pub events_text : List Event → List ℕ
events_text [] = []
events_text (e ∷ es) = event_text e ++ events_text es

-- [6.153] the text of a trace
abbrev pub trace_text : Parameters → List Event → List ℕ
trace_text k events = head_text k ++ events_text events

-- The former shape, which is read and no longer written

-- [6.45] its first line
abbrev pub former_names : List ℕ
former_names = bytes "windows,a,b,c\n"

-- [6.45] the parameters that n, a, b and c on its second line stand for
abbrev pub former_parameters : ℕ → ℕ → ℕ → ℕ → Parameters
former_parameters n a b c = parameters_of n b c (equal_limits n a)

-- [6.45] the second line
unfoldable pub former_values_text : ℕ → ℕ → ℕ → ℕ → List ℕ
former_values_text n a b c = numbers_text n (a ∷ b ∷ c ∷ [])

-- [6.45] the first lines
unfoldable pub former_head_text : ℕ → ℕ → ℕ → ℕ → List ℕ
former_head_text n a b c = former_names ++ (former_values_text n a b c ++ event_names)

-- [6.45] the line of the first step
abbrev pub former_first_line : ℕ
former_first_line = 4

-- [4.15] the most bytes of a text
abbrev pub text_limit : ℕ
text_limit = 65_536

-- [6.160]
abbrev pub has_form : Event → Bool
has_form e = ltb e.time time_bound && ltb e.process number_bound && ltb e.action (length words)
