-- Section 6 of the specification, as traces are read: the fields of a line, the lines, and `read_of`, all that a reading gives back.
-- A text is read from its start; what a field or a line takes is counted in bytes. Assumes nothing.
use Rattle.std.specs.Prelude.{ℕ, zero, suc, ◌+◌, ◌-◌, ◌*◌, min, Bool, true, false, cond, not, ◌&&◌, ◌||◌, List, [], ◌∷◌, ◌++◌, map, leb}
use Rattle.std.specs.Prelude.{ltb, eqb, length, get_or, drop, set, replicate, Option, Some, None, Result, Ok, Err}
use Rattle.std.specs.Borrow.{Bor}
use Rattle.model.specs.declared.Refusal.{Refusal}
use Rattle.model.specs.declared.Refusal.TheVariants.{BadCount, BadLimits, BadNames, BadLine, BadLength, ShortOutput}
use Rattle.model.specs.declared.Parsed.{Parsed}
use Rattle.model.specs.declared.Fault.{Fault}
use Rattle.model.specs.declared.Head.{Head}
use Rattle.model.specs.declared.Found.{Found}
use Rattle.model.specs.declared.Parameters.{Parameters}
use Rattle.model.specs.declared.Answer.{Answer}
use Rattle.model.specs.declared.Reading.{Reading}
use Rattle.model.specs.States.{parameters_of, count_stands, limits_stand}
use Rattle.model.specs.Refusals.{code_of}
use Rattle.model.specs.Answers.{answer_of}
use Rattle.model.specs.Texts.{comma, newline, time_bound, number_bound, words, Event, event, value_names, limit_names, event_names, text_limit}
use Rattle.model.specs.Texts.{former_names, former_parameters}

-- helper: what is read at the start of a text, and how many bytes it takes
abbrev pub parsed : {A : Type 0} → A → ℕ → Parsed A
parsed value size = record { value = value; size = size }

-- helper: why a text is refused, and the line that this is reported at
abbrev pub fault : Refusal → ℕ → Fault
fault refusal line = record { refusal = refusal; line = line }

-- Fields

-- helper: s starts with w
unfoldable pub starts_with : List ℕ → List ℕ → Bool
starts_with [] s = true
starts_with (x ∷ w) [] = false
starts_with (x ∷ w) (y ∷ s) = eqb y x && starts_with w s

-- [6.60] [6.65] [6.15] a number below `bound` whose first k digits made v, up to the byte `end`, without which it fails
unfoldable pub number_from : ℕ → ℕ → ℕ → ℕ → List ℕ → Option (Parsed ℕ)
number_from bound end v k [] = None
number_from bound end v k (x ∷ s) =
    cond (eqb x end) (cond (eqb k 0) None (Some (parsed v (k + 1))))
    (cond (ltb x 48 || ltb 57 x) None
    (cond (eqb v 0 && ltb 0 k) None
    (cond (leb bound (v * 10 + (x - 48))) None
    (number_from bound end (v * 10 + (x - 48)) (k + 1) s))))

-- [6.60] [6.65] the number at the start of a text
abbrev pub number_at : ℕ → ℕ → List ℕ → Option (Parsed ℕ)
number_at bound end s = number_from bound end 0 0 s

-- [6.70] [6.15] the first of these words, numbered from `action` on, that fills the line with its end
unfoldable pub word_from : ℕ → List (List ℕ) → List ℕ → Option (Parsed ℕ)
word_from action [] s = None
word_from action (w ∷ ws) s =
    cond (starts_with (w ++ (newline ∷ [])) s) (Some (parsed action (length w + 1))) (word_from (action + 1) ws s)

-- [6.70] the action whose word a text starts with
abbrev pub word_at : List ℕ → Option (Parsed ℕ)
word_at s = word_from 0 words s

-- Lines

-- [6.80] A field that fails ends it; what follows gets the field's value and how many bytes it took.
abbrev pub opened : {A : Type 0} → Option (Parsed ℕ) → A → (ℕ → ℕ → A) → A
opened None refusal next = refusal
opened (Some field) refusal next = next field.value field.size

-- [6.80] A line or lines that are refused end it; what follows gets their value and how many bytes they took.
abbrev pub onward : {A B : Type 0} → Result (Parsed A) Fault → (A → ℕ → Result B Fault) → Result B Fault
onward (Err f) next = Err f
onward (Ok read) next = next read.value read.size

-- [4.14] [6.80] a line that is refused
abbrev pub line_fails : {A : Type 0} → ℕ → Result (Parsed A) Fault
line_fails line = Err (fault BadLine line)

-- [6.50] [6.80] [6.125] [4.14] [21.100] the step at the start of a text, or the refusal of that line
unfoldable pub event_at : ℕ → List ℕ → Result (Parsed Event) Fault
event_at line s =
    opened (number_at time_bound comma s) (line_fails line) (λ time i.
    opened (number_at number_bound comma (drop i s)) (line_fails line) (λ process j.
    opened (word_at (drop j (drop i s))) (line_fails line) (λ action k.
    Ok (parsed (event time process action) (i + j + k)))))

-- [6.30] [6.80] `more` numbers and then the last one of a line, to place i of `got` and on, after `at` bytes; `got` has places for four,
-- and no line of a trace has more
unfoldable pub numbers_from : ℕ → ℕ → ℕ → ℕ → List ℕ → List ℕ → Result (Parsed (List ℕ)) Fault
numbers_from line zero i at got s = opened (number_at number_bound newline s) (line_fails line) (λ v k. Ok (parsed (set got i v) (at + k)))
numbers_from line (suc more) i at got s =
    opened (number_at number_bound comma s) (line_fails line) (λ v k. numbers_from line more (i + 1) (at + k) (set got i v) (drop k s))

-- [6.30] [6.80] [4.14] the line of that many numbers and one more at the start of a text
abbrev pub numbers_at : ℕ → ℕ → List ℕ → Result (Parsed (List ℕ)) Fault
numbers_at line more s = numbers_from line more 0 0 (replicate 4 0) s

-- The lines of a

-- [6.34] [4.14] the line of process i, which has the number i + 3: that number and the a; another number in the place of i fails it
abbrev pub ordered : ℕ → List ℕ → ℕ → Result (Parsed (List ℕ)) Fault
ordered i numbers size = cond (eqb (get_or numbers 0 0) i) (Ok (parsed numbers size)) (line_fails (i + 3))

-- [6.34] [6.80] at the start of a text
abbrev pub limit_line : ℕ → List ℕ → Result (Parsed (List ℕ)) Fault
limit_line i s = onward (numbers_at (i + 3) 1 s) (ordered i)

-- [6.34] [6.100] `more` lines from that of process i on, after `at` bytes of such lines; `a` has the values before
unfoldable pub limits_from : ℕ → ℕ → ℕ → List ℕ → List ℕ → Result (Parsed (List ℕ)) Fault
limits_from zero i at a s = Ok (parsed a at)
limits_from (suc more) i at a s =
    onward (limit_line i s) (λ numbers size. limits_from more (i + 1) (at + size) (set a (i - 1) (get_or numbers 1 0)) (drop size s))

-- Whole texts

-- helper: first lines that were read
abbrev pub head : ℕ → Parameters → ℕ → Head
head line k size = record { parameters = k; line = line; size = size }

-- helper: what was found of a text
abbrev pub found : ℕ → Parameters → ℕ → Found
found line k steps = record { parameters = k; line = line; steps = steps }

-- [6.90] [6.100] [6.15] [6.40] [4.13] the names of the steps, which stand on this line after `at` bytes: the last of the first lines, in both shapes
abbrev pub after_limits : List ℕ → ℕ → ℕ → Parameters → Result Head Fault
after_limits text at line k =
    cond (not (starts_with event_names (drop at text))) (Err (fault BadNames line)) (Ok (head (line + 1) k (at + length event_names)))

-- [6.36] [6.45] [6.90] [4.12] [7.35] the limits are judged once all are read, at the line of the last of them
abbrev pub judge_limits : List ℕ → ℕ → ℕ → Parameters → Result Head Fault
judge_limits text at line k = cond (not (limits_stand k)) (Err (fault BadLimits line)) (after_limits text at (line + 1) k)

-- [6.32] [6.34] [6.90] [6.100] [6.15] [4.11] [4.13] [7.35] n, line 3, which stands after `at` bytes, and the lines of a
abbrev pub after_values : List ℕ → ℕ → ℕ → ℕ → ℕ → Result Head Fault
after_values text at n b c =
    cond (not (count_stands n)) (Err (fault BadCount 2))
    (cond (not (starts_with limit_names (drop at text))) (Err (fault BadNames 3))
    (onward (limits_from n 1 0 (replicate 96 0) (drop (at + length limit_names) text)) (λ a size.
    judge_limits text (at + length limit_names + size) (n + 3) (parameters_of n b c a))))

-- [6.30] [6.90] [6.100] [6.120] [4.14] line 2 as it was read
abbrev pub of_values : List ℕ → Result (Parsed (List ℕ)) Fault → Result Head Fault
of_values text l = onward l (λ numbers size.
    after_values text (length value_names + size) (get_or numbers 0 0) (get_or numbers 1 0) (get_or numbers 2 0))

-- [6.45] [6.90] [4.11] [4.12] [7.35] the former shape: n and the limits of line 2, and then line 3
abbrev pub after_former : List ℕ → ℕ → ℕ → ℕ → ℕ → ℕ → Result Head Fault
after_former text at n a b c = cond (not (count_stands n)) (Err (fault BadCount 2)) (judge_limits text at 2 (former_parameters n a b c))

-- [6.45] [6.90] [6.100] [6.120] [4.14] line 2 of the former shape as it was read
abbrev pub of_former : List ℕ → Result (Parsed (List ℕ)) Fault → Result Head Fault
of_former text l = onward l (λ numbers size.
    after_former text (length former_names + size) (get_or numbers 0 0) (get_or numbers 1 0) (get_or numbers 2 0) (get_or numbers 3 0))

-- [6.20] [6.45] [6.90] [6.100] [6.15] [4.13] [4.15] [7.35] the parameters, the line of the first step, and how many bytes the first lines
-- take; or the first refusal. Line 1 tells the two shapes apart
unfoldable pub head_of : List ℕ → Result Head Fault
head_of text =
    cond (ltb text_limit (length text)) (Err (fault BadLength 0))
    (cond (starts_with value_names text) (of_values text (numbers_at 2 2 (drop (length value_names) text)))
    (cond (starts_with former_names text) (of_former text (numbers_at 2 3 (drop (length former_names) text)))
    (Err (fault BadNames 1))))

-- [6.50] the steps up to the end of a text or to its first line that is no step; `fault` is the number of that line, or 0
pub record Body : Type 0 where
  pub events : List Event
  pub fault : ℕ

-- helper: a body with a step before it
abbrev pub before : Event → Body → Body
before e b = record { events = e ∷ b.events; fault = b.fault }

-- [6.50] [6.55] at most k lines, of which the first has the number `line`
unfoldable pub body_in : ℕ → ℕ → List ℕ → Body
body_in zero line [] = record { events = []; fault = 0 }
body_in zero line (x ∷ s) = record { events = []; fault = line }
body_in (suc k) line [] = record { events = []; fault = 0 }
body_in (suc k) line (x ∷ s) =
    elim (event_at line (x ∷ s)) [
      | Ok step ↦ before step.value (body_in k (line + 1) (drop step.size (x ∷ s)))
      | Err _ ↦ record { events = []; fault = line }
    ]

-- [6.50] [6.55] all lines: each has at least one byte
unfoldable pub body_of : ℕ → List ℕ → Body
body_of line s = body_in (length s) line s

-- [6.190] [6.195] what a text says: a trace, with the line of its first step; or a refusal and the line that it is reported at
pub data Trace : Type 0 where
  refused : Refusal → ℕ → Trace
  trace : ℕ → Parameters → List Event → Trace

-- [6.90] [6.110] [4.14] the steps from that line on, or the refusal of a line
abbrev pub of_body : ℕ → Parameters → Body → Trace
of_body line k body = cond (eqb body.fault 0) (trace line k body.events) (refused BadLine body.fault)

-- helper: what follows the first lines
abbrev pub of_head : List ℕ → Result Head Fault → Trace
of_head text (Ok h) = of_body h.line h.parameters (body_of h.line (drop h.size text))
of_head text (Err f) = refused f.refusal f.line

-- [6.90] the first lines, and then the steps
unfoldable pub trace_of : List ℕ → Trace
trace_of text = of_head text (head_of text)

-- The lent lists

-- [6.130]
pub record Lists : Type 0 where
  pub times : List ℕ
  pub processes : List ℕ
  pub actions : List ℕ

-- helper: of its parts
abbrev pub lists : List ℕ → List ℕ → List ℕ → Lists
lists times processes actions = record { times = times; processes = processes; actions = actions }

-- helper: three lists as they are lent
abbrev pub lent : Bor (List ℕ) → Bor (List ℕ) → Bor (List ℕ) → Lists
lent times processes actions = lists times.now processes.now actions.now

-- [6.133] as many steps as the shortest holds
abbrev pub room : Lists → ℕ
room l = min (length l.times) (min (length l.processes) (length l.actions))

-- [6.136] [6.156] values from the first place on; what stands after them stays
abbrev pub over : {A : Type 0} → List A → List A → List A
over values list = values ++ drop (length values) list

-- helper: the times of steps
abbrev pub times_of : List Event → List ℕ
times_of events = map (λ (e : Event). e.time) events

-- helper: their processes
abbrev pub processes_of : List Event → List ℕ
processes_of events = map (λ (e : Event). e.process) events

-- helper: their actions
abbrev pub actions_of : List Event → List ℕ
actions_of events = map (λ (e : Event). e.action) events

-- [6.130] the lists after these steps have been stored
abbrev pub stored : List Event → Lists → Lists
stored events l =
    lists (over (times_of events) l.times) (over (processes_of events) l.processes) (over (actions_of events) l.actions)

-- What a scan of a text gives back

-- helper: what was found, and the lent lists
pub record Scanned : Type 0 where
  pub scan : Result Found Fault
  pub kept : Lists

-- helper: of its parts
abbrev pub scan_gave : Result Found Fault → Lists → Scanned
scan_gave r l = record { scan = r; kept = l }

-- [6.90] [6.130] [6.133] [6.140] [4.16] 16 after all others; then the steps, and how many there are
abbrev pub into : Lists → Trace → Scanned
into l (refused why line) = scan_gave (Err (fault why line)) l
into l (trace line k events) =
    cond (ltb (room l) (length events)) (scan_gave (Err (fault ShortOutput 0)) l)
    (scan_gave (Ok (found line k (length events))) (stored events l))

-- [6.90] [6.130] [6.145] all that a scan of a text gives back
unfoldable pub scanned_of : List ℕ → Lists → Scanned
scanned_of text l = into l (trace_of text)

-- What a reading gives back: a scan, of which a caller is told less

-- [6.130] what the text was read as, or the answer of its refusal; and the lent lists
pub record Read : Type 0 where
  pub reading : Result Reading Answer
  pub kept : Lists

-- helper: of its parts
abbrev pub read_gave : Result Reading Answer → Lists → Read
read_gave r l = record { reading = r; kept = l }

-- helper: the parameters, and how many steps there are
abbrev pub reading_of : Parameters → ℕ → Reading
reading_of k steps = record { parameters = k; steps = steps }

-- [6.110] the line in the answer, of the line that a refusal is reported at
abbrev pub line_told : Refusal → ℕ → ℕ
line_told BadCount line = 0
line_told BadLimits line = 0
line_told _ line = line

-- [6.110] [6.130] [6.140] [4.70] [4.110] the parameters and how many steps there are, or the refusal with its line
abbrev pub reading_from : Result Found Fault → Result Reading Answer
reading_from (Ok f) = Ok (reading_of f.parameters f.steps)
reading_from (Err f) = Err (answer_of (code_of f.refusal) 0 (line_told f.refusal f.line))

-- [6.130] [6.140] all that a reading of a text gives back
unfoldable pub read_of : List ℕ → Lists → Read
read_of text l = read_gave (reading_from (scanned_of text l).scan) (scanned_of text l).kept
