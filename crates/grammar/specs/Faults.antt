-- Section 6 of the specification, the refusals of a reading from a second side: why a text is refused, said by what is written.
-- Assumes nothing.
use Rattle.std.specs.Prelude.{ℕ, ◌+◌, ◌≤◌, ◌<◌, ◌≡◌, ◌≢◌, ◌↔◌, true, false, List, [], ◌∷◌, ◌++◌, None, length}
use Rattle.model.specs.declared.Parameters.{Parameters}
use Rattle.model.specs.declared.Refusal.{Refusal}
use Rattle.model.specs.declared.Refusal.TheVariants.{BadCount, BadLimits, BadNames, BadLine, BadLength}
use Rattle.model.specs.States.{parameters_of, limits_in, count_stands, limits_stand, parameters_stand}
use Rattle.model.specs.Texts.{Event, numbers_text, value_names, values_text, limit_names, limits_text, event_names, event_text, events_text, text_limit}
use Rattle.model.specs.Texts.{former_names, former_parameters, former_values_text}
use Rattle.model.specs.Readings.{refused, trace_of}
use Rattle.model.specs.Writings.{formless_from}
use Rattle.grammar.specs.Digits.{digits_of, Few, HasForm}
use Rattle.grammar.specs.Exact.{FirstLines}

-- helper: a text does not start with this one
abbrev pub Differs : List ℕ → List ℕ → Type 0
Differs start text = (more : List ℕ) → text ≢ start ++ more

-- [6.30] [6.45] [6.120] nor with a line of n and so many numbers more
abbrev pub NoValues : ℕ → List ℕ → Type 0
NoValues more text = (n : ℕ) (others : List ℕ) → length others ≡ more → Few (n ∷ others) → Differs (numbers_text n others) text

-- [6.34] [6.120] nor with the line of a of process i
abbrev pub NoLimit : ℕ → List ℕ → Type 0
NoLimit i text = (a : ℕ) → digits_of a ≤ 8 → Differs (numbers_text i (a ∷ [])) text

-- [6.50] [6.160] nor with the line of a step that has a form
abbrev pub NoStep : List ℕ → Type 0
NoStep text = (e : Event) → HasForm e → Differs (event_text e) text

-- [6.20] [6.30] [6.45] line 1 of either shape, and how many numbers follow n on line 2
pub data Shape : List ℕ → ℕ → Type 0 where
  new : Shape value_names 2
  former : Shape former_names 3

-- helper: a text that is not too long and starts with this line 1 and these numbers on line 2, each with no more digits than it may have
pub record StartsWithValues (text first : List ℕ) (n : ℕ) (others rest : List ℕ) : Type 0 where
  pub short : length text ≤ text_limit
  pub is : text ≡ first ++ (numbers_text n others ++ rest)
  -- [6.120]
  pub digits : Few (n ∷ others)

-- [6.34] [6.36] [6.45] [6.120] the lines that have these parameters, in either shape, and the number of the last of them
pub data LimitLines : Parameters → List ℕ → ℕ → Type 0 where
  new : (n b c : ℕ) (a : List ℕ) → length a ≡ n → Few (n ∷ b ∷ c ∷ a)
      → LimitLines (parameters_of n b c (limits_in a)) (value_names ++ (values_text n b c ++ (limit_names ++ limits_text 1 a))) (n + 3)
  former : (n a b c : ℕ) → Few (n ∷ a ∷ b ∷ c ∷ []) → LimitLines (former_parameters n a b c) (former_names ++ former_values_text n a b c) 2

-- [6.195] [6.90] [7.35] A refusal and the line that it is reported at, each with what it says of the text; what would be
-- refused before it is ruled out.
pub data Fault (text : List ℕ) : Refusal → ℕ → Type 0 where
  -- [4.15]
  long : text_limit < length text → Fault text BadLength 0
  -- [4.13] [6.20] [6.45] [6.15] [6.100] line 1, of neither shape
  names : length text ≤ text_limit → Differs value_names text → Differs former_names text → Fault text BadNames 1
  -- [4.14] [6.30] [6.45] [6.15] [6.100] line 2
  values : (first rest : List ℕ) (more : ℕ) → Shape first more → length text ≤ text_limit → text ≡ first ++ rest
      → NoValues more rest → Fault text BadLine 2
  -- [4.11]
  count : (first : List ℕ) (n : ℕ) (others rest : List ℕ) → Shape first (length others) → StartsWithValues text first n others rest
      → count_stands n ≡ false → Fault text BadCount 2
  -- [4.13] [6.32] [6.15] [6.100] line 3 of the new shape
  limit-names : (n b c : ℕ) (rest : List ℕ) → StartsWithValues text value_names n (b ∷ c ∷ []) rest → count_stands n ≡ true
      → Differs limit_names rest → Fault text BadNames 3
  -- [4.14] [6.34] [6.15] [6.100] a line of a: those before it are of the processes before it, which have these values
  limit : (n b c : ℕ) (a rest : List ℕ) → StartsWithValues text value_names n (b ∷ c ∷ []) (limit_names ++ (limits_text 1 a ++ rest))
      → count_stands n ≡ true → Few a → length a < n → NoLimit (1 + length a) rest → Fault text BadLine (4 + length a)
  -- [4.12] [6.36]
  limits : (k : Parameters) (first rest : List ℕ) (line : ℕ) → LimitLines k first line → length text ≤ text_limit → text ≡ first ++ rest
      → count_stands k.n ≡ true → limits_stand k ≡ false → Fault text BadLimits line
  -- [4.13] [6.40] [6.15] [6.100] the line after those
  steps : (k : Parameters) (first rest : List ℕ) (line : ℕ) → LimitLines k first line → length text ≤ text_limit → text ≡ first ++ rest
      → parameters_stand k ≡ true → Differs event_names rest → Fault text BadNames (line + 1)
  -- [4.14] [6.50] [6.55] [6.15] the lines before it are those of steps that have a form
  step : (k : Parameters) (head : List ℕ) (line : ℕ) (events : List Event) (rest : List ℕ) → FirstLines k head line → length text ≤ text_limit
      → text ≡ head ++ (events_text events ++ rest) → parameters_stand k ≡ true → formless_from line events ≡ None → 0 < length rest → NoStep rest
      → Fault text BadLine (line + length events)

-- [6.195] a text is refused with a reason and a line exactly if it has that fault
abbrev pub RefusedExactly : Type 0
RefusedExactly = (text : List ℕ) (why : Refusal) (line : ℕ) → (trace_of text ≡ refused why line) ↔ Fault text why line

-- [6.195] and it has one fault at most
abbrev pub OneFault : Type 0
OneFault = (text : List ℕ) (why : Refusal) (line : ℕ) (why' : Refusal) (line' : ℕ) → Fault text why line → Fault text why' line'
    → (why ≡ why') × (line ≡ line')
