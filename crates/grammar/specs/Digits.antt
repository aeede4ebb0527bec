-- Section 6 of the specification, digits from a second side: how many a number has is told by the text that is written for it, and the
-- bounds that reader and writer share are those counts; so it is told which steps can be written. Assumes nothing.
use Rattle.std.specs.Prelude.{ℕ, ◌≤◌, ◌<◌, ◌^◌, ◌≡◌, ◌↔◌, true, List, [], ◌∷◌, length}
use Rattle.model.specs.Acts.{last_act}
use Rattle.model.specs.Texts.{decimal, time_bound, number_bound, Event, has_form}

-- [6.60] how many digits are written for v
abbrev pub digits_of : ℕ → ℕ
digits_of v = length (decimal v)

-- [6.65] a number has at most d digits exactly if it is below 10^d
abbrev pub DigitsIffBelow : Type 0
DigitsIffBelow = (d v : ℕ) → 1 ≤ d → (digits_of v ≤ d) ↔ (v < 10 ^ d)

-- [6.65] the two bounds
pub record BoundsAreDigits : Type 0 where
  pub time : (v : ℕ) → (v < time_bound) ↔ (digits_of v ≤ 13)
  pub number : (v : ℕ) → (v < number_bound) ↔ (digits_of v ≤ 8)

-- [6.65] [6.120] each of these, none of which is a time, has no more digits than it may have
abbrev pub Few : List ℕ → Type 0
Few [] = Unit
Few (v ∷ vs) = (digits_of v ≤ 8) × Few vs

-- [6.160] a step that can be written
pub record HasForm (e : Event) : Type 0 where
  pub time : digits_of e.time ≤ 13
  pub process : digits_of e.process ≤ 8
  pub action : e.action ≤ last_act

-- [6.160]
abbrev pub FormIffDigits : Type 0
FormIffDigits = (e : Event) → (has_form e ≡ true) ↔ HasForm e
