-- Lists of calls of any kind, each made where the one before it led: `gives s d` is what the call d gives back at s, and `next` tells
-- where that leads. Lists of steps, of recorded steps, of calls on lent numbers and the steps of a trace are instances. A chain has for each
-- call one of the results that `Allows` has for it, and a log has each call with what came of it. Assumes nothing.
use Rattle.std.specs.Prelude.{List, [], ◌∷◌}

-- helper: where a list of calls leads
unfoldable pub end_by : {S D R : Type 0} → (S → D → R) → (R → S) → S → List D → S
end_by gives next s [] = s
end_by gives next s (d ∷ ds) = end_by gives next (next (gives s d)) ds

-- helper: what each of them gives back
unfoldable pub results_by : {S D R : Type 0} → (S → D → R) → (R → S) → S → List D → List R
results_by gives next s [] = []
results_by gives next s (d ∷ ds) = gives s d ∷ results_by gives next (next (gives s d)) ds

-- helper: where what a call gives back is itself where the next call is made
abbrev pub itself : {A : Type 0} → A → A
itself a = a

-- [8.40] a result for each call, one of those that `Allows` has for it, where the result before it led
pub data Chained {S D R : Type 0} (Allows : S → D → R → Type 0) (next : R → S) : S → List D → List R → Type 0 where
  ended : {s : S} → Chained Allows next s [] []
  made : {s : S} {d : D} {ds : List D} {r : R} {rs : List R} → Allows s d r → Chained Allows next (next r) ds rs
      → Chained Allows next s (d ∷ ds) (r ∷ rs)

-- helper: where the last result leads, or the start where there is none
abbrev pub last_of : {S R : Type 0} → (R → S) → S → List R → S
last_of next s [] = s
last_of next s (r ∷ rs) = last_of next (next r) rs

-- [5.120] [10.150] [10.220] the log of these calls and of what came of them, before an earlier log: the last call stands first, and the log
-- ends with the shorter list
unfoldable pub log_by : {D R A : Type 0} → (D → R → A) → List A → List D → List R → List A
log_by note log [] rs = log
log_by note log (d ∷ ds) [] = log
log_by note log (d ∷ ds) (r ∷ rs) = log_by note (note d r ∷ log) ds rs
