-- The comparison as it is worked out by the code: a pass over the times of two logs, the smallest and the largest difference, and the interval of
-- shifts between them. For the proofs only. Assumes nothing.
use Rattle.std.specs.Prelude.{ℕ, ◌+◌, ◌-◌, min, max, cond, ◌&&◌, List, [], ◌∷◌, ℤ, pos, nat_le, nat_lt, Option, Some, None, Result, Ok, Err}
use Rattle.std.proofs.Math.IntN.{sub_ℕ}
use Rattle.model.specs.declared.Refusal.{Refusal}
use Rattle.model.specs.Refusals.{code_of}
use Rattle.model.specs.States.{last_time}
use Rattle.local_log.specs.declared.Comparison.{Comparison}
use Rattle.local_log.specs.declared.passes.Differences.{Differences}
use Rattle.local_log.specs.Comparisons.{comparison}

-- helper: of its parts
abbrev pub differences : ℕ → ℕ → Differences
differences smallest largest = record { smallest = smallest; largest = largest }

-- the other time less the local one, and the clock's end more
abbrev pub difference : ℕ → ℕ → ℕ
difference stamp time = time + last_time - stamp

-- no difference is above it
abbrev pub twice : ℕ
twice = 2_000_000_000_000

-- before the first place
abbrev pub no_differences : Differences
no_differences = differences twice 0

-- one place more
unfoldable pub noted : Differences → ℕ → ℕ → Differences
noted p s t = differences (min p.smallest (difference s t)) (max p.largest (difference s t))

-- the differences at the places that are left, beside those before them
unfoldable pub all_from : Differences → List ℕ → List ℕ → Differences
all_from p [] times = p
all_from p (s ∷ stamps) [] = p
all_from p (s ∷ stamps) (t ∷ times) = all_from (noted p s t) stamps times

-- the same, or nothing where a time is not in time
unfoldable pub pass_from : Differences → List ℕ → List ℕ → Option Differences
pass_from p [] times = Some p
pass_from p (s ∷ stamps) [] = Some p
pass_from p (s ∷ stamps) (t ∷ times) = cond (nat_le s last_time && nat_le t last_time) (pass_from (noted p s t) stamps times) None

-- all of them
abbrev pub pass_of : List ℕ → List ℕ → Option Differences
pass_of stamps times = pass_from no_differences stamps times

-- what is answered to a shift that was found, or to a refusal
abbrev pub told : Result ℤ Refusal → Comparison
told (Ok shift) = comparison 0 shift
told (Err refusal) = comparison (code_of refusal) (pos 0)

-- the ends of the interval of shifts, and the clock's end more
abbrev pub lowest : ℕ → ℕ → ℕ → ℕ
lowest largest d e = max (last_time - d + e) largest - e

abbrev pub highest : ℕ → ℕ → ℕ → ℕ
highest smallest d e = min (last_time + d) (smallest + e)

-- its least shift, or that it is empty
unfoldable pub bounded_of : ℕ → ℕ → ℕ → ℕ → Comparison
bounded_of smallest largest d e =
    cond (nat_lt (highest smallest d e) (lowest largest d e)) (comparison 21 (pos 0)) (comparison 0 (sub_ℕ (lowest largest d e) last_time))
