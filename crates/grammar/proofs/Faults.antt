-- Laws of the refusals as `Fault` says them. That a refused text has such a fault is in `Exact`. Assumes nothing.
use Prim.Native.Nat.{ℕ, ◌<◌}
use mathlib.Core.Path.{◌≡◌}
use mathlib.Core.Bool.{false}
use mathlib.Core.List.{List}
use native.Mathlib.Omega.{arith}
use lib.ListN.{length, drop}
use Rattle.model.specs.declared.Refusal.{Refusal}
use Rattle.model.specs.Refusals.{code_of}
use Rattle.model.specs.Readings.{starts_with}
use Rattle.model.proofs.Tests.{by_test, clash}
use Rattle.grammar.specs.Faults.{Differs, Fault, long, names, values, count, limit-names, limit, limits, steps, step}
use Rattle.grammar.proofs.Fields.{starts_here, starts_took}

-- a refusal has a number that is not 0
pub fault_some : {text : List ℕ} {why : Refusal} {line : ℕ} → Fault text why line → (0 < code_of why) × (code_of why < 16)
fault_some (long h) = omega arith
fault_some (names h d f) = omega arith
fault_some (values first rest more w h e d) = omega arith
fault_some (count first n others rest w s c) = omega arith
fault_some (limit-names n b c rest s e d) = omega arith
fault_some (limit n b c a rest s e f l d) = omega arith
fault_some (limits k first rest line w h e c l) = omega arith
fault_some (steps k first rest line w h e st d) = omega arith
fault_some (step k head line events rest w h e st f some none) = omega arith

pub differs : (w s : List ℕ) → starts_with w s ≡ false → Differs w s
differs w s e more q = clash (starts_here w more) (rw q at e)

pub starts_not : (w s : List ℕ) → Differs w s → starts_with w s ≡ false
starts_not w s d = by_test (starts_with w s) (λ t. absurd (d (drop (length w) s) (starts_took w s t).split)) (λ t. t)
