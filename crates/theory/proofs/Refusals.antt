-- A step is refused exactly by the refusals: what `Steps` finds of it, read both ways. Assumes nothing.
use Prim.Native.Nat.{ℕ}
use mathlib.Core.Path.{refl, sym, ap, subst, ◌∙◌}
use mathlib.Core.Logic.{◌≢◌}
use Rattle.model.specs.Types.{State}
use Rattle.model.specs.declared.Answer.{Answer}
use Rattle.model.specs.Types.{Outcome}
use Rattle.theory.specs.Refusals.{Refusal, RefusedIffRefusal}
use Rattle.theory.proofs.Steps.{Stepped, stepped, refusal_step}

-- a refusal, by its answer
abbrev RefusedBy : State → ℕ → ℕ → ℕ → Answer → Type 0
RefusedBy s act p m r = Refusal s act p m r.code r.process r.time

refused_by : {s : State} {act p m : ℕ} {o : Outcome} → Stepped s act p m o → o.answer.code ≢ 0 → RefusedBy s act p m o.answer
refused_by (Stepped.refused r) n = r
refused_by (Stepped.accepted _ _) n = absurd (n refl)

pub refused_iff_refusal : RefusedIffRefusal
refused_iff_refusal s act p m code process time n = (
  λ e. subst (RefusedBy s act p m) e (refused_by (stepped s act p m) (λ z. n (sym (ap (λ (r : Answer). r.code) e) ∙ z))),
  λ r. ap (λ (o : Outcome). o.answer) (refusal_step s act p m r),
)
