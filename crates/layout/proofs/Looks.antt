-- A look at an entry that is given as two numbers is a look at the location that they tell, and finds a fault where they tell none.
-- Assumes nothing.
use Rattle.std.proofs.Common.{◌≡◌, ℕ, zero, suc, ◌<◌, ◌≤◌, true, false, sym, refl, arith, le-ltb, lt-ltb, eq-eqb, ne_eqb, eqb-true}
use borrow.Author.Tests.{eqb-false}
use Rattle.model.specs.Stages.{remainder, checking, leaving}
use Rattle.model.specs.States.{location_at}
use Rattle.layout.specs.Encodings.{tells_entry}
use Rattle.rules.specs.declared.survey.Scene.{Scene}
use Rattle.rules.specs.declared.survey.Survey.{Survey}
use Rattle.rules.specs.Survey.{faulted, noted, later_noted, numbers_noted}
use Rattle.model.proofs.Tests.{clash, tests}

-- a stage past leaving
abbrev further_by : ℕ → ℕ
further_by j = suc (suc (suc (suc (suc (suc (suc (suc j)))))))

past : (x : Scene) (k stage since limit : ℕ) (f : Survey) → leaving < stage → numbers_noted x k stage since limit f ≡ faulted f
unfolding numbers_noted later_noted
past x k stage since limit f h =
    simp (ne_eqb stage remainder (λ e. omega arith), le-ltb stage checking (omega arith), lt-ltb leaving stage h)

pub numbers-noted : (x : Scene) (k stage since limit : ℕ) (f : Survey) → k ≤ x.n → tells_entry stage since ≡ true
    → numbers_noted x k stage since limit f ≡ noted x k (location_at stage since) limit f
unfolding numbers_noted later_noted noted
numbers-noted x k zero since limit f h e = simp (eq-eqb since 0 (sym (eqb-true 0 since e)))
numbers-noted x k (suc zero) since limit f h e = simp (le-ltb x.n k h)
numbers-noted x k (suc (suc zero)) since limit f h e = simp (le-ltb x.n k h)
numbers-noted x k (suc (suc (suc zero))) since limit f h e = simp (le-ltb x.n k h)
numbers-noted x k (suc (suc (suc (suc zero)))) since limit f h e = simp (le-ltb x.n k h)
numbers-noted x k (suc (suc (suc (suc (suc zero))))) since limit f h e = simp (le-ltb x.n k h, eq-eqb since 0 (sym (eqb-true 0 since e)))
numbers-noted x k (suc (suc (suc (suc (suc (suc zero)))))) since limit f h e = simp (le-ltb x.n k h)
numbers-noted x k (suc (suc (suc (suc (suc (suc (suc zero))))))) since limit f h e = simp (le-ltb x.n k h)
numbers-noted x k (suc (suc (suc (suc (suc (suc (suc (suc j)))))))) since limit f h e =
    absurd (omega (arith, (simp tests at e).0))

pub numbers_faulty : (x : Scene) (k stage since limit : ℕ) (f : Survey) → tells_entry stage since ≡ false
    → numbers_noted x k stage since limit f ≡ faulted f
unfolding numbers_noted later_noted
numbers_faulty x k zero since limit f e = simp (ne_eqb since 0 (λ z. eqb-false 0 since e (sym z)))
numbers_faulty x k (suc zero) since limit f e = clash (eq-eqb since since refl) e
numbers_faulty x k (suc (suc zero)) since limit f e = clash (eq-eqb since since refl) e
numbers_faulty x k (suc (suc (suc zero))) since limit f e = clash (eq-eqb since since refl) e
numbers_faulty x k (suc (suc (suc (suc zero)))) since limit f e = clash (eq-eqb since since refl) e
numbers_faulty x k (suc (suc (suc (suc (suc zero))))) since limit f e = simp (ne_eqb since 0 (λ z. eqb-false 0 since e (sym z)))
numbers_faulty x k (suc (suc (suc (suc (suc (suc zero)))))) since limit f e = clash (eq-eqb since since refl) e
numbers_faulty x k (suc (suc (suc (suc (suc (suc (suc zero))))))) since limit f e = clash (eq-eqb since since refl) e
numbers_faulty x k (suc (suc (suc (suc (suc (suc (suc (suc j)))))))) since limit f e = past x k (further_by j) since limit f (omega arith)
