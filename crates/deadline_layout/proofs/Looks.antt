-- A look at an entry that is given as three numbers, stage by stage: whether its numbers stand, and what it finds then. Assumes nothing.
use Prim.Native.Nat.{ℕ, zero, suc, ◌+◌, ◌-◌, ◌^◌, ◌≤◌, ◌<◌}
use mathlib.Core.Path.{◌≡◌, refl, sym, ap, ◌∙◌}
use mathlib.Core.Logic.{◌≢◌}
use mathlib.Core.Bool.{Bool, true, false, cond, not, ◌&&◌, false≢true}
use mathlib.Core.List.{List}
use native.Mathlib.Omega.{arith}
use native.Mathlib.Nat.{mod-eq_of_lt}
use lib.Dec.{ltb, eqb}
use borrow.Author.Tests.{ltb-false, eqb-true, lt-leb, le-leb, le-ltb, eq-eqb, ne_eqb, not-false}
use Rattle.model.specs.Stages.{remainder, checking, critical, leaving}
use Rattle.model.proofs.Tests.{by_test, by_cond, if_eq, tests}
use Rattle.rules.specs.declared.survey.Scene.{Scene}
use Rattle.rules.specs.declared.survey.Survey.{Survey}
use Rattle.rules.specs.Survey.{unsound, critical_noted, due_from, due_noted}
use Rattle.deadlines.specs.Looks.{bounds_noted, back_from, settled_by, location_noted, three_zeros}
use Rattle.deadline_layout.specs.Encodings.{tells_times}
use Rattle.deadline_layout.specs.Steps.{numbers_noted_with, stage_in, first_in, last_in, standing_noted, OfArrival, Stands}

-- Two times of a location that has none

flip : (x : ℕ) → eqb 0 x ≡ eqb x 0
flip x = if_eq x 0 (λ e. rw e) (λ n. ne_eqb 0 x (λ e. n (sym e)) ∙ sym (ne_eqb x 0 n))

pub still : (first last : ℕ) → tells_times remainder first last ≡ three_zeros 0 first last
still first last = λ i. flip first i && flip last i

-- Two times of one that has some, where no sum wraps and the last is a number of 64 bits: the look finds a fault, or goes by the last

module _ (clock k first last opens closes : ℕ) (f : Survey) (o : clock + opens < 2 ^ 64) (c : closes < 2 ^ 64) where
  abbrev of_one : Bool
  of_one = settled_by 0 clock first last opens closes

  bounds_good : last < 2 ^ 64 → of_one ≡ true → bounds_noted clock k first last opens closes f ≡ due_noted clock k last f
  unfolding settled_by bounds_noted
  bounds_good fit e =
      let h = simp tests at e in
      let start : first ≡ back_from last closes + opens = h.1 ∙ mod-eq_of_lt (omega (arith, h.0.1)) in
      let came : first - opens ≡ back_from last closes = omega arith in
      let due : due_from (back_from last closes) closes ≡ last = omega arith in
      rw (
        le-ltb first opens (omega arith),
        came,
        le-ltb clock (back_from last closes) h.0.1,
        due,
        eq-eqb last last refl,
      )

  -- two times that the look does not refuse are of one arrival
  refused : of_one ≡ false → opens ≤ first → first - opens ≤ clock → last ≡ due_from (first - opens) closes → ⊥
  unfolding settled_by
  refused e below past is =
      let back : back_from last closes ≡ first - opens = omega arith in
      let start : first ≡ due_from (first - opens) opens = omega arith in
      false≢true (sym e ∙ rw back (simp (le-leb 0 last (omega arith), le-leb (first - opens) clock past, eq-eqb first _ start)))

  bounds_bad : of_one ≡ false → bounds_noted clock k first last opens closes f ≡ unsound
  unfolding bounds_noted
  bounds_bad e =
      let P : Survey → Type 0 = λ g. g ≡ unsound in
      by_cond P (ltb first opens) (λ _. refl)
      (λ below. by_cond P (ltb clock (first - opens)) (λ _. refl)
      (λ past. by_cond P (not (eqb last (due_from (first - opens) closes))) (λ _. refl)
      (λ is. absurd (refused e (ltb-false first opens below) (ltb-false clock (first - opens) past) (eqb-true last _ (not-false _ is))))))

  pub bounds_by : last < 2 ^ 64 → bounds_noted clock k first last opens closes f ≡ cond of_one (due_noted clock k last f) unsound
  bounds_by fit = by_test of_one (λ e. bounds_good fit e ∙ sym (rw e)) (λ e. bounds_bad e ∙ sym (rw e))

-- Stage by stage

module _ (x : Scene) (k first last b limit : ℕ) (f : Survey) where
  -- a stage past leaving tells no location
  past_noted : (stage : ℕ) → leaving < stage → numbers_noted_with x k stage first last b limit f ≡ unsound
  unfolding numbers_noted_with
  past_noted stage h = simp (lt-leb stage leaving h)

  idle_noted : numbers_noted_with x k remainder first last b limit f ≡ cond (three_zeros 0 first last) f unsound
  unfolding numbers_noted_with location_noted
  idle_noted = rw (still first last)

  module _ (h : k ≤ x.n) where
    critical-noted : numbers_noted_with x k critical first last b limit f ≡ cond (three_zeros 0 first last) (critical_noted x.acting k f) unsound
    unfolding numbers_noted_with location_noted
    critical-noted = rw (still first last, le-ltb x.n k h)

    checking_noted : numbers_noted_with x k checking first last b limit f ≡ bounds_noted x.clock k first last b x.c f
    unfolding numbers_noted_with location_noted
    checking_noted = simp (eq-eqb first first refl, eq-eqb last last refl, le-ltb x.n k h)

    timed-noted : (stage : ℕ) → stage ≢ remainder → stage ≢ checking → stage ≢ critical → stage ≤ leaving
        → numbers_noted_with x k stage first last b limit f ≡ bounds_noted x.clock k first last 0 limit f
    unfolding numbers_noted_with location_noted
    timed-noted zero a b c d = absurd (a refl)
    timed-noted (suc zero) a b c d = simp (eq-eqb first first refl, eq-eqb last last refl, le-ltb x.n k h)
    timed-noted (suc (suc zero)) a b c d = simp (eq-eqb first first refl, eq-eqb last last refl, le-ltb x.n k h)
    timed-noted (suc (suc (suc zero))) a b c d = absurd (b refl)
    timed-noted (suc (suc (suc (suc zero)))) a b c d = simp (eq-eqb first first refl, eq-eqb last last refl, le-ltb x.n k h)
    timed-noted (suc (suc (suc (suc (suc zero))))) a b c d = absurd (c refl)
    timed-noted (suc (suc (suc (suc (suc (suc zero)))))) a b c d = simp (eq-eqb first first refl, eq-eqb last last refl, le-ltb x.n k h)
    timed-noted (suc (suc (suc (suc (suc (suc (suc zero))))))) a b c d = simp (eq-eqb first first refl, eq-eqb last last refl, le-ltb x.n k h)
    timed-noted (suc (suc (suc (suc (suc (suc (suc (suc j)))))))) a b c d = absurd (omega arith)

-- Whether the numbers of an entry stand

module _ (e : List ℕ) (limit b : ℕ) (x : Scene) where
  abbrev first : ℕ
  first = first_in e

  abbrev last : ℕ
  last = last_in e

  pub idle_stands : {r : Bool} → stage_in e ≡ remainder → r ≡ three_zeros 0 first last → Stands e limit b x r
  unfolding standing_noted
  idle_stands s is = record { look = λ k f h. rw s (idle_noted x k first last b limit f ∙ ap (λ (t : Bool). cond t f unsound) (sym is)) }

  pub critical_stands : {r : Bool} → stage_in e ≡ critical → r ≡ three_zeros 0 first last → Stands e limit b x r
  unfolding standing_noted
  critical_stands s is = record {
    look = λ k f h. rw s (critical-noted x k first last b limit f h ∙ ap (λ (t : Bool). cond t (critical_noted x.acting k f) unsound) (sym is));
  }

  pub past_stands : leaving < stage_in e → Stands e limit b x false
  past_stands h = record { look = λ k f _. past_noted x k first last b limit f (stage_in e) h }

  -- what is noted of a timed location
  timed_standing : (k : ℕ) (f : Survey) → stage_in e ≢ remainder → stage_in e ≢ critical → standing_noted e x k f ≡ due_noted x.clock k last f
  unfolding standing_noted
  timed_standing k f some other = rw (ne_eqb (stage_in e) remainder some, ne_eqb (stage_in e) critical other)

  by_bounds : {r : Bool} (opens closes : ℕ) → stage_in e ≢ remainder → stage_in e ≢ critical → OfArrival e x.clock opens closes r
      → x.clock + opens < 2 ^ 64 → closes < 2 ^ 64 → (k : ℕ) (f : Survey)
      → bounds_noted x.clock k first last opens closes f ≡ cond r (standing_noted e x k f) unsound
  by_bounds opens closes some other s o c k f =
      bounds_by x.clock k first last opens closes f o c s.fits ∙ (λ j. cond (sym s.is j) (sym (timed_standing k f some other) j) unsound)

  pub checking_stands : {r : Bool} → x.clock + b < 2 ^ 64 → x.c < 2 ^ 64 → stage_in e ≡ checking → OfArrival e x.clock b x.c r → Stands e limit b x r
  checking_stands o c q s = record {
    look = λ k f h.
        ap (λ (j : ℕ). numbers_noted_with x k j first last b limit f) q ∙ checking_noted x k first last b limit f h
        ∙ by_bounds b x.c (λ z. omega arith) (λ z. omega arith) s o c k f;
  }

  pub timed_stands : {r : Bool} → x.clock + b < 2 ^ 64 → limit < 2 ^ 64 → stage_in e ≢ remainder → stage_in e ≢ checking → stage_in e ≢ critical
      → stage_in e ≤ leaving → OfArrival e x.clock 0 limit r → Stands e limit b x r
  timed_stands o c some plain other known s = record {
    look = λ k f h.
        timed-noted x k first last b limit f h (stage_in e) some plain other known
        ∙ by_bounds 0 limit some other s (omega arith) c k f;
  }
