-- One entry of the pass: what a note of it finds, in the terms of the model's searches. The first deadline so far is held as the time left to
-- it, so it is not before the clock: a deadline that is not sooner is not past either. Assumes nothing.
use Rattle.std.proofs.Common.{◌≡◌, ℕ, ◌+◌, ◌-◌, ◌^◌, ◌<◌, ◌≤◌, true, false, cond, not, eqb, ltb, leb, ◌≢◌, refl, ◌∙◌, mod-eq_of_lt, arith}
use Rattle.std.proofs.Common.{ltb-false, ltb-true, le-ltb, lt-ltb, ne_eqb, le-leb, leb-false, leb-true}
use borrow.Author.Tests.{lt-leb, not-true, not-false}
use Rattle.model.specs.Types.{Location}
use Rattle.model.specs.declared.Location.TheVariants.{Remainder, Testing, Setting, Checking, Entering, Critical, Resetting, Leaving}
use Rattle.model.specs.Types.{Process}
use Rattle.model.specs.Types.{State}
use Rattle.model.specs.Stages.{remainder, checking, critical}
use Rattle.model.specs.States.{last_time, bounded, entry, stage_of, since_of, timed, limit_of, deadline, entry_sound}
use Rattle.model.specs.Answers.{Due, due, none_due, sooner}
use Rattle.rules.specs.declared.survey.Survey.{Survey}
use Rattle.rules.specs.Survey.{scene_of, endless, faulted, critical_at, first_at, due_from, due_so_far, due_noted, timed_noted, critical_noted, noted}
use Rattle.model.proofs.Tests.{by_cond}
use Rattle.rules.specs.Judging.{other_critical}
use Rattle.rules.proofs.Entries.{stay_of, idle_sound, past_unsound, critical_sound, timed_sound}

-- the first deadline so far, where its sum does not wrap
pub so_far_is : (clock : ℕ) (f : Survey) → clock + f.left < 2 ^ 64 → due_so_far clock f ≡ clock + f.left
so_far_is clock f h = mod-eq_of_lt h

-- what a survey's process and time left tell of the first deadline so far: there is none, or it comes so long after the clock
pub data Finds (s : State) (process left : ℕ) : Due → Type 0 where
  none : process ≡ 0 → left ≡ endless → Finds s process left none_due
  one : process ≢ 0 → left ≤ s.parameters.c → Finds s process left (due process (s.clock + left))

-- no stay of process k is past c, and c is so small that neither a time left nor a sum is too large
pub record Ends (s : State) (k : ℕ) : Type 0 where
  pub clock : s.clock ≤ last_time
  pub limit : limit_of s k ≤ s.parameters.c
  pub check : s.parameters.c ≤ 10_000_000

-- the first of two process numbers that is not 0
abbrev pub first : ℕ → ℕ → ℕ
first x y = cond (eqb x 0) y x

-- entry q of process k is sound, and g is what is found with it where f was found without it
pub record Turn (s : State) (acting k : ℕ) (q : Process) (f g : Survey) : Type 0 where
  pub faultless : g.faulty ≡ 0
  pub sound : entry_sound s k q ≡ true
  pub narrow : g.left ≤ endless
  pub due_next : {d : Due} → Finds s f.process f.left d
      → Finds s g.process g.left (cond (sooner (bounded s q) (deadline s k q) d) (due k (deadline s k q)) d)
  pub critical_next : (rest : ℕ) → first f.critical (cond (other_critical acting k q) k rest) ≡ first g.critical rest

pub data Noted (s : State) (acting k : ℕ) (q : Process) (f g : Survey) : Type 0 where
  fault : entry_sound s k q ≡ false → g.faulty ≢ 0 → Noted s acting k q f g
  fine : Turn s acting k q f g → Noted s acting k q f g

module _ (s : State) (acting k : ℕ) (f : Survey) (so_far : f.faulty ≡ 0) (narrow : f.left ≤ endless) (ends : Ends s k) (some : 1 ≤ k) where
  abbrev NotedAs : Location → Survey → Type 0
  NotedAs l g = Noted s acting k (entry l) f g

  -- A timed location

  module _ (l : Location) (t : timed l ≡ true) (away : eqb (stage_of l) remainder ≡ false) (out : eqb (stage_of l) critical ≡ false) where
    abbrev time : ℕ
    time = deadline s k (entry l)

    -- of a process up to n that came at no time after the clock
    module _ (h : k ≤ s.parameters.n) (came : since_of l ≤ s.clock) where
      ends_within : time ≤ s.clock + s.parameters.c
      ends_within =
          let e : stay_of s k l ≤ s.parameters.c =
          by_cond (λ (x : ℕ). x ≤ s.parameters.c) (eqb (stage_of l) checking) (λ _. omega arith) (λ _. ends.limit) in
          omega arith

      fits : due_from (since_of l) (stay_of s k l) ≡ time
      fits = mod-eq_of_lt (omega (arith, ends_within, ends.clock, ends.check))

      on_time : s.clock ≤ time → entry_sound s k (entry l) ≡ true
      on_time a = timed_sound s k h l t ∙ simp (le-leb (since_of l) s.clock came, le-ltb time s.clock a)

      -- its deadline is not sooner than the first so far
      later : s.clock + f.left ≤ time → NotedAs l f
      later a = fine (record {
        faultless = so_far;
        sound = on_time (omega arith);
        narrow = narrow;
        due_next = next;
        critical_next = λ rest. rw out;
      })
        where
          next : {d : Due} → Finds s f.process f.left d
              → Finds s f.process f.left (cond (sooner (bounded s (entry l)) (deadline s k (entry l)) d) (due k time) d)
          next (none z e) = absurd (omega (arith, e, ends_within, ends.check))
          next (one n w) = rw (t, ne_eqb f.process 0 n, le-ltb time (s.clock + f.left) a) (one n w)

      -- it is, and it is not past
      first_so_far : time < s.clock + f.left → s.clock ≤ time → NotedAs l (first_at k (time - s.clock) f)
      first_so_far a b = fine (record {
        faultless = so_far;
        sound = on_time b;
        narrow = omega (arith, narrow);
        due_next = next;
        critical_next = λ rest. rw out;
      })
        where
          found : Finds s k (time - s.clock) (due k time)
          found =
              let e : s.clock + (time - s.clock) ≡ time = omega arith in
              let g : Finds s k (time - s.clock) (due k (s.clock + (time - s.clock))) = one (λ z. omega arith) (omega (arith, ends_within)) in
              rw e at g

          next : {d : Due} → Finds s f.process f.left d
              → Finds s k (time - s.clock) (cond (sooner (bounded s (entry l)) (deadline s k (entry l)) d) (due k time) d)
          next (none z e) = rw t found
          next (one n w) = rw (t, ne_eqb f.process 0 n, lt-ltb time (s.clock + f.left) a) found

      came_noted : NotedAs l (due_noted s.clock k time f)
      came_noted =
          rw (so_far_is s.clock f (omega (arith, ends.clock)))
          (by_cond (NotedAs l) (leb (s.clock + f.left) time)
          (λ a. later (leb-true (s.clock + f.left) time a))
          (λ a. by_cond (NotedAs l) (ltb time s.clock)
          (λ b. fault (timed_sound s k h l t ∙ simp (le-leb (since_of l) s.clock came, b)) (λ z. omega arith))
          (λ b. first_so_far (leb-false (s.clock + f.left) time a) (ltb-false time s.clock b))))

    timed-noted : NotedAs l (cond (ltb s.parameters.n k) (faulted f) (timed_noted s.clock k (since_of l) (stay_of s k l) f))
    timed-noted =
        by_cond (NotedAs l) (ltb s.parameters.n k)
        (λ e. fault (past_unsound s k l away (ltb-true s.parameters.n k e)) (λ z. omega arith))
        (λ e. let h : k ≤ s.parameters.n = ltb-false s.parameters.n k e in
        by_cond (NotedAs l) (ltb s.clock (since_of l))
        (λ a. fault (timed_sound s k h l t ∙ simp (lt-leb (since_of l) s.clock (ltb-true s.clock (since_of l) a))) (λ z. omega arith))
        (λ a. let came : since_of l ≤ s.clock = ltb-false s.clock (since_of l) a in rw (fits h came) (came_noted h came)))

  -- An untimed location, which leaves the first deadline as it is

  remainder_noted : NotedAs Remainder f
  remainder_noted = fine (record {
    faultless = so_far;
    sound = idle_sound s k;
    narrow = narrow;
    due_next = λ d. d;
    critical_next = λ rest. refl;
  })

  -- x is the lowest critical process with it
  critical_turn : k ≤ s.parameters.n → (x : ℕ)
      → ((rest : ℕ) → first f.critical (cond (other_critical acting k (entry Critical)) k rest) ≡ first x rest)
      → NotedAs Critical (critical_at x f)
  critical_turn h x next = fine (record {
    faultless = so_far;
    sound = critical_sound s k h;
    narrow = narrow;
    due_next = λ d. d;
    critical_next = next;
  })

  critical-noted : NotedAs Critical (cond (ltb s.parameters.n k) (faulted f) (critical_noted acting k f))
  critical-noted =
      by_cond (NotedAs Critical) (ltb s.parameters.n k)
      (λ e. fault (past_unsound s k Critical refl (ltb-true s.parameters.n k e)) (λ z. omega arith))
      (λ e. let h : k ≤ s.parameters.n = ltb-false s.parameters.n k e in
      by_cond (NotedAs Critical) (eqb k acting)
      (λ a. critical_turn h f.critical (λ rest. simp a))
      (λ a. by_cond (NotedAs Critical) (not (eqb f.critical 0))
      (λ b. critical_turn h f.critical (λ rest. simp (a, not-true (eqb f.critical 0) b)))
      (λ b. critical_turn h k (λ rest. simp (a, not-false (eqb f.critical 0) b, ne_eqb k 0 (λ z. omega arith))))))

  -- Each location

  pub note-at : (l : Location) → NotedAs l (noted (scene_of s.parameters s.clock acting) k l (limit_of s k) f)
  unfolding noted
  note-at Remainder = remainder_noted
  note-at (Testing t) = timed-noted (Testing t) refl refl refl
  note-at (Setting t) = timed-noted (Setting t) refl refl refl
  note-at (Checking t) = timed-noted (Checking t) refl refl refl
  note-at (Entering t) = timed-noted (Entering t) refl refl refl
  note-at Critical = critical-noted
  note-at (Resetting t) = timed-noted (Resetting t) refl refl refl
  note-at (Leaving t) = timed-noted (Leaving t) refl refl refl
