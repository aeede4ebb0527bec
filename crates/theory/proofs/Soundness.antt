-- `sound_of` tells the sound states, two may be critical in one, and `fresh_of` gives a fresh table exactly for the parameters that stand.
-- Assumes nothing.
use Prim.Native.Nat.{ℕ, zero, suc, ◌+◌, ◌-◌, ◌≤◌, ◌<◌}
use mathlib.Core.Path.{◌≡◌, refl, ap, subst}
use mathlib.Core.Logic.{◌≢◌, ◌↔◌}
use mathlib.Core.Bool.{true, false, not}
use mathlib.Core.List.{List, [], ◌∷◌}
use native.Mathlib.Omega.{arith}
use lib.Dec.{leb}
use lib.ListN.{replicate}
use borrow.Author.Tests.{leb-true, leb-false, lt-leb, not-true, not-false}
use Rattle.model.specs.declared.Location.TheVariants.{Remainder, Critical}
use Rattle.model.specs.Types.{Process}
use Rattle.model.specs.declared.Parameters.{Parameters}
use Rattle.model.specs.Types.{State}
use Rattle.model.specs.declared.Answer.{Answer}
use Rattle.model.specs.Types.{Outcome}
use Rattle.model.specs.States.{limits_in, equal_limits, parameters_of, no_parameters, count_stands, own_stand, limits_stand, parameters_stand, last_time}
use Rattle.model.specs.States.{entry, idle, initial, stage_of, entry_sound, entries_sound, sound_of, entry_of}
use Rattle.model.specs.Answers.{answer_of, answers, blank, fresh_of}
use Rattle.model.specs.Facts.{Accepted, IsFresh, Arrival}
use Rattle.theory.specs.Soundness.{CountStands, LimitsStand, ParametersStand, Sound, SoundIffPlain, TwoCriticalMayBeSound}
use Rattle.theory.specs.Soundness.{Fresh, FreshTable, FreshIsPlain}
use Rattle.model.proofs.Tests.{by_test, by_cond, clash, and_true_iff, tests}
use Rattle.theory.proofs.OwnLimits.{limits_iff_plain}
use Rattle.theory.proofs.Entries.{same_at, Among, here, there, each_entry, among_entry, among_from}
use Rattle.model.proofs.Locations.{stage_location}
use Rattle.theory.proofs.Locations.{Latest, past_iff, not_late_iff}

-- One entry

-- the part of `Sound` that speaks of process i, whose entry is q
pub record EntryPlain (s : State) (i : ℕ) (q : Process) : Type 0 where
  pub above : s.parameters.n < i → q.location ≡ Remainder
  pub past : (t : ℕ) → Arrival q.location t → t ≤ s.clock
  pub in-time : (d : ℕ) → Latest s i q d → s.clock ≤ d

-- an entry in remainder has neither arrival nor deadline
remainder_plain : (s : State) (i : ℕ) (q : Process) → q.location ≡ Remainder → EntryPlain s i q
remainder_plain s i q e = record {
  above = λ h. e;
  past = rw e (λ t a. elim a [ ]);
  in-time = rw e (λ d h. elim h [ ]);
}

entry_plain : (s : State) (i : ℕ) (q : Process) → entry_sound s i q ≡ true → EntryPlain s i q
entry_plain s i q e =
    let h = simp (not_late_iff, past_iff, tests) at e in
    by_test (leb i s.parameters.n)
    (λ t. let k = h.0 (leb-true _ _ t) in record { above = λ a. clash t (lt-leb _ _ a); past = k.0; in-time = k.1 })
    (λ t. remainder_plain s i q (stage_location q.location (h.1 (leb-false _ _ t))))

plain_entry : (s : State) (i : ℕ) (q : Process) → EntryPlain s i q → entry_sound s i q ≡ true
plain_entry s i q h = simp (not_late_iff, past_iff, tests) (λ k. (h.past, h.in-time), λ k. ap stage_of (h.above k))

-- All entries

entries_each : (s : State) {i j : ℕ} {qs : List Process} {q : Process}
    → Among i qs j q → entries_sound s i qs ≡ true → entry_sound s j q ≡ true
unfolding entries_sound
entries_each s here e = ((and_true_iff _ _).0 e).0
entries_each s {i} (there {q = q} a) e = entries_each s a ((and_true_iff (entry_sound s i q) _).0 e).1

entries_all : (s : State) (i : ℕ) (qs : List Process)
    → ((j : ℕ) (q : Process) → Among i qs j q → entry_sound s j q ≡ true) → entries_sound s i qs ≡ true
unfolding entries_sound
entries_all s i [] h = refl
entries_all s i (q ∷ qs) h = (and_true_iff _ _).1 (h i q here, entries_all s (i + 1) qs (λ j r a. h j r (there a)))

-- The state

entries_plain : (s : State) → entries_sound s 1 s.processes ≡ true → (i : ℕ) → 1 ≤ i → EntryPlain s i (entry_of s i)
entries_plain s e =
    each_entry (EntryPlain s) (λ j. remainder_plain s j idle refl) s (λ j q a. entry_plain s j q (entries_each s a e))

-- the part of `Sound` that speaks of no process
pub record NumbersPlain (s : State) : Type 0 where
  pub parameters : ParametersStand s.parameters
  pub clock : s.clock ≤ last_time
  pub word : s.word ≤ s.parameters.n

-- `Sound` speaks of each number i, and `entry_of` gives 0, which is no process, the entry of process 1
pub sound_from : (s : State) → NumbersPlain s → ((i : ℕ) → 1 ≤ i → EntryPlain s i (entry_of s i)) → Sound s
unfolding entry_of
sound_from s h each = record {
  parameters = h.parameters;
  clock = h.clock;
  word = h.word;
  above = λ i k. (each i (omega arith)).above k;
  past = λ i. elim i as (λ (k : ℕ). (t : ℕ) → Arrival (entry_of s k).location t → t ≤ s.clock)
      [ zero ↦ (each 1 (omega arith)).past | suc k ↦ (each (suc k) (omega arith)).past ];
  in-time = λ i d k. (each i k.from).in-time d k.is;
}

sound_plain : (s : State) → sound_of s ≡ true → Sound s
unfolding sound_of
sound_plain s e =
    let h = simp tests at e in
    let count : CountStands s.parameters.n = omega arith in
    sound_from s (record {
      parameters = record { count = count; limits = (limits_iff_plain s.parameters count).0 h.0.0.0.1 };
      clock = omega arith;
      word = omega arith;
    }) (entries_plain s h.1)

plain_sound : (s : State) → Sound s → sound_of s ≡ true
unfolding sound_of
plain_sound s h = simp tests (
  (((omega arith, (limits_iff_plain s.parameters h.parameters.count).1 h.parameters.limits), omega arith), omega arith),
  entries_all s 1 s.processes (λ j q a. plain_entry s j q (subst (EntryPlain s j) (among_entry s a) (record {
    above = h.above j;
    past = h.past j;
    in-time = λ d k. h.in-time j d (record { from = among_from a; is = k });
  }))),
)

pub sound_iff_plain : SoundIffPlain
sound_iff_plain s = (sound_plain s, plain_sound s)

-- A fresh table

-- answers with different codes differ
other : {code process time code' process' time' : ℕ} → answer_of code process time ≡ answer_of code' process' time' → code ≢ code' → ⊥
other e n = n (ap (λ (r : Answer). r.code) e)

initial_fresh : (k : Parameters) → Fresh k (initial k)
unfolding entry_of
initial_fresh k = record {
  parameters_are = refl;
  clock_is = refl;
  word_is = refl;
  size = refl;
  all = λ i. ap (λ (q : Process). q.location) (same_at 96 (i - 1) idle);
}

initial_entry : (k : Parameters) (i : ℕ) → EntryPlain (initial k) i (entry_of (initial k) i)
initial_entry k i = remainder_plain (initial k) i (entry_of (initial k) i) ((initial_fresh k).all i)

initial_sound : (k : Parameters) → ParametersStand k → sound_of (initial k) ≡ true
initial_sound k stands = plain_sound (initial k) (record {
  parameters = stands;
  clock = omega arith;
  word = omega arith;
  above = λ i. (initial_entry k i).above;
  past = λ i. (initial_entry k i).past;
  in-time = λ i d h. (initial_entry k i).in-time d h.is;
})

blank_unsound : sound_of blank ≡ false
unfolding sound_of
blank_unsound = refl

-- what `fresh_of` gives, and why
data Made (k : Parameters) : Outcome → Type 0 where
  given : ParametersStand k → Made k (answers 0 0 0 (initial k))
  no_count : (CountStands k.n → ⊥) → Made k (answers 11 0 0 blank)
  no_limits : CountStands k.n → (LimitsStand k → ⊥) → Made k (answers 12 0 0 blank)

made : (k : Parameters) → Made k (fresh_of k)
unfolding fresh_of
made k =
    by_cond (Made k) (not (count_stands k.n)) (λ e. no_count (λ h. omega (arith, (simp tests at e) h.some)))
    (λ f. let count : CountStands k.n = omega (arith, simp tests at f) in
    let limits = limits_iff_plain k count in
    by_cond (Made k) (not (limits_stand k)) (λ e. no_limits count (λ h. clash (limits.1 h) (not-true _ e)))
    (λ g. given (record { count = count; limits = limits.0 (not-false _ g) })))

module _ {k : Parameters} where
  -- a refusal, whichever: nothing is given
  refused_table : {code : ℕ} → code ≢ 0 → (ParametersStand k → ⊥) → ((answer_of code 0 0 ≡ answer_of 11 0 0) ↔ (CountStands k.n → ⊥))
      → ((answer_of code 0 0 ≡ answer_of 12 0 0) ↔ (CountStands k.n × (LimitsStand k → ⊥))) → FreshTable k (answers code 0 0 blank)
  refused_table n stands count limits = record {
    accepted = (λ e. absurd (n e), λ h. absurd (stands h));
    answer = λ e. absurd (n e);
    count = count;
    limits = limits;
    fresh = λ e. absurd (n e);
    sound = λ e. absurd (n e);
    refused = λ _. initial_fresh no_parameters;
    unsound = λ _. blank_unsound;
  }

  made_table : {o : Outcome} → Made k o → FreshTable k o
  made_table (given h) = record {
    accepted = (λ _. h, λ _. refl);
    answer = λ _. refl;
    count = (λ e. absurd (other e (omega arith)), λ n. absurd (n h.count));
    limits = (λ e. absurd (other e (omega arith)), λ n. absurd (n.1 h.limits));
    fresh = λ _. initial_fresh k;
    sound = λ _. initial_sound k h;
    refused = λ n. absurd (n refl);
    unsound = λ n. absurd (n refl);
  }
  made_table (no_count n) = refused_table (omega arith) (λ h. n h.count)
      (λ _. n, λ _. refl)
      (λ e. absurd (other e (omega arith)), λ h. absurd (n h.0))
  made_table (no_limits c n) = refused_table (omega arith) (λ h. n h.limits)
      (λ e. absurd (other e (omega arith)), λ h. absurd (h c))
      (λ _. (c, n), λ _. refl)

pub fresh_is_plain : FreshIsPlain
fresh_is_plain k = made_table (made k)

-- an accepted call gives a fresh table
pub fresh_is : (k : Parameters) → Accepted (fresh_of k) → IsFresh (fresh_of k).state
fresh_is k e = record { parameters = k; accepted = e; is = refl }

-- and it is accepted with parameters that stand
pub stand_fresh : (k : Parameters) → parameters_stand k ≡ true → IsFresh (fresh_of k).state
unfolding fresh_of
stand_fresh k e =
    let stand = (and_true_iff (count_stands k.n) (limits_stand k)).0 e in
    fresh_is k (rw (stand.0, stand.1))

-- A sound state with two critical processes

abbrev with_two : State
with_two = record {
  parameters = parameters_of 2 8 12 (equal_limits 2 5);
  clock = 0;
  word = 0;
  processes = entry Critical ∷ entry Critical ∷ replicate 94 idle;
}

pub two_critical_may_be_sound : TwoCriticalMayBeSound
unfolding sound_of limits_stand own_stand limits_in entries_sound entry_of
two_critical_may_be_sound = (
  with_two,
  record {
    sound = (sound_iff_plain with_two).0 refl;
    size = refl;
    first = record { from = omega arith; at = refl };
    second = record { from = omega arith; at = refl };
  },
)
