-- Section 5 of the specification from a second side: the soundness of a summary in plain facts, what a recorded step gives back, by its
-- answer, and how it counts its act. Assumes nothing.
use Rattle.std.specs.Prelude.{ℕ, ◌+◌, ◌-◌, ◌≤◌, ◌<◌, ◌≡◌, ◌≢◌, ◌↔◌, true, false, length, get_or}
use Rattle.model.specs.Types.{Location}
use Rattle.model.specs.Types.{State}
use Rattle.model.specs.declared.Counts.{Counts}
use Rattle.model.specs.declared.Statistics.{Statistics}
use Rattle.model.specs.declared.Recorded.{Recorded}
use Rattle.model.specs.Acts.{try_act, crit_act, exit_act, withdraw_act}
use Rattle.model.specs.States.{last_time, trying, sound_of}
use Rattle.model.specs.Answers.{answer_of, step_of}
use Rattle.model.specs.Facts.{IsCritical, IsTrying, Tries}
use Rattle.theory.specs.Soundness.{Sound}
use Rattle.model.specs.Summaries.{most_acts, statistics_sound, recorded_of}

-- [5.40] [5.50] of the counts; the sums are those of numbers without an end
pub record CountsSound (k : Counts) : Type 0 where
  pub acts : k.accepted + k.refused ≤ most_acts
  pub turns : k.entries + k.exits ≤ k.accepted
  pub longest : k.longest ≤ last_time

-- [5.40] beside a table with this clock
pub record SummarySound (clock : ℕ) (x : Statistics) : Type 0 where
  pub counts : CountsSound x.counts
  -- past the list's end 0 is looked at, which no clock is below
  pub waited : (k : ℕ) → get_or x.waited k 0 ≤ clock

-- [5.40]
abbrev pub SummarySoundIffPlain : Type 0
SummarySoundIffPlain = (clock : ℕ) (x : Statistics) → (statistics_sound clock x ≡ true) ↔ SummarySound clock x

-- [5.60] an act more can be counted
abbrev pub NotFull : Statistics → Type 0
NotFull x = x.counts.accepted + x.counts.refused ≢ most_acts

-- [5.110] what is asked of the summary, beside a table with this clock
pub record HasRoom (clock : ℕ) (x : Statistics) : Type 0 where
  pub sound : SummarySound clock x
  pub not_full : NotFull x

-- [5.30] [4.80] when a recorded step gives 1, 2 or 3, what these leave, and that it is the step otherwise; for what is counted,
-- `ActCounted`
pub record RecordedTells (s : State) (x : Statistics) (act p m : ℕ) (r : Recorded) : Type 0 where
  -- [4.1]
  pub one : (r.outcome.answer.code ≡ 1) ↔ (sound_of s ≡ false)
  -- [4.2] after 1
  pub two : (r.outcome.answer.code ≡ 2) ↔ ((sound_of s ≡ true) × (SummarySound s.clock x → ⊥))
  -- [4.3] after 1 and 2
  pub three : (r.outcome.answer.code ≡ 3)
      ↔ ((sound_of s ≡ true) × SummarySound s.clock x × (x.counts.accepted + x.counts.refused ≡ most_acts))
  -- [5.110] where neither 2 nor 3 applies; a state that is not sound is answered alike by both
  pub step : HasRoom s.clock x → r.outcome ≡ step_of s act p m
  -- [4.1] [4.2] [4.3] [5.105] [4.110] 1, 2 and 3 carry 0 and 0, and change nothing
  pub unchanged : 1 ≤ r.outcome.answer.code → r.outcome.answer.code ≤ 3
      → (r.outcome.answer ≡ answer_of r.outcome.answer.code 0 0) × (r.outcome.state ≡ s) × (r.statistics ≡ x)

-- [5.30] [5.105] [5.110] of any table and any summary, sound or not
abbrev pub RecordedIsPlain : Type 0
RecordedIsPlain = (s : State) (x : Statistics) (act p m : ℕ) → RecordedTells s x act p m (recorded_of s x act p m)

-- What is counted, in plain facts

-- [5.100] y is the summary x with one refused act more
pub record RefusedAdded (x y : Statistics) : Type 0 where
  pub refused_rises : y.counts.refused ≡ x.counts.refused + 1
  pub accepted_stays : y.counts.accepted ≡ x.counts.accepted
  pub entries_stay : y.counts.entries ≡ x.counts.entries
  pub exits_stay : y.counts.exits ≡ x.counts.exits
  pub longest_stays : y.counts.longest ≡ x.counts.longest
  pub waited_stays : y.waited ≡ x.waited

-- [2.110] that a process is trying, which the facts below ask, is a matter of its location alone
abbrev pub TryingIffPlain : Type 0
TryingIffPlain = (l : Location) → (trying l ≡ true) ↔ Tries l

-- [5.75] d is the unused time of an act at the time m: the clock moves on by d and nobody is critical, or somebody is and d is 0
pub data Unused (s : State) (m : ℕ) : ℕ → Type 0 where
  free : {d : ℕ} → ((i : ℕ) → IsCritical s i → ⊥) → s.clock + d ≡ m → Unused s m d
  used : (i : ℕ) → IsCritical s i → Unused s m 0

-- [5.70] [5.90] what an accepted act makes of the entries, the exits and the longest wait; a crit ends the wait w
pub data Counting (w : ℕ) : (act entries exits longest entries' exits' longest' : ℕ) → Type 0 where
  -- a crit that ends a longer wait than any before
  crit_longer : {e x l : ℕ} → l < w → Counting w crit_act e x l (e + 1) x w
  -- a crit that ends no longer one
  crit : {e x l : ℕ} → w ≤ l → Counting w crit_act e x l (e + 1) x l
  exit : {e x l : ℕ} → Counting w exit_act e x l e (x + 1) l
  other : {act e x l : ℕ} → act ≢ crit_act → act ≢ exit_act → Counting w act e x l e x l

-- [5.80] an act that starts or ends a wait of its process
pub data Clears : ℕ → Type 0 where
  try : Clears try_act
  crit : Clears crit_act
  withdraw : Clears withdraw_act

-- [5.10] what process p, from 1, has waited so far
abbrev pub waited_so_far : Statistics → ℕ → ℕ
waited_so_far x p = get_or x.waited (p - 1) 0

-- [5.75] [5.80] what the processes have waited so far after the act, in y, from what they had before it, in x; d is its unused time
pub record Waiting (s : State) (act p d : ℕ) (x y : Statistics) : Type 0 where
  pub cleared : Clears act → waited_so_far y p ≡ 0
  pub trying : (i : ℕ) → IsTrying s i → (Clears act → i ≢ p) → waited_so_far y i ≡ waited_so_far x i + d
  pub others : (i : ℕ) → 1 ≤ i → (IsTrying s i → ⊥) → (Clears act → i ≢ p) → waited_so_far y i ≡ waited_so_far x i
  pub size_stays : length y.waited ≡ length x.waited

-- [5.70] [5.75] [5.80] [5.90] y is the summary x with the accepted act of process p at the time m in the state s counted
pub record AcceptedAdded (s : State) (act p m : ℕ) (x y : Statistics) : Type 0 where
  pub accepted_rises : y.counts.accepted ≡ x.counts.accepted + 1
  pub refused_stays : y.counts.refused ≡ x.counts.refused
  pub unused : ℕ
  pub is_unused : Unused s m unused
  -- the wait that a crit ends: what its process has waited so far, and the unused time of the crit itself
  pub counting : Counting (waited_so_far x p + unused) act x.counts.entries x.counts.exits x.counts.longest
      y.counts.entries y.counts.exits y.counts.longest
  pub waiting : Waiting s act p unused x y

-- [5.30] the recorded step r of the state s and the summary x counts its act, and is the step but for that
pub record ActCounted (s : State) (x : Statistics) (act p m : ℕ) (r : Recorded) : Type 0 where
  -- [5.110]
  pub step : r.outcome ≡ step_of s act p m
  -- [5.100] [4.110]
  pub refused : r.outcome.answer.code ≢ 0 → (r.outcome.state ≡ s) × RefusedAdded x r.statistics
  -- [5.70] [5.75] [5.80] [5.90]
  pub accepted : r.outcome.answer.code ≡ 0 → AcceptedAdded s act p m x r.statistics

-- [5.70] [5.75] [5.80] [5.90] [5.100] [5.110] beside a sound state any summary that is sound and not full, whoever made it, counts every act;
-- it has 96 waits so far, as each of the code does
abbrev pub EveryActCounted : Type 0
EveryActCounted = (s : State) (x : Statistics) → Sound s → HasRoom s.clock x → length x.waited ≡ 96
    → (act p m : ℕ) → ActCounted s x act p m (recorded_of s x act p m)

-- [5.112] a summary that is sound beside the state is sound beside the one that a recorded step gives back
abbrev pub SummaryStaysSound : Type 0
SummaryStaysSound = (s : State) (x : Statistics) → SummarySound s.clock x → (act p m : ℕ)
    → SummarySound (recorded_of s x act p m).outcome.state.clock (recorded_of s x act p m).statistics
