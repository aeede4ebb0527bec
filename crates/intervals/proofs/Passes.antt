-- The text that is put step by step is that of the intervals, as the attempts of a run take turns; and it is no longer than the trace.
-- Assumes nothing.
use Prim.Native.Nat.{ℕ, ◌+◌, ◌≤◌}
use mathlib.Core.Path.{◌≡◌, refl, sym, ap, ◌∙◌}
use mathlib.Core.Bool.{Bool, true, false}
use mathlib.Core.List.{List, [], ◌∷◌, ◌++◌, append_assoc}
use native.Mathlib.Omega.{arith}
use lib.ListN.{length, length-append}
use Rattle.model.specs.Types.{State}
use Rattle.model.specs.Texts.{comma, newline, number_text, word_text, Event, event_text, events_text}
use Rattle.model.specs.Tallies.{Attempt, attempted, is_entry, is_exit}
use Rattle.model.specs.Facts.{IsFresh}
use Rattle.model.specs.Executions.{codes_from, attempts_of, attempts_from}
use Rattle.model.proofs.Tests.{by_cond}
use Rattle.grammar.proofs.Lines.{number_length}
use Rattle.intervals.specs.Intervals.{end_of, intervals_of, interval_names, end_text, interval_text, interval_lines, intervals_text}
use Rattle.intervals.specs.Runs.{AcceptedCrit, AcceptedExit}
use Rattle.intervals.specs.Parts.{part_text, parts_text, open_with, open_after, last_text, rest_text, pass_text}
use Rattle.intervals.proofs.Marks.{entry_true, exit_true, entry_false, exit_false, leaves_not_enters}
use Rattle.intervals.proofs.Alternation.{Turn, Alternate}
use Rattle.intervals.proofs.Alternating.{entered_intervals, same_intervals, ended_there, same_end}
use Rattle.intervals.proofs.Runs.{takes_turns}

-- Attempts one after the other

pub parts_append : (xs ys : List Attempt) → parts_text (xs ++ ys) ≡ parts_text xs ++ parts_text ys
unfolding parts_text
parts_append [] ys = refl
parts_append (x ∷ xs) ys = rw (parts_append xs ys) (sym (append_assoc (part_text x) (parts_text xs) (parts_text ys)))

pub open_append : (opened : Bool) (xs ys : List Attempt) → open_after opened (xs ++ ys) ≡ open_after (open_after opened xs) ys
unfolding open_after
open_append opened [] ys = refl
open_append opened (x ∷ xs) ys = open_append (open_with opened x) xs ys

-- What one attempt puts

regroup : (a b c d : List ℕ) → (a ++ b) ++ (c ++ d) ≡ (a ++ (b ++ c)) ++ d
regroup a b c d = sym (append_assoc (a ++ b) c d) ∙ ap (λ (x : List ℕ). x ++ d) (append_assoc a b c)

module _ {e : Attempt} (es : List Attempt) (opened : Bool) where
  entered_rest : AcceptedCrit e → rest_text opened (e ∷ es) ≡ (number_text comma e.process ++ number_text comma e.time) ++ rest_text true es
  unfolding part_text parts_text open_with open_after
  entered_rest h =
      rw (entry_true h) (append_assoc (number_text comma e.process ++ number_text comma e.time) (parts_text es) (last_text (open_after true es)))

  left_rest : AcceptedExit e → rest_text opened (e ∷ es) ≡ number_text newline e.time ++ rest_text false es
  unfolding part_text parts_text open_with open_after
  left_rest h =
      rw (entry_false (leaves_not_enters h), exit_true h)
      (append_assoc (number_text newline e.time) (parts_text es) (last_text (open_after false es)))

  same_rest : (AcceptedCrit e → ⊥) → (AcceptedExit e → ⊥) → rest_text opened (e ∷ es) ≡ rest_text opened es
  unfolding part_text parts_text open_with open_after
  same_rest n m = rw (entry_false n, exit_false m)

-- All of them

-- while nobody is critical a line begins with the next crit; while process p is, its line is begun
record Puts (p : ℕ) (es : List Attempt) : Type 0 where
  free : p ≡ 0 → rest_text false es ≡ interval_lines (intervals_of es)
  taken : 1 ≤ p → rest_text true es ≡ end_text (end_of p es) ++ interval_lines (intervals_of es)

puts : {p t r : ℕ} {es : List Attempt} → Alternate p t es r → Puts p es
unfolding end_of intervals_of interval_lines interval_text end_text parts_text open_after
puts Alternate.ended = record { free = λ _. refl; taken = λ _. refl }
puts (Alternate.turned {e = e} {es = es} (Turn.enters h none own some at on) a) = record {
  free = λ _.
      entered_rest es false h
      ∙ rw (entered_intervals es h, rw own at ((puts a).taken some))
      (regroup (number_text comma e.process) (number_text comma e.time) (end_text (end_of e.process es)) (interval_lines (intervals_of es)));
  taken = λ some'. absurd (omega arith);
}
puts (Alternate.turned {e = e} {es = es} (Turn.leaves l own some none at on) a) = record {
  free = λ z. absurd (omega arith);
  taken = λ _. left_rest es true l ∙ rw (ended_there es l own, same_intervals es (leaves_not_enters l), (puts a).free none);
}
puts {p} (Alternate.turned {es = es} (Turn.passes n m same on) a) = record {
  free = λ z. same_rest es false n m ∙ rw (same_intervals es n) ((puts a).free (same ∙ z));
  taken = λ some. same_rest es true n m ∙ rw (same_end es p m, same_intervals es n) (rw same at ((puts a).taken (omega (arith, same))));
}

pub pass-text : {s : State} → IsFresh s → (events : List Event) → pass_text s events ≡ intervals_text (intervals_of (attempts_from s events))
unfolding intervals_text pass_text
pass-text fresh events = ap (λ (text : List ℕ). interval_names ++ text) ((puts (takes_turns fresh events)).free refl)

-- Room

part_short : (e : Event) (code : ℕ) → length (part_text (attempted e code)) ≤ length (event_text e)
unfolding part_text event_text
part_short e code =
    let whole = length-append (number_text comma e.time) (number_text comma e.process ++ word_text e.action) in
    let rest = length-append (number_text comma e.process) (word_text e.action) in
    by_cond (λ (text : List ℕ). length text ≤ length (event_text e)) (is_entry (attempted e code))
    (λ _. omega (arith, whole, rest, length-append (number_text comma e.process) (number_text comma e.time)))
    (λ _.
    by_cond (λ (text : List ℕ). length text ≤ length (event_text e)) (is_exit (attempted e code))
    (λ _. omega (arith, whole, number_length e.time newline, number_length e.time comma))
    (λ _. omega arith))

parts_short : (es : List Event) (codes : List ℕ) → length (parts_text (attempts_of es codes)) ≤ length (events_text es)
unfolding parts_text attempts_of events_text
parts_short [] codes = omega arith
parts_short (e ∷ es) [] = omega arith
parts_short (e ∷ es) (code ∷ codes) =
    omega (
      arith,
      length-append (part_text (attempted e code)) (parts_text (attempts_of es codes)),
      length-append (event_text e) (events_text es),
      part_short e code,
      parts_short es codes,
    )

last_short : (opened : Bool) → length (last_text opened) ≤ 2
last_short true = omega arith
last_short false = omega arith

-- the names line and a dash have fewer bytes than the first lines of a trace, of whichever shape: those have 38 or more
pub pass_short : (s : State) (events : List Event) → length (pass_text s events) ≤ 38 + length (events_text events)
unfolding pass_text
pass_short s events =
    let es = attempts_from s events in
    omega (
      arith,
      length-append interval_names (rest_text false es),
      length-append (parts_text es) (last_text (open_after false es)),
      parts_short events (codes_from s events),
      last_short (open_after false es),
    )
