-- What the calls of a round trip give back, by what each call ensures. Assumes nothing.
use Prim.Native.Nat.{ℕ, ◌≤◌}
use mathlib.Core.Path.{◌≡◌, refl, sym, ap, ◌∙◌, subst}
use mathlib.Core.Logic.{◌≢◌}
use mathlib.Core.List.{List, map}
use native.Mathlib.Omega.{arith}
use lib.ListN.{length, drop, length-append, length-map}
use borrow.Author.Tests.{eq-eqb, ne_eqb}
use Rattle.model.specs.declared.Parameters.{Parameters}
use Rattle.std.specs.Prelude.{Result, Ok, Err}
use Rattle.model.specs.declared.Answer.{Answer}
use Rattle.model.specs.declared.Reading.{Reading}
use Rattle.model.specs.Texts.{Event, trace_text}
use Rattle.model.specs.Readings.{Lists, over, stored, Read, read_gave, reading_of, read_of}
use Rattle.model.specs.Writings.{events_of, Written, write_gave, write_of}
use Rattle.grammar.specs.RoundTrips.{first_of, events_read, rewritten, rereading}
use Rattle.grammar.proofs.Answers.{read_as, refused_some, write_is, write_iff}
use Rattle.grammar.proofs.RoundTrips.{events_back, read_then_write, write_then_read, same_events}
use Rattle.round_trips.specs.Trips.{rewrite_from, rewrite_of, reread_of, ComesBack, ReadsAlike, StepsComeBack}

-- Reading, then writing

-- each list has that many places
pub record Held (count : ℕ) (l : Lists) : Type 0 where
  pub times : count ≤ length l.times
  pub processes : count ≤ length l.processes
  pub actions : count ≤ length l.actions

over_long : (f : Event → ℕ) (events : List Event) (l : List ℕ) → length events ≤ length (over (map f events) l)
over_long f events l = omega (arith, length-append (map f events) (drop (length (map f events)) l), length-map events f)

held_of : (k : Parameters) (events : List Event) (l : Lists) {q : Reading} {kept : Lists} → q ≡ reading_of k (length events)
    → kept ≡ stored events l → Held q.steps kept
held_of k events l e f =
    rw (e, f)
    (record {
      times = over_long (λ (e : Event). e.time) events l.times;
      processes = over_long (λ (e : Event). e.process) events l.processes;
      actions = over_long (λ (e : Event). e.action) events l.actions;
    })

-- as many places as steps were read are in each list
pub held : (text : List ℕ) (l : Lists) {q : Reading} {r : Result Reading Answer} {kept : Lists} → read_gave r kept ≡ read_of text l → r ≡ Ok q
    → Held q.steps kept
held text l {q} e s =
    let read = read_as text l q (sym (ap (λ (x : Read). x.reading) e) ∙ s) in
    held_of read.k read.events l read.is (ap (λ (x : Read). x.kept) (e ∙ read.gave))

module _ (l : Lists) (out : List ℕ) where
  pub rewrite_refused : {r : Result Reading Answer} (answer : Answer) → r ≡ Err answer → rewrite_of (read_gave r l) out ≡ write_gave answer out
  unfolding rewrite_of
  rewrite_refused answer e = rw e

  pub rewrite_done : {r : Result Reading Answer} (q : Reading) → r ≡ Ok q → rewrite_of (read_gave r l) out ≡ rewritten q l out
  unfolding rewrite_of
  rewrite_done q e = rw e

-- a recording that is read comes back
pub rewrite_same : (text : List ℕ) (l : Lists) (out : List ℕ) → ComesBack text l out (rewrite_of (read_of text l) out).out
unfolding rewrite_of
rewrite_same text l out q s e h = rw e (ap (λ (w : Written). w.out) (read_then_write text l out q s e h))

-- what was read, of what was written of it
read_back : (text : List ℕ) (l : Lists) (q : Reading) → (read_of text l).reading ≡ Ok q
    → reading_of q.parameters (length (events_read q (read_of text l).kept)) ≡ q
read_back text l q e = let r = read_as text l q e in rw (r.is, r.gave, events_back r.events l)

pub rewrite_alike : (text : List ℕ) (l : Lists) (out : List ℕ) → ReadsAlike text l (rewrite_of (read_of text l) out)
unfolding rewrite_of
rewrite_alike text l out = go (read_of text l).reading refl
  where
    go : (r : Result Reading Answer) → (read_of text l).reading ≡ r → ReadsAlike text l (rewrite_from r (read_of text l).kept out)
    go (Err answer) e z = absurd (refused_some text l answer e z)
    go (Ok q) e z = (
      q,
      e,
      λ m h.
          write_then_read q.parameters (first_of q.steps (read_of text l).kept) out m z h
          ∙ ap (λ (p : Reading). read_gave (Ok p) (stored (events_read q (read_of text l).kept) m)) (read_back text l q e),
    )

-- Writing, then reading

-- as many bytes as a writing with answer 0 counts are in the output
abbrev WriteHeld : Written → Type 0
WriteHeld w = w.answer.code ≡ 0 → w.answer.time ≤ length w.out

write_held : (k : Parameters) (events : List Event) (out : List ℕ) → WriteHeld (write_of k events out)
write_held k events out e =
    let f = (write_iff k events out).0 e in
    let text = trace_text k events in
    rw (write_is k events out f.0 f.1) (omega (arith, length-append text (drop (length text) out)))

pub written_held : (k : Parameters) (events : List Event) (out : List ℕ) {w : Written} → w ≡ write_of k events out
    → w.answer.code ≡ 0 → w.answer.time ≤ length w.out
written_held k events out e = subst WriteHeld (sym e) (write_held k events out)

module _ (w : Written) (l : Lists) where
  pub reread_refused : w.answer.code ≢ 0 → reread_of w l ≡ read_gave (Err w.answer) l
  unfolding reread_of
  reread_refused z = rw (ne_eqb _ _ z)

  pub reread_done : w.answer.code ≡ 0 → reread_of w l ≡ rereading w l
  unfolding reread_of
  reread_done z = rw (eq-eqb _ _ z)

-- steps that are written come back
pub reread_same : (k : Parameters) (l : Lists) (out : List ℕ) (m : Lists)
    → StepsComeBack k (events_of l) out m (reread_of (write_of k (events_of l) out) m)
unfolding reread_of
reread_same k l out m z h = rw (eq-eqb _ _ z) (same_events k l out m z h)
