-- Reading and writing undo each other. Assumes nothing.
use Prim.Native.Nat.{ℕ, ◌≤◌}
use mathlib.Core.Path.{◌≡◌, refl, ap, ◌∙◌}
use mathlib.Core.List.{List, [], ◌∷◌, ◌++◌, map}
use native.Mathlib.Omega.{arith}
use lib.ListN.{length, get_or, take, drop, length-map}
use lib.Seq.{take_at}
use Rattle.std.specs.Prelude.{None}
use Rattle.model.specs.declared.Reading.{Reading}
use Rattle.model.specs.declared.Parameters.{Parameters}
use Rattle.model.specs.Texts.{Event, value_names, head_text, first_line, events_text, trace_text, text_limit, former_names, former_parameters, former_head_text}
use Rattle.model.specs.Readings.{Lists, over, times_of, processes_of, actions_of, stored, Read, reading_of}
use Rattle.model.specs.Writings.{events_in, events_of, formless_from, written}
use Rattle.grammar.specs.Exact.{Formed, FirstLines, Says}
use Rattle.grammar.specs.RoundTrips.{first_of, events_read, rewritten, Starts, ReadThenWrite, WriteThenRead, SameEvents}
use Rattle.grammar.specs.RoundTrips.{ReadFormer, Renewed, ReadAgain, FormerThenWrite}
use Rattle.grammar.specs.Answers.{Readable}
use Rattle.grammar.proofs.Exact.{forms_anywhere, formed_says}
use Rattle.grammar.proofs.Answers.{read_is, read_as, write_is, write_iff, write_long, write_fitted, fitted_short}

-- The lists

events_again : (events : List Event) → events_in (times_of events) (processes_of events) (actions_of events) ≡ events
unfolding events_in
events_again [] = refl
events_again (e ∷ es) = ap (λ (l : List Event). e ∷ l) (events_again es)

-- the values that were stored, taken out again
front : (f : Event → ℕ) (events : List Event) (l : List ℕ) → take (length events) (over (map f events) l) ≡ map f events
front f events l = take_at (map f events) (drop (length (map f events)) l) (length events) (length-map events f)

pub events_back : (events : List Event) (l : Lists) → events_of (first_of (length events) (stored events l)) ≡ events
events_back events l =
    rw (
      front (λ (e : Event). e.time) events l.times,
      front (λ (e : Event). e.process) events l.processes,
      front (λ (e : Event). e.action) events l.actions,
    )
    (events_again events)

-- The shapes

-- line 1 tells them apart
names_new : {k : Parameters} {head : List ℕ} {line : ℕ} → FirstLines k head line → (rest : List ℕ) → Starts value_names (head ++ rest) → head ≡ head_text k
unfolding former_head_text
names_new (FirstLines.new k) rest s = refl
names_new (FirstLines.former n a b c) rest s =
    let z : ◌≡◌ {A = ℕ} 97 98 = ap (λ (l : List ℕ). get_or l 8 0) s.1 in absurd (omega arith)

record IsFormer (k : Parameters) (head : List ℕ) : Type 0 where
  n : ℕ
  a : ℕ
  b : ℕ
  c : ℕ
  head_is : head ≡ former_head_text n a b c
  parameters : k ≡ former_parameters n a b c

names_former : {k : Parameters} {head : List ℕ} {line : ℕ} → FirstLines k head line → (rest : List ℕ) → Starts former_names (head ++ rest) → IsFormer k head
unfolding head_text
names_former (FirstLines.new k) rest s =
    let z : ◌≡◌ {A = ℕ} 98 97 = ap (λ (l : List ℕ). get_or l 8 0) s.1 in absurd (omega arith)
names_former (FirstLines.former n a b c) rest s = record { n = n; a = a; b = b; c = c; head_is = refl; parameters = refl }

-- The round trips

-- what is said in either shape is written in the new one, if its text is not too long
module _ {text : List ℕ} {line : ℕ} {k : Parameters} {events : List Event} (s : Says text line k events) where
  forms_again : formless_from (first_line k) events ≡ None
  forms_again = forms_anywhere line (first_line k) events s.forms

  formed_again : length (trace_text k events) ≤ text_limit → Formed k events
  formed_again h = record { stand = s.stand; forms = forms_again; short = h }

  text_former : Starts former_names text → IsFormer k s.head
  text_former p = names_former s.shape (events_text events) (rw s.text_is at p)

  text_new : Starts value_names text → text ≡ trace_text k events
  text_new p = s.text_is ∙ ap (λ (l : List ℕ). l ++ events_text events) (names_new s.shape (events_text events) (rw s.text_is at p))

back : (text : List ℕ) (l : Lists) (out : List ℕ) {line : ℕ} {k : Parameters} {events : List Event} → Readable text l line k events
    → Starts value_names text → length text ≤ length out → rewritten (reading_of k (length events)) (stored events l) out ≡ written text out
back text l out {line} {k} {events} r p h =
    let e = text_new r.says p in
    rw (events_back events l) (write_is k events out (formed_again r.says (rw e at r.says.short)) (rw e at h) ∙ rw e)

pub read_then_write : ReadThenWrite
read_then_write text l out q p e h = let r = read_as text l q e in rw (r.is, r.gave) (back text l out r.readable p h)

-- of the former shape
module _ (text : List ℕ) (l : Lists) {line : ℕ} {k : Parameters} {events : List Event} (s : Says text line k events) where
  -- what the reading gave back
  abbrev given : Reading
  given = reading_of k (length events)

  abbrev kept : Lists
  kept = stored events l

  read_former : IsFormer k s.head → (n : ℕ) × (a : ℕ) × (b : ℕ) × (c : ℕ) × ReadFormer text given kept n a b c
  read_former f = (
    f.n,
    f.a,
    f.b,
    f.c,
    record {
      text_is = rw (events_back events l) (s.text_is ∙ ap (λ (h : List ℕ). h ++ events_text events) f.head_is);
      parameters = f.parameters;
    },
  )

  renewed : (out : List ℕ) → Renewed given kept out
  renewed out = record {
    long = rw (events_back events l) (write_long k events out s.stand (forms_again s));
    no_room = rw (events_back events l)
        (λ h g. write_fitted k events out s.stand (forms_again s) h ∙ fitted_short (trace_text k events) out g);
    fits = rw (events_back events l) (λ h g. write_is k events out (formed_again s h) g);
  }

  read_again : ReadAgain given kept
  read_again = rw (events_back events l) (λ h m g.
      let q = read_is (trace_text k events) m (first_line k) k events (record { says = formed_says (formed_again s h); fits = g }) in
      (q, ap (λ (x : Read). events_read given x.kept) q ∙ events_back events m))

pub former_then_write : FormerThenWrite
former_then_write text l out q p e =
    let r = read_as text l q e in
    let s = r.readable.says in
    rw (r.is, r.gave) (read_former text l s (text_former s p), renewed text l s out, read_again text l s)

pub write_then_read : WriteThenRead
write_then_read k l out m e h =
    let f = (write_iff k (events_of l) out).0 e in
    let text = trace_text k (events_of l) in
    rw (write_is k (events_of l) out f.0 f.1, take_at text (drop (length text) out) (length text) refl)
    (read_is text m (first_line k) k (events_of l) (record { says = formed_says f.0; fits = h }))

pub same_events : SameEvents
same_events k l out m e h =
    let r = write_then_read k l out m e h in
    let q = reading_of k (length (events_of l)) in
    (q, ap (λ (x : Read). x.reading) r, ap (λ (x : Read). events_read q x.kept) r ∙ events_back (events_of l) m)
