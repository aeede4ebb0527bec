-- What a text tells: it is read as a trace exactly when it is a text for that trace, in either shape, and the trace has a form, and any
-- other has a fault. Assumes nothing.
use Prim.Native.Nat.{ℕ, zero, suc, ◌+◌, ◌≤◌, ◌<◌}
use mathlib.Core.Path.{◌≡◌, refl, sym, ap, ◌∙◌}
use mathlib.Core.Logic.{◌≢◌}
use mathlib.Core.Bool.{true}
use mathlib.Core.List.{List, [], ◌∷◌, ◌++◌, append_assoc, append-nil}
use native.Mathlib.Omega.{arith}
use lib.Dec.{eqb}
use lib.ListN.{length, drop, length-append, length-drop}
use lib.Seq.{drop-append_seam}
use borrow.Author.Tests.{eqb-true, eqb-false}
use Rattle.std.specs.Prelude.{None, Result, Ok, Err}
use Rattle.model.specs.declared.Refusal.{Refusal}
use Rattle.model.specs.declared.Refusal.TheVariants.{BadLine}
use Rattle.model.specs.declared.Parsed.{Parsed}
use Rattle.model.specs.declared.Fault.{Fault as Refused}
use Rattle.model.specs.declared.Head.{Head}
use Rattle.model.specs.declared.Parameters.{Parameters}
use Rattle.model.specs.States.{parameters_stand}
use Rattle.model.specs.Texts.{Event, event_text, head_text, first_line, events_text, trace_text, has_form, text_limit}
use Rattle.model.specs.Readings.{parsed, fault, event_at, head as head_gave, head_of, Body, body_in, body_of, Trace, refused, trace, of_body, of_head, trace_of}
use Rattle.model.specs.Writings.{formless_from}
use Rattle.grammar.specs.Exact.{Formed, FirstLines, Says, ReadExactly, WordForEachAct}
use Rattle.grammar.specs.Faults.{NoStep, Fault, long, names, values, count, limit-names, limit, limits, steps, step, RefusedExactly, OneFault}
use Rattle.model.proofs.Tests.{by_test, by_cond}
use Rattle.grammar.proofs.Lines.{took_then, event_some, event_was, event_reads}
use Rattle.grammar.proofs.Digits.{form_iff_digits}
use Rattle.grammar.proofs.Bodies.{body_step, body_fault, body_end}
use Rattle.grammar.proofs.Shapes.{first-line}
use Rattle.grammar.proofs.Heads.{HeadTook, head_line, HeadTells, head_tells, head_reads, trace_refused, trace_events, trace_fault}
use Rattle.grammar.proofs.Heads.{fails_long, fails_names, fails_values, fails_count, fails_limit_names, fails_limit, fails_limits, fails_steps}

-- The steps

no_step : (line : ℕ) (s : List ℕ) (r : Refused) → event_at line s ≡ Err r → NoStep s
no_step line s r u e f more q =
    let read = sym u ∙ (ap (event_at line) q ∙ event_reads line e more ((form_iff_digits e).1 f)) in cc

-- the steps before a line that is none, which `rest` starts with
record Stops (line : ℕ) (b : Body) (rest : List ℕ) : Type 0 where
  named : b.fault ≡ line + length b.events
  some : 0 < length rest
  none : NoStep rest

-- what steps tell of the text that they were read from: they were written so, each has a form, and nothing is left or no step
record BodyTells (s : List ℕ) (line : ℕ) (b : Body) : Type 0 where
  rest : List ℕ
  split : s ≡ events_text b.events ++ rest
  forms : (n : ℕ) → formless_from n b.events ≡ None
  ends : b.fault ≡ 0 → rest ≡ []
  stops : b.fault ≢ 0 → Stops line b rest

nothing_left : (line : ℕ) → BodyTells [] line (record { events = []; fault = 0 })
unfolding events_text formless_from
nothing_left line = record { rest = []; split = refl; forms = λ _. refl; ends = λ _. refl; stops = λ n. absurd (n refl) }

body_tells : (k line : ℕ) (s : List ℕ) → 0 < line → length s ≤ k → BodyTells s line (body_in k line s)
unfolding body_in events_text formless_from
body_tells zero line [] p h = nothing_left line
body_tells zero line (x ∷ s) p h = absurd (omega arith)
body_tells (suc k) line [] p h = nothing_left line
body_tells (suc k) line (x ∷ s) p h = go (event_at line (x ∷ s)) refl (λ i. body_tells k (line + 1) (drop i (x ∷ s)) (omega arith))
  where
    go : (r : Result (Parsed Event) Refused) → event_at line (x ∷ s) ≡ r
        → ((i : ℕ) → length (drop i (x ∷ s)) ≤ k → BodyTells (drop i (x ∷ s)) (line + 1) (body_in k (line + 1) (drop i (x ∷ s))))
        → BodyTells (x ∷ s) line (body_in (suc k) line (x ∷ s))
    go (Err f) q later =
        rw (q, body_in)
        (record {
          rest = x ∷ s;
          split = refl;
          forms = λ _. refl;
          ends = λ (z : line ≡ 0). absurd (omega arith);
          stops = λ _. record { named = omega arith; some = omega arith; none = no_step line (x ∷ s) f q };
        })
    go (Ok l) q later =
        let w = event_was line (x ∷ s) l q in
        let r = later l.size (omega (arith, length-drop l.size (x ∷ s), w.took.size, event_some l.value)) in
        rw (q, body_in)
        (record {
          rest = r.rest;
          split = took_then w.took _ r.rest r.split;
          forms = λ n. rw w.formed (r.forms (n + 1));
          ends = r.ends;
          stops = λ n. let o = r.stops n in record { named = omega (arith, o.named); some = o.some; none = o.none };
        })

pub first_formed : (line : ℕ) (e : Event) (es : List Event) → formless_from line (e ∷ es) ≡ None
    → (has_form e ≡ true) × (formless_from (line + 1) es ≡ None)
unfolding formless_from
first_formed line e es f = by_test (has_form e) (λ t. (t, simp t at f)) (λ t. let z = simp t at f in cc)

-- whatever the line of the first
pub forms_anywhere : (line m : ℕ) (events : List Event) → formless_from line events ≡ None → formless_from m events ≡ None
unfolding formless_from
forms_anywhere line m [] f = refl
forms_anywhere line m (e ∷ es) f = let g = first_formed line e es f in rw g.0 (forms_anywhere (line + 1) (m + 1) es g.1)

-- steps that have a form are read from what is written for them, and then what follows is
abbrev after : List Event → Body → Body
after es b = record { events = es ++ b.events; fault = b.fault }

body_reads : (line : ℕ) (events : List Event) (rest : List ℕ) → formless_from line events ≡ None
    → body_of line (events_text events ++ rest) ≡ after events (body_of (line + length events) rest)
unfolding events_text
body_reads line [] rest f = let z : line + 0 ≡ line = omega arith in rw z
body_reads line (e ∷ es) rest f =
    let g = first_formed line e es f in
    let s : List ℕ = event_text e ++ (events_text es ++ rest) in
    let some : 0 < length s = omega (arith, length-append (event_text e) (events_text es ++ rest), event_some e) in
    let q = event_reads line e (events_text es ++ rest) g.0 in
    let n : line + 1 + length es ≡ line + suc (length es) = omega arith in
    rw (
      append_assoc,
      body_step line s some (parsed e (length (event_text e))) q,
      drop-append_seam,
      body_reads (line + 1) es rest g.1,
      n,
    )

-- Whole traces

trace_reads : {text : List ℕ} {line : ℕ} {k : Parameters} {events : List Event} → Says text line k events → trace_of text ≡ trace line k events
trace_reads {text} {line} {k} {events} f =
    let head : List ℕ = f.head in
    let h : head_of text ≡ Ok (head_gave line k (length head)) =
    rw f.text_is (head_reads f.shape (events_text events) f.stand (rw f.text_is at f.short)) in
    let body : body_of line (drop (length head) text) ≡ record { events = events; fault = 0 } =
    rw (f.text_is, drop-append_seam, ← append-nil (events_text events))
    (body_reads line events [] f.forms ∙ rw (body_end (line + length events), append-nil)) in
    trace_events text (head_gave line k (length head)) h (ap (λ (b : Body). b.fault) body) ∙ rw body

-- a line that is no step ends the steps
body_stops : (line : ℕ) (rest : List ℕ) → 0 < length rest → NoStep rest → body_of line rest ≡ record { events = []; fault = line }
body_stops line rest some none = go (event_at line rest) refl
  where
    go : (r : Result (Parsed Event) Refused) → event_at line rest ≡ r → body_of line rest ≡ record { events = []; fault = line }
    go (Err f) q = body_fault line rest some f q
    go (Ok l) q =
        let w = event_was line rest l q in
        absurd (none l.value ((form_iff_digits l.value).0 w.formed) (drop l.size rest) w.took.split)

-- what a text tells: the trace that it says, or a fault
abbrev pub TraceTells : List ℕ → Trace → Type 0
TraceTells text (trace line k events) = Says text line k events
TraceTells text (refused why line) = Fault text why line

module _ (text : List ℕ) (h : Head) (told : HeadTook text h) (body : Body) (r : BodyTells (drop h.size text) h.line body) where
  split : text ≡ told.head ++ (events_text body.events ++ r.rest)
  split = told.took.split ∙ ap (λ (l : List ℕ). told.head ++ l) r.split

  -- steps to the end of the text
  says : body.fault ≡ 0 → Says text h.line h.parameters body.events
  says z = record {
    head = told.head;
    shape = told.shape;
    text_is = rw (r.ends z, append-nil) at split;
    stand = told.stand;
    forms = r.forms h.line;
    short = told.short;
  }

  -- or to a line that is none
  faulty : body.fault ≢ 0 → Fault text BadLine body.fault
  faulty n =
      let o = r.stops n in
      rw o.named
      (step h.parameters told.head h.line body.events r.rest told.shape told.short split told.stand (r.forms h.line)
      o.some o.none)

  body_then : TraceTells text (of_body h.line h.parameters body)
  body_then = by_cond (TraceTells text) (eqb body.fault 0) (λ t. says (eqb-true _ _ t)) (λ t. faulty (eqb-false _ _ t))

head_then : (text : List ℕ) (r : Result Head Refused) → HeadTells text r → TraceTells text (of_head text r)
unfolding body_of
head_then text (Err f) told = told
head_then text (Ok h) told =
    let s = drop h.size text in
    body_then text h told (body_in (length s) h.line s) (body_tells (length s) h.line s (head_line told).0 (omega arith))

pub trace_tells : (text : List ℕ) → TraceTells text (trace_of text)
unfolding trace_of
trace_tells text = head_then text (head_of text) (head_tells text)

pub read_exactly : ReadExactly
read_exactly text line k events =
    (λ e. rw e at (trace_tells text), trace_reads)

-- the text that is written for a trace that has a form says it
pub formed_says : {k : Parameters} {events : List Event} → Formed k events → Says (trace_text k events) (first_line k) k events
formed_says {k} f =
    record { head = head_text k; shape = FirstLines.new k; text_is = refl; stand = f.stand; forms = f.forms; short = f.short }

-- A text with a fault is refused for it

fails_first : (text : List ℕ) {why : Refusal} {line : ℕ} → head_of text ≡ Err (fault why line) → trace_of text ≡ refused why line
fails_first text {why} {line} e = trace_refused text (fault why line) e

fails_step : {text : List ℕ} {k : Parameters} {head : List ℕ} {line : ℕ} (events : List Event) (rest : List ℕ) → FirstLines k head line
    → length text ≤ text_limit → text ≡ head ++ (events_text events ++ rest) → parameters_stand k ≡ true
    → formless_from line events ≡ None → 0 < length rest → NoStep rest
    → trace_of text ≡ refused BadLine (line + length events)
fails_step {text} {k} {head} {line} events rest shape short is stand forms some none =
    let first = first-line shape stand in
    let h : head_of text ≡ Ok (head_gave line k (length head)) = rw is (head_reads shape (events_text events ++ rest) stand (rw is at short)) in
    let fault : (body_of line (drop (length head) text)).fault ≡ line + length events =
    rw (is, drop-append_seam, body_reads line events rest forms, body_stops (line + length events) rest some none) in
    trace_fault text (head_gave line k (length head)) h (λ z. omega (arith, fault, first.0)) ∙ rw fault

pub refused_when : {text : List ℕ} {why : Refusal} {line : ℕ} → Fault text why line → trace_of text ≡ refused why line
refused_when {text} (long h) = fails_first text (fails_long text h)
refused_when {text} (names h d f) = fails_first text (fails_names text h d f)
refused_when {text} (values first rest more w h e d) = fails_first text (fails_values w rest h e d)
refused_when {text} (count first n others rest w s c) = fails_first text (fails_count w refl s c)
refused_when {text} (limit-names n b c rest s e d) = fails_first text (fails_limit_names s e d)
refused_when {text} (limit n b c a rest s e f l d) = fails_first text (fails_limit a rest s e f l d)
refused_when {text} (limits k first rest line w h e c l) = fails_first text (fails_limits h w rest e c l)
refused_when {text} (steps k first rest line w h e st d) = fails_first text (fails_steps h w rest e st d)
refused_when (step k head line events rest w h e st f some none) = fails_step events rest w h e st f some none

pub refused_exactly : RefusedExactly
refused_exactly text why line = (λ e. rw e at (trace_tells text), refused_when)

pub one_fault : OneFault
one_fault text why line why' line' f g = let p = refused_when f in let q = refused_when g in (cc, cc)

pub word_for_each_act : WordForEachAct
word_for_each_act = refl
