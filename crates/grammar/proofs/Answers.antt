-- Readings, writings and reports succeed exactly where there is room for what is to be given back and, for a text or a trace, where it has
-- a form; a reading is refused exactly for a fault, or for want of room. Assumes nothing.
use Prim.Native.Nat.{ℕ, ◌≤◌, ◌<◌}
use mathlib.Core.Path.{◌≡◌, refl, sym, ap, ◌∙◌, subst₂}
use mathlib.Core.Logic.{◌≢◌}
use mathlib.Core.Bool.{true, not}
use mathlib.Core.List.{List}
use native.Mathlib.Omega.{arith}
use lib.Dec.{ltb}
use lib.ListN.{length, drop}
use lib.Seq.{take_at, drop-append_seam}
use borrow.Author.Tests.{lt-ltb, le-ltb, ltb-true, ltb-false, not-false}
use Rattle.model.specs.declared.Parameters.{Parameters}
use Rattle.model.specs.States.{count_stands, limits_stand, parameters_stand}
use Rattle.model.specs.Texts.{Event, first_line, trace_text, text_limit}
use Rattle.std.specs.Prelude.{Option, None, Some, Ok, Err}
use Rattle.model.specs.declared.Reading.{Reading}
use Rattle.model.specs.Answers.{answer_of}
use Rattle.model.specs.declared.Refusal.{Refusal}
use Rattle.model.specs.Refusals.{code_of}
use Rattle.model.specs.declared.Answer.{Answer}
use Rattle.model.specs.Readings.{Trace, refused, trace, trace_of, Lists, room, stored, fault, Scanned, into, scanned_of}
use Rattle.model.specs.Readings.{read_gave, reading_of, line_told, reading_from, Read, read_of}
use Rattle.model.specs.Writings.{formless_from, Written, unwritten, unless_formless, written, fitted, write_of}
use Rattle.model.specs.Reports.{report_text}
use Rattle.grammar.specs.Exact.{Formed}
use Rattle.grammar.specs.Faults.{Fault, long, names, values, count, limit-names, limit, limits, steps, step}
use Rattle.grammar.specs.Answers.{Readable, ReadTells, ReadIff, TellsLine, of_count, of-limits, of_names, of_line, of_text}
use Rattle.grammar.specs.Answers.{Unreadable, RefusedRead, ReadRefusedExactly, Wrote, WriteTells, WriteIff, ReportTells, ReportIff}
use Rattle.model.proofs.Tests.{by_cond, and_true_iff}
use Rattle.grammar.proofs.Faults.{fault_some}
use Rattle.grammar.proofs.Exact.{TraceTells, trace_tells, read_exactly, refused_when}

-- Readings that succeed

-- all that it gives back
pub read_is : (text : List ℕ) (l : Lists) (line : ℕ) (k : Parameters) (events : List Event) → Readable text l line k events
    → read_of text l ≡ read_gave (Ok (reading_of k (length events))) (stored events l)
unfolding read_of scanned_of
read_is text l line k events r = rw ((read_exactly text line k events).1 r.says, le-ltb (room l) (length events) r.fits)

pub read_tells : ReadTells
read_tells text l line k events r = rw (read_is text l line k events r) (record { reading = refl; kept = refl })

module _ (text : List ℕ) (l : Lists) where
  -- what a reading that is accepted tells of its text
  abbrev Accepted : Scanned → Type 0
  Accepted r = (q : Reading) × (reading_from r.scan ≡ Ok q)
      → (line : ℕ) × (k : Parameters) × (events : List Event) × Readable text l line k events

  accepted : (t : Trace) → TraceTells text t → Accepted (into l t)
  accepted (refused why line) told = λ (q, e). cc
  accepted (trace line k events) told =
      by_cond Accepted (ltb (room l) (length events)) (λ _ (q, e). cc) (λ t _.
      (line, k, events, record { says = told; fits = ltb-false (room l) (length events) t }))

pub read_iff : ReadIff
unfolding read_of scanned_of
read_iff text l = (
  accepted text l (trace_of text) (trace_tells text),
  λ r. (reading_of r.1 (length r.2), ap (λ (x : Read). x.reading) (read_is text l r.0 r.1 r.2 r.3)),
)

-- a reading that is accepted is that of a text that says a trace
pub record ReadAs (text : List ℕ) (l : Lists) (q : Reading) : Type 0 where
  pub line : ℕ
  pub k : Parameters
  pub events : List Event
  pub readable : Readable text l line k events
  pub is : q ≡ reading_of k (length events)
  pub gave : read_of text l ≡ read_gave (Ok (reading_of k (length events))) (stored events l)

pub read_as : (text : List ℕ) (l : Lists) (q : Reading) → (read_of text l).reading ≡ Ok q → ReadAs text l q
read_as text l q e =
    let f = (read_iff text l).0 (q, e) in
    let gave = read_is text l f.0 f.1 f.2 f.3 in
    let same = sym e ∙ ap (λ (x : Read). x.reading) gave in
    record { line = f.0; k = f.1; events = f.2; readable = f.3; is = cc; gave = gave }

-- Readings that are refused

-- a fault tells the line that `line_told` has for it
fault_line : {text : List ℕ} {why : Refusal} {line : ℕ} → Fault text why line → TellsLine why line (line_told why line)
fault_line (long h) = of_text
fault_line (names h d f) = of_names
fault_line (values first rest more w h e d) = of_line
fault_line (count first n others rest w s c) = of_count
fault_line (limit-names n b c rest s e d) = of_names
fault_line (limit n b c a rest s e f l d) = of_line
fault_line (limits k first rest line w h e c l) = of-limits
fault_line (steps k first rest line w h e st d) = of_names
fault_line (step k head line events rest w h e st f some none) = of_line

told_line : {why : Refusal} {line told : ℕ} → TellsLine why line told → line_told why line ≡ told
told_line of_count = refl
told_line of-limits = refl
told_line of_names = refl
told_line of_line = refl
told_line of_text = refl

-- all that a refused reading gives back
refused_read : (l : Lists) (why : Refusal) (line : ℕ)
    → RefusedRead l (code_of why) (line_told why line) (read_gave (reading_from (Err (fault why line))) l)
refused_read l why line = record { reading = refl; lists_stay = refl }

module _ (text : List ℕ) (l : Lists) (code time : ℕ) where
  abbrev Why : Scanned → Type 0
  Why r = RefusedRead l code time (read_gave (reading_from r.scan) r.kept) → Unreadable text l code time

  why : (t : Trace) → TraceTells text t → Why (into l t)
  why (refused r line) told = λ u.
      let e = sym (refused_read l r line).reading ∙ u.reading in
      let same : answer_of (code_of r) 0 (line_told r line) ≡ answer_of code 0 time = cc in
      subst₂ (Unreadable text l) (ap (λ (x : Answer). x.code) same) (ap (λ (x : Answer). x.time) same) (Unreadable.faulty told (fault_line told))
  why (trace line k events) told =
      by_cond Why (ltb (room l) (length events))
      (λ t u.
      let e = u.reading in
      let same : answer_of 16 0 0 ≡ answer_of code 0 time = cc in
      subst₂ (Unreadable text l) (ap (λ (x : Answer). x.code) same) (ap (λ (x : Answer). x.time) same)
      (Unreadable.no_room line k events told (ltb-true (room l) (length events) t)))
      (λ t u. let e = u.reading in cc)

so : {text : List ℕ} {l : Lists} {code time : ℕ} → Unreadable text l code time → RefusedRead l code time (read_of text l)
unfolding read_of scanned_of
so {l = l} (Unreadable.faulty {why} {line} f t) = rw (refused_when f, ← told_line t) (refused_read l why line)
so {text} {l} (Unreadable.no_room line k events says h) =
    rw ((read_exactly text line k events).1 says, lt-ltb (room l) (length events) h) (record { reading = refl; lists_stay = refl })

pub read_refused_exactly : ReadRefusedExactly
unfolding read_of scanned_of
read_refused_exactly text l code time = (why text l code time (trace_of text) (trace_tells text), so)

-- a refusal is never answered with 0
module _ (text : List ℕ) (l : Lists) where
  abbrev Coded : Scanned → Type 0
  Coded r = (answer : Answer) → reading_from r.scan ≡ Err answer → answer.code ≢ 0

  coded : (t : Trace) → TraceTells text t → Coded (into l t)
  coded (refused why line) told = λ answer e (z : answer.code ≡ 0).
      let same : answer_of (code_of why) 0 (line_told why line) ≡ answer = cc in
      omega (arith, fault_some told, ap (λ (x : Answer). x.code) same)
  coded (trace line k events) told =
      by_cond Coded (ltb (room l) (length events))
      (λ _ answer e (z : answer.code ≡ 0).
      let same : answer_of 16 0 0 ≡ answer = cc in
      omega (arith, ap (λ (x : Answer). x.code) same))
      (λ _ answer e. cc)

  pub refused_some : (answer : Answer) → (read_of text l).reading ≡ Err answer → answer.code ≢ 0
  unfolding read_of scanned_of
  refused_some = coded (trace_of text) (trace_tells text)

-- Writings

-- what `written` says, in plain facts
pub wrote : (text out : List ℕ) → Wrote text out (written text out)
wrote text out = record {
  answer = refl;
  text_is = take_at text (drop (length text) out) (length text) refl;
  rest_stays = drop-append_seam text (drop (length text) out);
}

-- a text that is put as it is
pub fitted_is : (text out : List ℕ) → length text ≤ length out → fitted text out ≡ written text out
unfolding fitted
fitted_is text out h = rw (le-ltb (length out) (length text) h)

pub fitted_short : (text out : List ℕ) → length out < length text → fitted text out ≡ unwritten 16 0 out
unfolding fitted
fitted_short text out h = rw (lt-ltb (length out) (length text) h)

-- of parameters that stand and steps that have a form, it is the text that decides
module _ (k : Parameters) (events : List Event) (out : List ℕ) (stand : parameters_stand k ≡ true) (forms : formless_from (first_line k) events ≡ None) where
  pub write_long : text_limit < length (trace_text k events) → write_of k events out ≡ unwritten 15 0 out
  unfolding write_of
  write_long h = let e = (and_true_iff (count_stands k.n) (limits_stand k)).0 stand in simp (e.0, e.1, forms, lt-ltb _ _ h)

  pub write_fitted : length (trace_text k events) ≤ text_limit → write_of k events out ≡ fitted (trace_text k events) out
  unfolding write_of
  write_fitted h = let e = (and_true_iff (count_stands k.n) (limits_stand k)).0 stand in simp (e.0, e.1, forms, le-ltb _ _ h)

-- all that it gives back
pub write_is : (k : Parameters) (events : List Event) (out : List ℕ) → Formed k events → length (trace_text k events) ≤ length out
    → write_of k events out ≡ written (trace_text k events) out
write_is k events out f h = write_fitted k events out f.stand f.forms f.short ∙ fitted_is (trace_text k events) out h

pub write_tells : WriteTells
write_tells k events out f h = rw (write_is k events out f h) (wrote (trace_text k events) out)

module _ (k : Parameters) (events : List Event) (out : List ℕ) where
  -- what a writing that is accepted tells of its trace
  abbrev Done : Written → Type 0
  Done w = w.answer.code ≡ 0 → Formed k events × (length (trace_text k events) ≤ length out)

  -- where no step lacks its form, or the line of one is told
  by_form : (f : Option ℕ) (w : Written) → (f ≡ None → Done w) → Done (unless_formless f out w)
  by_form None w h = h refl
  by_form (Some line) w h = λ e. absurd (omega arith)

  write_was : Done (write_of k events out)
  unfolding write_of fitted
  write_was =
      by_cond Done (not (count_stands k.n)) (λ _ e. absurd (omega arith)) (λ t1.
      by_cond Done (not (limits_stand k)) (λ _ e. absurd (omega arith)) (λ t2.
      by_form (formless_from (first_line k) events) _ (λ forms.
      by_cond Done (ltb text_limit (length (trace_text k events))) (λ _ e. absurd (omega arith)) (λ t4.
      by_cond Done (ltb (length out) (length (trace_text k events))) (λ _ e. absurd (omega arith)) (λ t5 _. (
        record {
          stand = (and_true_iff (count_stands k.n) (limits_stand k)).1 (not-false _ t1, not-false _ t2);
          forms = forms;
          short = ltb-false _ _ t4;
        },
        ltb-false _ _ t5,
      ))))))

pub write_iff : WriteIff
write_iff k events out = (write_was k events out, λ h. ap (λ (w : Written). w.answer.code) (write_is k events out h.0 h.1))

-- Reports

module _ (text out : List ℕ) where
  abbrev Told : Written → Type 0
  Told w = w.answer.code ≡ 0 → length text ≤ length out

  fitted_was : Told (fitted text out)
  unfolding fitted
  fitted_was = by_cond Told (ltb (length out) (length text)) (λ _ e. absurd (omega arith)) (λ t _. ltb-false _ _ t)

pub report_tells : ReportTells
report_tells text out h = rw (fitted_is (report_text text) out h) (wrote (report_text text) out)

pub report_iff : ReportIff
report_iff text out =
    (fitted_was (report_text text) out, λ h. ap (λ (w : Written). w.answer.code) (fitted_is (report_text text) out h))
