-- `layout::enter` meets its contract: table and summary are judged, and then the act is taken and counted. Assumes nothing.
use Rattle.std.proofs.Common.{◌≡◌, ◌≢◌, take, refl, ap, ◌∙◌, arith, take-append-drop}
use Rattle.model.specs.declared.Refusal.{Refusal}
use Rattle.model.specs.declared.Refusal.TheVariants as variant
use Rattle.model.specs.Refusals.{code_of}
use Rattle.statistics.specs.Waitings.{unused_beside}
use Rattle.layout.specs.Encodings.{table_length, clock_in, summary_length}
use Rattle.layout.specs.Steps.{survey_in}
use Rattle.layout.proofs.Lending.{short_unsound}
use Rattle.layout.proofs.Recording.{fault_unsound, no_fault_sound, record_unsound, record_short, record_refused}
use Rattle.layout.proofs.Recording.{record_counted, record_accepted, sound_after, waits_fit, wait_told, entry_refused, entry_accepted}
use Rattle.layout.proofs.enter.Goals as goal

-- no refusal has the number 0
code_some : (refusal : Refusal) → code_of refusal ≢ 0
code_some variant.NoTable e = omega (arith, e)
code_some variant.NoSummary e = omega (arith, e)
code_some variant.SummaryFull e = omega (arith, e)
code_some variant.Backward e = omega (arith, e)
code_some variant.EndOfClock e = omega (arith, e)
code_some variant.NoAction e = omega (arith, e)
code_some variant.NoProcess e = omega (arith, e)
code_some variant.Late e = omega (arith, e)
code_some variant.OutOfPlace e = omega (arith, e)
code_some variant.Early e = omega (arith, e)
code_some variant.BadCount e = omega (arith, e)
code_some variant.BadLimits e = omega (arith, e)
code_some variant.BadNames e = omega (arith, e)
code_some variant.BadLine e = omega (arith, e)
code_some variant.BadLength e = omega (arith, e)
code_some variant.ShortOutput e = omega (arith, e)
code_some variant.BadWidth e = omega (arith, e)
code_some variant.BoardFull e = omega (arith, e)
code_some variant.PastBounds e = omega (arith, e)
code_some variant.OtherActions e = omega (arith, e)
code_some variant.NoShift e = omega (arith, e)

pub returns-in_default : goal.returns-in_default
returns-in_default c =
    let a = c.args in
    entry_refused a.table.now a.summary.now a.action a.process a.time
    (record_unsound a.table.now a.summary.now a.action a.process a.time (short_unsound _ c.in_default.ensures.cases) refl) (λ z. omega (arith, z)) refl

pub returns-then-found-ne0 : goal.returns-then-found-ne0
returns-then-found-ne0 c =
    let a = c.args in
    let first = c.in-Some.ensures.cases in
    rw (first.same, take-append-drop table_length a.table.now)
    (entry_refused a.table.now a.summary.now a.action a.process a.time
    (record_unsound a.table.now a.summary.now a.action a.process a.time
    (fault_unsound a.table.now first.enough a.process (rw (c.survey_table-found.ensures, first.same) at c.if-found-ne0.true)) refl)
    (λ z. omega (arith, z)) refl)

pub returns-in_default-first_chunk_mut : goal.returns-in_default-first_chunk_mut
returns-in_default-first_chunk_mut c =
    let a = c.args in
    let first = c.in-Some.ensures.cases in
    let sound = no_fault_sound a.table.now first.enough a.process
    (rw (c.survey_table-found.ensures, first.same) at c.if-found-ne0.false) in
    rw (first.same, take-append-drop table_length a.table.now)
    (entry_refused a.table.now a.summary.now a.action a.process a.time
    (record_short a.table.now a.summary.now a.action a.process a.time sound c.in_default-first_chunk_mut.ensures.cases refl) (λ z. omega (arith, z)) refl)

pub returns-in-Some-fault_of : goal.returns-in-Some-fault_of
returns-in-Some-fault_of c =
    let a = c.args in
    let first = c.in-Some.ensures.cases in
    let sound = no_fault_sound a.table.now first.enough a.process
    (rw (c.survey_table-found.ensures, first.same) at c.if-found-ne0.false) in
    let second = c.in-Some-first_chunk_mut.ensures.cases in
    let is = rw (first.same, second.same) at c.fault_of.ensures in
    rw (first.same, take-append-drop table_length a.table.now, second.same, take-append-drop summary_length a.summary.now)
    (entry_refused a.table.now a.summary.now a.action a.process a.time
    (record_refused a.table.now a.summary.now a.action a.process a.time sound second.enough is c.in-Some-fault_of.refusal c.in-Some-fault_of.is)
    (code_some c.in-Some-fault_of.refusal) refl)

pub returns-then-answer-ne0 : goal.returns-then-answer-ne0
returns-then-answer-ne0 c =
    let a = c.args in
    let first = c.in-Some.ensures.cases in
    let sound = no_fault_sound a.table.now first.enough a.process
    (rw (c.survey_table-found.ensures, first.same) at c.if-found-ne0.false) in
    let second = c.in-Some-first_chunk_mut.ensures.cases in
    let is = rw (first.same, second.same) at c.fault_of.ensures in
    let none = c.in_default-fault_of.is in
    let gave = rw (c.survey_table-found.ensures, first.same) at c.act-answer.ensures in
    entry_refused a.table.now a.summary.now a.action a.process a.time
    (record_counted a.table.now a.summary.now a.action a.process a.time sound second.enough is none first.enough gave
    c.if-answer-ne0.true (rw second.same at c.count_refused.ensures)) c.if-answer-ne0.true refl

pub count_accepted-wait-requires-clause-sound : goal.count_accepted-wait-requires-clause-sound
count_accepted-wait-requires-clause-sound c =
    let a = c.args in
    let first = c.in-Some.ensures.cases in
    let sound = no_fault_sound a.table.now first.enough a.process
    (rw (c.survey_table-found.ensures, first.same) at c.if-found-ne0.false) in
    let second = c.in-Some-first_chunk_mut.ensures.cases in
    let is = rw (first.same, second.same) at c.fault_of.ensures in
    let none = c.in_default-fault_of.is in
    let gave = rw (c.survey_table-found.ensures, first.same) at c.act-answer.ensures in
    sound_after a.table.now a.summary.now a.action a.process a.time sound second.enough is none first.enough gave c.if-answer-ne0.false

pub count_accepted-wait-requires-clause-fits : goal.count_accepted-wait-requires-clause-fits
count_accepted-wait-requires-clause-fits c =
    let a = c.args in
    let first = c.in-Some.ensures.cases in
    let sound = no_fault_sound a.table.now first.enough a.process
    (rw (c.survey_table-found.ensures, first.same) at c.if-found-ne0.false) in
    let second = c.in-Some-first_chunk_mut.ensures.cases in
    let is = rw (first.same, second.same) at c.fault_of.ensures in
    let none = c.in_default-fault_of.is in
    let gave = rw (c.survey_table-found.ensures, first.same) at c.act-answer.ensures in
    let found = c.survey_table-found.ensures in
    let d : c.unused_time-unused.result ≡ unused_beside (survey_in (take table_length a.table.now) a.process).critical a.action
    (clock_in (take table_length a.table.now)) a.time =
    c.unused_time-unused.ensures
    ∙ (λ i. unused_beside ((found ∙ ap (λ l. survey_in l a.process) first.same) i).critical a.action (clock_in (first.same i)) a.time) in
    rw second.same
    (waits_fit a.table.now a.summary.now a.action a.process a.time sound second.enough is none first.enough gave c.if-answer-ne0.false d)

pub returns : goal.returns
returns c =
    let a = c.args in
    let first = c.in-Some.ensures.cases in
    let sound = no_fault_sound a.table.now first.enough a.process
    (rw (c.survey_table-found.ensures, first.same) at c.if-found-ne0.false) in
    let second = c.in-Some-first_chunk_mut.ensures.cases in
    let is = rw (first.same, second.same) at c.fault_of.ensures in
    let none = c.in_default-fault_of.is in
    let gave = rw (c.survey_table-found.ensures, first.same) at c.act-answer.ensures in
    let found = c.survey_table-found.ensures in
    let d : c.unused_time-unused.result ≡ unused_beside (survey_in (take table_length a.table.now) a.process).critical a.action
    (clock_in (take table_length a.table.now)) a.time =
    c.unused_time-unused.ensures
    ∙ (λ i. unused_beside ((found ∙ ap (λ l. survey_in l a.process) first.same) i).critical a.action (clock_in (first.same i)) a.time) in
    let z = c.if-answer-ne0.false in
    let counted = c.count_accepted-wait.ensures in
    entry_accepted a.table.now a.summary.now a.action a.process a.time
    (record_accepted a.table.now a.summary.now a.action a.process a.time sound second.enough is none first.enough gave z d
    (rw second.same at counted.summary_after)) z
    (wait_told a.table.now a.summary.now a.action a.process a.time sound second.enough is none first.enough gave z d (rw second.same at counted.value))
