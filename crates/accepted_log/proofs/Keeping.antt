-- Laws of accepted logs and of putting them into lists, attempt by attempt: what is put, what is left to put, and what stays as it was.
-- Assumes nothing.
use Prim.Native.Nat.{ℕ, suc, ◌+◌, ◌≤◌, ◌<◌}
use mathlib.Core.Path.{◌≡◌, refl, sym, ap, ◌∙◌}
use mathlib.Core.Logic.{◌≢◌}
use mathlib.Core.List.{List, [], ◌∷◌, ◌++◌, map, map-append}
use native.Mathlib.Omega.{arith}
use native.Mathlib.Nat.{add-zero}
use lib.ListN.{length, get_or, set, take, drop, length-append, length-map}
use lib.Seq.{sets, sets-eq, length-sets, drop-set-lt, drop-drop, get_or-drop, take_at}
use borrow.Author.Tests.{eq-eqb, ne_eqb}
use Rattle.model.specs.declared.Answer.{Answer}
use Rattle.model.specs.Types.{State}
use Rattle.model.specs.Tallies.{Attempt, attempted}
use Rattle.model.specs.Texts.{Event, event}
use Rattle.model.specs.Readings.{Lists, lists, room}
use Rattle.model.specs.Writings.{events_of, event_in}
use Rattle.model.specs.Executions.{codes_from, attempts_of, attempts_from}
use Rattle.model.proofs.Tests.{by_test, by_cond}
use Rattle.model.proofs.Steps.{from}
use Rattle.text.proofs.Putting.{sets_append}
use Rattle.execution.specs.Blocks.{attempts_by}
use Rattle.execution.proofs.Attempts.{attempts_next}
use Rattle.local_log.specs.Comparisons.{Entry, actions_in, times_in}
use Rattle.accepted_log.specs.AcceptedLogs.{is_accepted_of, accepted_log}
use Rattle.accepted_log.specs.Keeping.{Kept}

-- Logs

pub log_append : (p : ℕ) (xs ys : List Attempt) → accepted_log p (xs ++ ys) ≡ accepted_log p xs ++ accepted_log p ys
unfolding accepted_log
log_append p [] ys = refl
log_append p (x ∷ xs) ys = by_test (is_accepted_of p x) (λ e. rw (e, log_append p xs ys)) (λ e. rw (e, log_append p xs ys))

-- there is no more in it than was attempted
pub log_few : (p : ℕ) (es : List Attempt) → length (accepted_log p es) ≤ length es
unfolding accepted_log
log_few p [] = omega arith
log_few p (e ∷ es) =
    let rest = log_few p es in
    by_cond (λ (log : List Entry). length log ≤ length (e ∷ es)) (is_accepted_of p e) (λ _. omega arith) (λ _. omega arith)

-- Steps with the answers to them

attempts_few : (es : List Event) (codes : List ℕ) → (length (attempts_of es codes) ≤ length es) × (length (attempts_of es codes) ≤ length codes)
unfolding attempts_of
attempts_few [] codes = omega arith
attempts_few (e ∷ es) [] = omega arith
attempts_few (e ∷ es) (code ∷ codes) = omega (arith, attempts_few es codes)

-- there is no more in their log than there are steps
pub run_few : (p : ℕ) (s : State) (events : List Event) → length (accepted_log p (attempts_from s events)) ≤ length events
run_few p s events = omega (arith, log_few p (attempts_from s events), attempts_few events (codes_from s events))

-- nor than there are answers
pub answers_few : (p : ℕ) (l : Lists) (answers : List Answer) → length (accepted_log p (attempts_by l answers)) ≤ length answers
answers_few p l answers =
    let codes : List ℕ = map (λ (a : Answer). a.code) answers in
    omega (arith, log_few p (attempts_of (events_of l) codes), attempts_few (events_of l) codes, length-map answers (λ (a : Answer). a.code))

-- the log of the attempt of answer i, and of those after it
pub log_next : (p : ℕ) (l : Lists) (answers : List Answer) (i : ℕ) (d : Answer) → i < room l → i < length answers
    → accepted_log p (attempts_by (from i l) (drop i answers))
    ≡ accepted_log p (attempted (event_in l i) (get_or answers i d).code ∷ []) ++ accepted_log p (attempts_by (from (i + 1) l) (drop (i + 1) answers))
log_next p l answers i d h g =
    rw (attempts_next l answers i d h g)
    (log_append p (attempted (event_in l i) (get_or answers i d).code ∷ []) (attempts_by (from (i + 1) l) (drop (i + 1) answers)))

-- Storing

-- what stands from place k on is as it was, if all is stored before it
sets_after : (xs l : List ℕ) (i k : ℕ) → i + length xs ≤ k → drop k (sets l i xs) ≡ drop k l
sets_after [] l i k h = refl
sets_after (x ∷ xs) l i k h = sets_after xs (set l i x) (suc i) k (omega arith) ∙ drop-set-lt k l i x (omega arith)

-- what is stored from the start on stands there
sets_front : (xs l : List ℕ) (k : ℕ) → k ≡ length xs → length xs ≤ length l → take k (sets l 0 xs) ≡ xs
sets_front xs l k e h = rw (sets-eq xs l 0 (omega arith)) (take_at xs (drop (0 + length xs) l) k (sym e))

-- One attempt

module _ (p : ℕ) (e : Event) (code : ℕ) {kept : ℕ} {l : Lists} where
  -- one that is not accepted leaves all as it was
  pub kept_refused : code ≢ 0 → Kept (accepted_log p (attempted e code ∷ [])) kept kept l l
  unfolding accepted_log
  kept_refused n = rw (ne_eqb code 0 n) (record { next_is = omega arith; times_are = refl; processes_are = refl; actions_are = refl })

  -- and so does one of another process
  pub kept_other : code ≡ 0 → e.process ≢ p → Kept (accepted_log p (attempted e code ∷ [])) kept kept l l
  unfolding accepted_log
  kept_other z n =
      rw (eq-eqb code 0 z, ne_eqb e.process p n) (record { next_is = omega arith; times_are = refl; processes_are = refl; actions_are = refl })

  -- of one that is accepted and of the process the time and the action are stored
  pub kept_own : code ≡ 0 → e.process ≡ p
      → Kept (accepted_log p (attempted e code ∷ [])) kept (kept + 1) l (lists (set l.times kept e.time) l.processes (set l.actions kept e.action))
  unfolding accepted_log
  kept_own z f = rw (eq-eqb code 0 z, eq-eqb e.process p f) (record { next_is = refl; times_are = refl; processes_are = refl; actions_are = refl })

-- Attempt by attempt

-- `log` is being put into the list `old` from `start` on, of each entry what f tells of it: the list is `new` now, `rest` is left to put from
-- `next` on, and what stands from place i on is as it was
pub record Part (f : Entry → ℕ) (log : List Entry) (start : ℕ) (rest : List Entry) (next i : ℕ) (old new : List ℕ) : Type 0 where
  pub put : sets new next (map f rest) ≡ sets old start (map f log)
  pub after : drop i new ≡ drop i old
  pub size : length new ≡ length old

part_all : {f : Entry → ℕ} {log : List Entry} {start i : ℕ} {old : List ℕ} → Part f log start log start i old old
part_all = record { put = refl; after = refl; size = refl }

-- what is the same from place i on is so further on
further : (i k : ℕ) (l m : List ℕ) → drop i l ≡ drop i m → drop (i + k) l ≡ drop (i + k) m
further i k l m e = sym (drop-drop k i l) ∙ ap (drop k) e ∙ drop-drop k i m

-- the value at the place that is looked at is as it was; it is place i of the list from place `at` on
part_at : {f : Entry → ℕ} {log : List Entry} {start : ℕ} {rest : List Entry} {next : ℕ} (at i : ℕ) {old new : List ℕ}
    → Part f log start rest next (at + i) old new → get_or new (at + i) 0 ≡ get_or (drop at old) i 0
part_at at i {old} {new} h =
    let head : (l : List ℕ) → get_or l (at + i) 0 ≡ get_or (drop (at + i) l) 0 0 = λ l. rw (get_or-drop, add-zero) in
    head new ∙ rw h.after (sym (head old) ∙ sym (get_or-drop at old i 0))

-- part of what is left is put, before place i + k
part_next : {f : Entry → ℕ} {log : List Entry} {start : ℕ} (k : ℕ) (xs : List Entry) {ys : List Entry} {next i : ℕ} {old mid new : List ℕ}
    → Part f log start (xs ++ ys) next i old mid → new ≡ sets mid next (map f xs) → next + length xs ≤ i + k
    → Part f log start ys (next + length xs) (i + k) old new
part_next {f} k xs {ys} {next} {i} {old} {mid} h e few =
    let long = length-map xs f in
    record {
      put = rw (e, ← long) (sym (sets_append (map f xs) (map f ys) mid next) ∙ rw (map-append f xs ys) at h.put);
      after = ap (drop (i + k)) e ∙ sets_after (map f xs) mid next (i + k) (omega arith) ∙ further i k mid old h.after;
      size = ap length e ∙ length-sets mid next (map f xs) ∙ h.size;
    }

-- it is being put into the lists l, which are m now and of which i places have been looked at: no more is put than that
pub record Left (log : List Entry) (start : ℕ) (rest : List Entry) (next i : ℕ) (l m : Lists) : Type 0 where
  pub behind : next ≤ i
  pub ends : next + length rest ≡ start + length log
  pub in_times : Part (λ (x : Entry). x.time) log start rest next i l.times m.times
  pub in_processes : m.processes ≡ l.processes
  pub in_actions : Part (λ (x : Entry). x.action) log start rest next i l.actions m.actions

pub left_all : {log : List Entry} {start i : ℕ} {l : Lists} → start ≤ i → Left log start log start i l l
left_all h = record { behind = h; ends = refl; in_times = part_all; in_processes = refl; in_actions = part_all }

module _ {log : List Entry} {start : ℕ} {rest : List Entry} {next i : ℕ} {l m : Lists} (f : Left log start rest next i l m) where
  -- the steps that are yet to be looked at are as they were
  pub left_from : from i m ≡ from i l
  left_from = λ z. lists (f.in_times.after z) (drop i (f.in_processes z)) (f.in_actions.after z)

-- so is the one at the place that is looked at, place i from place `at` on
pub left_at : {log : List Entry} {start : ℕ} {rest : List Entry} {next : ℕ} (at i : ℕ) {l m : Lists}
    → Left log start rest next (at + i) l m → event_in m (at + i) ≡ event_in (from at l) i
left_at at i {l} {m} f =
    λ z. event (part_at at i f.in_times z)
    ((ap (λ (ps : List ℕ). get_or ps (at + i) 0) f.in_processes ∙ sym (get_or-drop at l.processes i 0)) z)
    (part_at at i f.in_actions z)

-- part of what is left is put, of k places more
pub left_next : {log xs ys : List Entry} {start next next' i : ℕ} (k : ℕ) {l m n : Lists}
    → Left log start (xs ++ ys) next i l m → Kept xs next next' m n → length xs ≤ k → Left log start ys next' (i + k) l n
left_next {xs = xs} {ys = ys} {next = next} {i = i} k f g few =
    let within : next + length xs ≤ i + k = omega (arith, f.behind) in
    rw g.next_is
    (record {
      behind = within;
      ends = omega (arith, f.ends, length-append xs ys);
      in_times = part_next k xs f.in_times g.times_are within;
      in_processes = g.processes_are ∙ f.in_processes;
      in_actions = part_next k xs f.in_actions g.actions_are within;
    })

-- nothing is left
pub left_done : {log : List Entry} {start next i : ℕ} {l m : Lists} → Left log start [] next i l m → Kept log start next l m
left_done f = record {
  next_is = omega (arith, f.ends);
  times_are = f.in_times.put;
  processes_are = f.in_processes;
  actions_are = f.in_actions.put;
}

-- All of it

-- from the start on it stands in the lists
module _ {log : List Entry} {next : ℕ} {l m : Lists} (g : Kept log 0 next l m) where
  pub times_front : length log ≤ length l.times → take next m.times ≡ times_in log
  times_front h =
      let long = length-map log (λ (x : Entry). x.time) in
      rw g.times_are (sets_front (times_in log) l.times next (omega (arith, g.next_is)) (omega arith))

  pub actions_front : length log ≤ length l.actions → take next m.actions ≡ actions_in log
  actions_front h =
      let long = length-map log (λ (x : Entry). x.action) in
      rw g.actions_are (sets_front (actions_in log) l.actions next (omega (arith, g.next_is)) (omega arith))
