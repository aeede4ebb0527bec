-- Laws of the lines of a report: one line more, and the lines of steps that are taken block by block. Assumes nothing.
use Prim.Native.Nat.{ℕ, ◌+◌, ◌-◌, ◌<◌}
use mathlib.Core.Path.{◌≡◌, sym, ap, ◌∙◌}
use mathlib.Core.List.{List, [], ◌∷◌, ◌++◌, map, append_assoc}
use native.Mathlib.Omega.{arith}
use native.Mathlib.Nat.{add-zero}
use lib.ListN.{length, get_or, take, drop, take-append-drop}
use lib.Seq.{drop-drop}
use Rattle.model.specs.declared.Answer.{Answer}
use Rattle.model.specs.Types.{State}
use Rattle.model.specs.Answers.{answer_numbers}
use Rattle.model.specs.Texts.{Event, numbers_text}
use Rattle.model.specs.Readings.{Lists}
use Rattle.model.specs.Writings.{events_of}
use Rattle.model.specs.Executions.{state_from}
use Rattle.model.specs.Reports.{rows_text}
use Rattle.model.proofs.Lists.{drop_at}
use Rattle.execution.specs.declared.running.Run.{Run}
use Rattle.execution.specs.Blocks.{rows_from, Took}
use Rattle.execution.proofs.Blocks.{length_from, from_append}
use Rattle.report.specs.Runs.{run_text}

-- Lines

-- the line of answer i, where the first has the number `line`, and those after it
pub rows_next : (line : ℕ) (answers : List Answer) (i : ℕ) (d : Answer) → i < length answers
    → rows_text (line + i) (map answer_numbers (drop i answers))
    ≡ numbers_text (line + i) (answer_numbers (get_or answers i d)) ++ rows_text (line + (i + 1)) (map answer_numbers (drop (i + 1) answers))
unfolding rows_text
rows_next line answers i d h = let q : line + i + 1 ≡ line + (i + 1) = omega arith in rw (drop_at answers i d h, q)

rows_append : (line : ℕ) (xs ys : List (List ℕ)) → rows_text line (xs ++ ys) ≡ rows_text line xs ++ rows_text (line + length xs) ys
unfolding rows_text
rows_append line [] ys = rw add-zero
rows_append line (x ∷ xs) ys =
    let q : line + 1 + length xs ≡ line + length (x ∷ xs) = omega arith in
    rw (rows_append (line + 1) xs ys, q) (sym (append_assoc (numbers_text line x) (rows_text (line + 1) xs) _))

-- Steps

-- the lines of the first k steps, and then those of the others from where these led
run_parts : (line : ℕ) (s : State) (events : List Event) (k : ℕ)
    → run_text line s events
    ≡ rows_text line (rows_from s (take k events)) ++ run_text (line + length (take k events)) (state_from s (take k events)) (drop k events)
run_parts line s events k =
    ap (run_text line s) (sym (take-append-drop k events))
    ∙ rw (from_append s (take k events) (drop k events), ← length_from s (take k events))
    (rows_append line (rows_from s (take k events)) (rows_from (state_from s (take k events)) (drop k events)))

-- the lines of a block that was taken, and then those of the steps that are left
pub run_next : {r t : Run} {l : Lists} {k : ℕ} (line : ℕ) → Took r l k t
    → run_text (line + r.taken) r.state (drop r.taken (events_of l))
    ≡ rows_text (line + (t.taken - k)) (map answer_numbers (take k t.answers)) ++ run_text (line + t.taken) t.state (drop t.taken (events_of l))
run_next {r} {t} {l} {k} line h =
    let events : List Event = events_of l in
    let i : ℕ = r.taken in
    let at : t.taken - k ≡ i = omega (arith, h.counted) in
    let q : line + i + length (take k (drop i events)) ≡ line + t.taken = omega (arith, h.block.size, h.counted) in
    let rest : drop k (drop i events) ≡ drop t.taken events = drop-drop k i events ∙ ap (λ (n : ℕ). drop n events) (sym h.counted) in
    rw (at, h.block.rows, h.block.led, ← rest, ← q) (run_parts (line + i) r.state (drop i events) k)
