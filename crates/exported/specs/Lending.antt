-- What the contracts of the exported functions allow, as the checker reads them off the source: for a caller who lends lists of numbers, which
-- answers and which numbers may come of a call. Assumes nothing.
use Rattle.std.specs.Prelude.{ℕ, ◌≡◌, List}
use contract.Lifetimes.{Lfts}
use Rattle.std.specs.Borrow.{Bor, MutBor}
use Rattle.model.specs.declared.Parameters.{Parameters}
use Rattle.model.specs.States.{limits_in}
use Rattle.layout.specs.Interface.{Lent, LentSummary, LentBoth}
use Rattle.recent.specs.Encodings.{LentBoard}
use Rattle.recent.specs.Tellings.{LentTold}
use Rattle.funnelfawn.proofs.funnelfawn_fresh.Reads as fresh-reads
use Rattle.funnelfawn.proofs.funnelfawn_new_summary.Reads as new-reads
use Rattle.funnelfawn.proofs.funnelfawn_step.Reads as step-reads
use Rattle.funnelfawn.proofs.funnelfawn_record.Reads as record-reads
use Rattle.funnelfawn.proofs.funnelfawn_set_up_board.Reads as set-up-reads
use Rattle.funnelfawn.proofs.funnelfawn_add_to_board.Reads as add_reads
use Rattle.funnelfawn.proofs.funnelfawn_show_board.Reads as show-reads
use Rattle.funnelfawn.proofs.funnelfawn_record_and_tell.Reads as tell-reads

-- [9.152] [10.236] a list is lent that holds the numbers `before`, and is left with the numbers `after`
pub record Lends (before after : List ℕ) : Type 0 where
  pub lent : MutBor (List ℕ)
  pub left : MutBor (List ℕ)
  pub entry : lent.now ≡ before
  pub exit : left.now ≡ after

-- [9.152] a list is lent that holds these numbers, and is only read
pub record LendsToRead (numbers : List ℕ) : Type 0 where
  pub lent : Bor (List ℕ)
  pub left : Bor (List ℕ)
  pub entry : lent.now ≡ numbers
  pub exit : left.now ≡ numbers

-- [9.45] a list is lent that stands for these values of a, and is only read
pub record LendsLimits (a : List ℕ) : Type 0 where
  pub values : List ℕ
  pub told : limits_in values ≡ a
  pub list : LendsToRead values

-- Starts

-- [9.45] [9.152] [10.236] `funnelfawn_fresh` may give r
abbrev pub Starts : Parameters → List ℕ → Lent → Type 0
Starts k table r =
    (κs : Lfts 2) × (a : LendsLimits k.a) × (t : Lends table r.table)
    × fresh-reads.Post κs (k.n, (k.b, (k.c, (a.list.lent, (t.lent, tt))))) r.answer
    (k.n, (k.b, (k.c, (a.list.left, (t.left, tt)))))

-- [9.154] [10.236] `funnelfawn_new_summary` may give r
abbrev pub StartsSummary : List ℕ → LentSummary → Type 0
StartsSummary summary r = (κs : Lfts 1) × (x : Lends summary r.summary) × new-reads.Post κs (x.lent, tt) r.answer (x.left, tt)

-- [10.236] `funnelfawn_set_up_board` may give r
abbrev pub SetsUp : ℕ → List ℕ → LentBoard → Type 0
SetsUp w board r = (κs : Lfts 1) × (b : Lends board r.board) × set-up-reads.Post κs (w, (b.lent, tt)) r.answer (w, (b.left, tt))

-- Calls

-- [9.152] `funnelfawn_step` may give r
abbrev pub StepsTo : List ℕ → ℕ → ℕ → ℕ → Lent → Type 0
StepsTo table act p m r =
    (κs : Lfts 1) × (t : Lends table r.table)
    × step-reads.Post κs (t.lent, (act, (p, (m, tt)))) r.answer (t.left, (act, (p, (m, tt))))

-- [9.152] [9.154] `funnelfawn_record` may give r
abbrev pub RecordsTo : List ℕ → List ℕ → ℕ → ℕ → ℕ → LentBoth → Type 0
RecordsTo table summary act p m r =
    (κs : Lfts 2) × (t : Lends table r.table) × (x : Lends summary r.summary)
    × record-reads.Post κs (t.lent, (x.lent, (act, (p, (m, tt))))) r.answer (t.left, (x.left, (act, (p, (m, tt)))))

-- [10.236] `funnelfawn_add_to_board` may give r
abbrev pub AddsTo : List ℕ → ℕ → ℕ → ℕ → LentBoard → Type 0
AddsTo board t p wait r =
    (κs : Lfts 1) × (b : Lends board r.board)
    × add_reads.Post κs (b.lent, (t, (p, (wait, tt)))) r.answer (b.left, (t, (p, (wait, tt))))

-- [10.236] `funnelfawn_show_board` may give r
abbrev pub ShowsOn : List ℕ → ℕ → LentBoard → Type 0
ShowsOn board clock r =
    (κs : Lfts 1) × (b : Lends board r.board) × show-reads.Post κs (b.lent, (clock, tt)) r.answer (b.left, (clock, tt))

-- [9.152] [9.154] [10.236] `funnelfawn_record_and_tell` may give r
abbrev pub TellsTo : List ℕ → List ℕ → List ℕ → ℕ → ℕ → ℕ → LentTold → Type 0
TellsTo table summary board act p m r =
    (κs : Lfts 3) × (t : Lends table r.table) × (x : Lends summary r.summary) × (b : Lends board r.board)
    × tell-reads.Post κs (t.lent, (x.lent, (b.lent, (act, (p, (m, tt)))))) (record { answer = r.answer; told = r.told })
    (t.left, (x.left, (b.left, (act, (p, (m, tt))))))
