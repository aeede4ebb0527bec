-- One result alone is allowed by the contract of each exported function, that of its definition; and lists can be lent for it. Assumes
-- nothing.
use Prim.Native.Nat.{ℕ}
use mathlib.Core.Path.{◌≡◌, refl, sym, ap, ◌∙◌}
use mathlib.Core.List.{List, [], append-nil}
use lib.ListN.{length}
use Rattle.model.specs.declared.Parameters.{Parameters}
use Rattle.model.specs.States.{limits_in}
use Rattle.model.proofs.OwnLimits.{limits_whole}
use Rattle.layout.specs.Interface.{Lent, lent_fresh, lent_step, LentSummary, lent_summary, LentBoth, lent_record}
use Rattle.recent.specs.Encodings.{LentBoard, lent_set_up, lent_add, lent_show}
use Rattle.recent.specs.Tellings.{LentTold, lent_tell}
use Rattle.exported.specs.Lending.{Lends, LendsToRead, LendsLimits, Starts, StartsSummary, StepsTo, RecordsTo, SetsUp, AddsTo, ShowsOn, TellsTo}

-- One result is allowed

pub starts_is : (k : Parameters) (table : List ℕ) (r : Lent) → Starts k table r → r ≡ lent_fresh k table
starts_is k table r s = rw (s.1.list.entry, s.1.told, s.2.entry, s.2.exit) at s.3

pub new_is : (summary : List ℕ) (r : LentSummary) → StartsSummary summary r → r ≡ lent_summary summary
new_is summary r s = rw (s.1.entry, s.1.exit) at s.2

pub steps_is : (table : List ℕ) (act p m : ℕ) (r : Lent) → StepsTo table act p m r → r ≡ lent_step table act p m
steps_is table act p m r s = rw (s.1.entry, s.1.exit) at s.2

pub records_is : (table summary : List ℕ) (act p m : ℕ) (r : LentBoth) → RecordsTo table summary act p m r
    → r ≡ lent_record table summary act p m
records_is table summary act p m r s = rw (s.1.entry, s.1.exit, s.2.entry, s.2.exit) at s.3

pub sets_up_is : (w : ℕ) (board : List ℕ) (r : LentBoard) → SetsUp w board r → r ≡ lent_set_up w board
sets_up_is w board r s = rw (s.1.entry, s.1.exit) at s.2

pub adds_is : (board : List ℕ) (t p wait : ℕ) (r : LentBoard) → AddsTo board t p wait r → r ≡ lent_add board t p wait
adds_is board t p wait r s = rw (s.1.entry, s.1.exit) at s.2

pub shows_is : (board : List ℕ) (t : ℕ) (r : LentBoard) → ShowsOn board t r → r ≡ lent_show board t
shows_is board t r s = rw (s.1.entry, s.1.exit) at s.2

pub tells_is : (table summary board : List ℕ) (act p m : ℕ) (r : LentTold) → TellsTo table summary board act p m r
    → r ≡ lent_tell table summary board act p m
tells_is table summary board act p m r s =
    rw (s.1.entry, s.1.exit, s.2.entry, s.2.exit, s.3.entry, s.3.exit) at s.4

-- Lists to lend

-- a list that holds `before` may be lent, and be left with `after`
abbrev pub lending : (before after : List ℕ) → Lends before after
lending before after = record {
  lent = record { ref_ptr = (0, 0); ghost_name = 0; now = before };
  left = record { ref_ptr = (0, 0); ghost_name = 0; now = after };
  entry = refl;
  exit = refl;
}

-- a list that holds these numbers may be lent to be read
abbrev pub reading : (numbers : List ℕ) → LendsToRead numbers
reading numbers = record {
  lent = record { ref_ptr = (0, 0); now = numbers };
  left = record { ref_ptr = (0, 0); now = numbers };
  entry = refl;
  exit = refl;
}

-- 96 values of a may be lent as they are
pub whole : (a : List ℕ) → length a ≡ 96 → limits_in a ≡ a
whole a size = ap limits_in (sym (append-nil a)) ∙ limits_whole a [] size

abbrev pub lending_limits : (a : List ℕ) → length a ≡ 96 → LendsLimits a
lending_limits a size = record { values = a; told = whole a size; list = reading a }
