-- What `funnelfawn_record_and_tell` gives back, from what the recorded step with its wait and the adding give. Assumes nothing.
use Prim.Native.Nat.{ℕ}
use mathlib.Core.Path.{◌≡◌}
use mathlib.Core.Logic.{◌≢◌}
use mathlib.Core.List.{List}
use borrow.Author.Tests.{ne_eqb}
use Rattle.model.specs.declared.Answer.{Answer}
use Rattle.model.specs.Acts.{crit_act}
use Rattle.model.specs.Answers.{answer_of}
use Rattle.layout.specs.Interface.{record_gave, lent_record, entry_gave, lent_entry}
use Rattle.recent.specs.Encodings.{board_gave, lent_add}
use Rattle.recent.specs.Tellings.{told_gave, lent_tell}
use Rattle.layout.proofs.Recording.{entry_record, entry_wait}
use Rattle.funnelfawn.specs.declared.Told.{Told}

module _ (table summary board : List ℕ) (act p m : ℕ) {step : Answer} {t x : List ℕ} {wait : ℕ}
    (entered : entry_gave (record_gave step t x) wait ≡ lent_entry table summary act p m) where
  abbrev Gives : Told → List ℕ → Type 0
  Gives r b = told_gave (record_gave r.answer t x) (board_gave r.told b) ≡ lent_tell table summary board act p m

  stepped : record_gave step t x ≡ lent_record table summary act p m
  stepped = entry_record table summary act p m entered

  pub tell_refused : step.code ≢ 0 → {told : Answer} → told ≡ answer_of 0 0 0 → Gives (record { answer = step; told = told }) board
  unfolding lent_tell
  tell_refused n e = rw (e, ← stepped, ne_eqb _ _ n)

  pub tell_other : step.code ≡ 0 → act ≢ crit_act → {told : Answer} → told ≡ answer_of 0 0 0
      → Gives (record { answer = step; told = told }) board
  unfolding lent_tell
  tell_other a n e = rw (e, ← stepped, a, ne_eqb _ _ n)

  pub tell_entered : step.code ≡ 0 → act ≡ crit_act → {told : Answer} {b : List ℕ} → board_gave told b ≡ lent_add board m p wait
      → Gives (record { answer = step; told = told }) b
  unfolding lent_tell
  tell_entered a c e =
      rw (← stepped, a, c, ← entry_wait table summary act p m entered a, ← e)
