-- What is found of a text that is started with fresh lists: they have room for any trace. Assumes nothing.
use mathlib.Core.Path.{◌≡◌, sym, ap, ◌∙◌}
use mathlib.Core.List.{List}
use Prim.Native.Nat.{ℕ}
use lib.ListN.{length, replicate, length-replicate}
use Rattle.std.specs.Prelude.{Result, Ok, Err}
use Rattle.model.specs.declared.Fault.{Fault}
use Rattle.model.specs.declared.Started.{Started}
use Rattle.model.specs.Readings.{Lists, refused, trace_of}
use Rattle.model.specs.Executions.{start_gave, started_of}
use Rattle.execution.specs.Steps.{fresh_lists}
use Rattle.execution.proofs.Starts.{Ready, ready_in, refusal_in}

room_fresh : 8187 ≡ length {A = ℕ} (replicate 8187 0)
room_fresh = sym (length-replicate {A = ℕ} 8187 0)

module _ (text : List ℕ) {l kept : Lists} (fresh : l ≡ fresh_lists) {r : Result Started Fault} (e : start_gave r kept ≡ started_of text l) where
  abbrev begun : start_gave r kept ≡ started_of text fresh_lists
  begun = e ∙ ap (started_of text) fresh

  pub ready_fresh : {s : Started} → r ≡ Ok s → Ready text s kept
  ready_fresh = ready_in text fresh_lists room_fresh room_fresh room_fresh begun

  pub refusal_fresh : {f : Fault} → r ≡ Err f → trace_of text ≡ refused f.refusal f.line
  refusal_fresh = refusal_in text fresh_lists room_fresh room_fresh room_fresh begun
