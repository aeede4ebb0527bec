-- All that a call gives back is equal where its parts are. Assumes nothing.
use Prim.Native.Nat.{ℕ}
use mathlib.Core.Path.{◌≡◌, ap}
use mathlib.Core.List.{List}
use Rattle.model.specs.declared.Answer.{Answer}
use Rattle.model.specs.Writings.{Written, write_gave}

-- A writing

pub write-gave : {r s : Answer} {o p : List ℕ} → r ≡ s → o ≡ p → write_gave r o ≡ write_gave s p
write-gave r o = λ i. write_gave (r i) (o i)

module _ {r : Answer} {o : List ℕ} {w : Written} (e : write_gave r o ≡ w) where
  pub gave_answer : r ≡ w.answer
  gave_answer = ap (λ (x : Written). x.answer) e

  pub gave_out : o ≡ w.out
  gave_out = ap (λ (x : Written). x.out) e
