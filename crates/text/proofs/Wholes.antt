-- Laws of putting a text whole into an output: after its names line, into one of no bytes, and where there is room. Assumes nothing.
use Prim.Native.Nat.{ℕ, suc, ◌+◌, ◌≤◌}
use mathlib.Core.Path.{◌≡◌, refl, ◌∙◌, subst}
use mathlib.Core.List.{List, [], ◌∷◌, ◌++◌}
use native.Mathlib.Omega.{arith}
use lib.ListN.{length, take, drop, length-append}
use lib.Seq.{sets, take_at}
use lib.Dec.{ltb}
use borrow.Author.Tests.{le-ltb}
use Rattle.model.specs.Answers.{answer_of}
use Rattle.model.specs.Writings.{Written, write_gave, fitted}
use Rattle.model.proofs.Given.{write-gave}
use Rattle.model.proofs.Tests.{by_cond}
use Rattle.text.specs.Puts.{Put}
use Rattle.text.proofs.Putting.{sets_over, put_first}

-- the lines of a text after its names line of n bytes
pub after_names : {old mid new names text : List ℕ} {i j n : ℕ}
    → Put old mid 0 names i → length names ≡ n → Put mid new n text j → Put old new 0 (names ++ text) (i + j)
after_names {mid = mid} {new = new} {text = text} {i = i} {j = j} {n = n} p e q =
    let at : n ≡ i = omega (arith, p.wide) in
    put_first p (subst (λ (k : ℕ). Put mid new k text j) at q)

sets_nothing : (i : ℕ) (text : List ℕ) → sets [] i text ≡ []
sets_nothing i [] = refl
sets_nothing i (x ∷ text) = sets_nothing (suc i) text

-- an output of no bytes stays so
pub nothing_put : {new text : List ℕ} {at size : ℕ} → Put [] new at text size → new ≡ []
nothing_put {text = text} {at = at} p = p.put ∙ sets_nothing at text

-- a text that has room
pub put_whole : {old new text : List ℕ} {size : ℕ} → Put old new 0 text size → size ≤ length old
    → write_gave (answer_of 0 0 size) new ≡ fitted text old
unfolding fitted
put_whole {old} {new} {text} {size} p h =
    let fits : length text ≤ length old = omega (arith, p.wide) in
    rw (le-ltb (length old) (length text) fits) (write-gave (rw p.wide) (p.put ∙ sets_over text old fits))

-- a text that is answered with 0 is whole
pub record Whole (text new : List ℕ) (size : ℕ) : Type 0 where
  pub within : size ≤ length new
  pub bytes : take size new ≡ text

pub whole : (text out : List ℕ) → (fitted text out).answer.code ≡ 0 → Whole text (fitted text out).out (fitted text out).answer.time
unfolding fitted
whole text out =
    by_cond (λ (w : Written). w.answer.code ≡ 0 → Whole text w.out w.answer.time) (ltb (length out) (length text))
    (λ _ (e : 16 ≡ 0). absurd (omega arith))
    (λ _ _.
    record {
      within = omega (arith, length-append text (drop (length text) out));
      bytes = take_at text (drop (length text) out) (length text) refl;
    })
