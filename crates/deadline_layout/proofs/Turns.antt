-- The pass over entries, turn by turn: the next entry, whose numbers stand or not. And entries as they are read out of a list of numbers.
-- Assumes nothing.
use Prim.Native.Nat.{ℕ, ◌+◌, ◌<◌}
use mathlib.Core.Path.{◌≡◌, refl, sym, ap, ◌∙◌}
use mathlib.Core.Logic.{◌≢◌}
use mathlib.Core.Bool.{cond}
use mathlib.Core.List.{List, [], ◌∷◌, ◌++◌}
use native.Mathlib.Omega.{arith}
use lib.Dec.{eqb}
use lib.ListN.{length, get_or, take, drop}
use borrow.Author.Tests.{eq-eqb, ne_eqb}
use Rattle.std.specs.List.{concat}
use lib.Seq.{get_or-take, get_or-drop}
use Rattle.model.proofs.Lists.{drop_at, drop_end}
use Rattle.rules.specs.declared.survey.Scene.{Scene}
use Rattle.rules.specs.declared.survey.Survey.{Survey}
use Rattle.rules.specs.Survey.{unsound}
use Rattle.model.specs.States.{limit_at}
use Rattle.deadline_layout.specs.Steps.{entries_noted_with, look_at}

-- a list from place i on is its three numbers there and the list after them
pub three_at : {A : Type 0} (l : List A) (i : ℕ) (d : A) → i + 2 < length l
    → drop i l ≡ get_or l i d ∷ get_or l (i + 1) d ∷ get_or l (i + 2) d ∷ drop (i + 3) l
three_at l i d h =
    let e : i + 2 ≡ i + 1 + 1 = omega arith in
    let f : i + 3 ≡ i + 1 + 1 + 1 = omega arith in
    rw (drop_at l i d (omega arith), drop_at l (i + 1) d (omega arith), drop_at l (i + 1 + 1) d (omega arith), e, f)

-- the a of entry i, as the pass reads it
pub own_limit : (a : List ℕ) (i : ℕ) → get_or a i 0 ≡ limit_at a (i + 1)
unfolding limit_at
own_limit a i = ap (λ (j : ℕ). get_or a j 0) (omega arith)

module _ (a : List ℕ) (b : ℕ) (x : Scene) where
  -- the look at the numbers of one entry, and what those after it give
  next_noted : (e : List ℕ) → length e ≡ 3 → (rest : List ℕ) (k : ℕ) (f : Survey)
      → entries_noted_with b a x k (e ++ rest) f
      ≡ cond (eqb (look_at e x k b (limit_at a k) f).faulty 0) (entries_noted_with b a x (k + 1) rest (look_at e x k b (limit_at a k) f)) unsound
  unfolding entries_noted_with
  next_noted [] h rest k f = absurd (omega arith)
  next_noted (p ∷ []) h rest k f = absurd (omega arith)
  next_noted (p ∷ (q ∷ [])) h rest k f = absurd (omega arith)
  next_noted (p ∷ (q ∷ (r ∷ []))) h rest k f = refl
  next_noted (p ∷ (q ∷ (r ∷ (s ∷ t)))) h rest k f = absurd (omega arith)

  -- what entries give, from entry i on, after f was found
  module _ (es : List (List ℕ)) where
    abbrev pub left : ℕ → Survey → Survey
    left i f = entries_noted_with b a x (i + 1) (concat (drop i es)) f

    -- none is left
    pub turn_end : (i : ℕ) (f : Survey) → length es ≡ i → left i f ≡ f
    unfolding entries_noted_with
    turn_end i f e = ap (λ (l : List (List ℕ)). entries_noted_with b a x (i + 1) (concat l) f) (drop_end es i (omega arith) (omega arith))

    -- the next of them, of which g is found
    module _ (i : ℕ) (here : i < length es) (e : List ℕ) (is : e ≡ get_or es i []) (three : length (get_or es i []) ≡ 3)
        (f g : Survey) (look : g ≡ look_at e x (i + 1) b (get_or a i 0) f) where
      noted : left i f ≡ cond (eqb g.faulty 0) (left (i + 1) g) unsound
      noted =
          let at : g ≡ look_at e x (i + 1) b (limit_at a (i + 1)) f = look ∙ ap (λ (k : ℕ). look_at e x (i + 1) b k f) (own_limit a i) in
          ap (λ (l : List (List ℕ)). entries_noted_with b a x (i + 1) (concat l) f) (drop_at es i [] here)
          ∙ ap (λ (l : List ℕ). entries_noted_with b a x (i + 1) (l ++ concat (drop (i + 1) es)) f) (sym is)
          ∙ rw at (next_noted e (ap length is ∙ three) (concat (drop (i + 1) es)) (i + 1) f)

      pub turn_fault : g.faulty ≢ 0 → unsound ≡ left i f
      turn_fault z = sym (noted ∙ rw (ne_eqb g.faulty 0 z))

      pub turn_on : g.faulty ≡ 0 → left (i + 1) g ≡ left i f
      turn_on z = sym (noted ∙ rw (eq-eqb g.faulty 0 z))

-- an entry of the part that is left
pub left_row : (es : List (List ℕ)) (done : ℕ) {part : List (List ℕ)} → part ≡ drop done es → (j : ℕ) → get_or part j [] ≡ get_or es (done + j) []
left_row es done e j = ap (λ (l : List (List ℕ)). get_or l j []) e ∙ get_or-drop done es j []

pub four_row : (es : List (List ℕ)) (done : ℕ) {part four : List (List ℕ)} → part ≡ drop done es → four ≡ take 4 part → (j : ℕ) → j < 4
    → get_or four j [] ≡ get_or es (done + j) []
four_row es done {part} e f j h = ap (λ (l : List (List ℕ)). get_or l j []) f ∙ get_or-take 4 part j [] h ∙ left_row es done e j
