-- Laws of a pass over entries: their order, the time of the last one and the longest wait, taken apart at a place; and the figures of entries
-- in order, which go on from the first that counts. Assumes nothing.
use Prim.Native.Nat.{ℕ, ◌+◌, ◌≤◌, ◌<◌, max}
use mathlib.Core.Path.{◌≡◌, refl, ◌∙◌}
use mathlib.Core.Bool.{true, false, ◌&&◌}
use mathlib.Core.List.{List, [], ◌∷◌, ◌++◌}
use native.Mathlib.Omega.{arith}
use native.Mathlib.Numerals.{add-one}
use borrow.Author.Tests.{lt-ltb, le-ltb, le-leb, lt-leb, leb-true}
use lib.ListN.{length}
use Rattle.model.proofs.Tests.{and_true_iff, if_lt}
use Rattle.recent.specs.Boards.{Entry, in_order, none_after, how_many, longest_at}
use Rattle.recent.specs.Looking.{latest, longest_over, SameFigures}

-- Order

-- what stands at or after t and is in order
pub order_head : (t : ℕ) (e : Entry) (es : List Entry) → in_order t (e ∷ es) ≡ true → (t ≤ e.time) × (in_order e.time es ≡ true)
unfolding in_order
order_head t e es h = let both = (and_true_iff _ _).0 h in (leb-true _ _ both.0, both.1)

-- an entry that does not fall leaves the order to the rest
pub order_next : (t : ℕ) (e : Entry) (es : List Entry) → t ≤ e.time → in_order t (e ∷ es) ≡ in_order e.time es
unfolding in_order
order_next t e es h = simp (le-leb _ _ h)

pub order_falls : (t : ℕ) (e : Entry) (es : List Entry) → e.time < t → in_order t (e ∷ es) ≡ false
unfolding in_order
order_falls t e es h = simp (lt-leb _ _ h)

-- entries in order are so from the time of the first on, and from any before it
pub order_from : (s t : ℕ) (e : Entry) (es : List Entry) → s ≤ e.time → in_order t (e ∷ es) ≡ true → in_order s (e ∷ es) ≡ true
order_from s t e es h o = order_next s e es h ∙ (order_head t e es o).1

pub order_append : (t : ℕ) (es ds : List Entry) → in_order t (es ++ ds) ≡ (in_order t es && in_order (latest t es) ds)
unfolding in_order latest
order_append t [] ds = refl
order_append t (e ∷ es) ds =
    if_lt e.time t
    (λ h. simp (lt-leb _ _ h))
    (λ h. simp (le-leb _ _ h) (order_append e.time es ds))

pub latest_append : (t : ℕ) (es ds : List Entry) → latest t (es ++ ds) ≡ latest (latest t es) ds
unfolding latest
latest_append t [] ds = refl
latest_append t (e ∷ es) ds = latest_append e.time es ds

pub over_append : (longest : ℕ) (es ds : List Entry) → longest_over longest (es ++ ds) ≡ longest_over (longest_over longest es) ds
unfolding longest_over
over_append longest [] ds = refl
over_append longest (e ∷ es) ds = over_append (max longest e.wait) es ds

-- The last time

-- the last of entries in order is the greatest
pub latest_most : (t : ℕ) (es : List Entry) → in_order t es ≡ true → t ≤ latest t es
unfolding latest
latest_most t [] o = omega arith
latest_most t (e ∷ es) o =
    let head = order_head t e es o in
    omega (arith, head.0, latest_most e.time es head.1)

-- entries in order whose last is not past u have none past u
pub none-after : (t u : ℕ) (es : List Entry) → in_order t es ≡ true → latest t es ≤ u → none_after u es ≡ true
unfolding none_after latest
none-after t u [] o h = refl
none-after t u (e ∷ es) o h =
    let rest = (order_head t e es o).1 in
    let here : e.time ≤ u = omega (arith, latest_most e.time es rest) in
    simp (le-leb _ _ here) (none-after e.time u es rest h)

-- a last time past u, where u is not before t, is that of an entry
pub some_after : (t u : ℕ) (es : List Entry) → t ≤ u → u < latest t es → none_after u es ≡ false
unfolding none_after latest
some_after t u [] g h = absurd (omega arith)
some_after t u (e ∷ es) g h =
    if_lt u e.time
    (λ b. simp (lt-leb _ _ b))
    (λ b. simp (le-leb _ _ b) (some_after e.time u es b h))

-- Figures

-- an expired entry ahead changes none
pub figures_after : (w clock : ℕ) {ds : List Entry} {e : Entry} {es : List Entry} → SameFigures w clock ds (e ∷ es) → e.time + w ≤ clock
    → SameFigures w clock ds es
unfolding how_many longest_at
figures_after w clock same h = record { many = simp (le-ltb _ _ h) at same.many; longest = simp (le-ltb _ _ h) at same.longest }

-- all count where they are in order from a time on that counts
module _ (w clock : ℕ) where
  pub all_count : (t : ℕ) (es : List Entry) → clock < t + w → in_order t es ≡ true → how_many w clock es ≡ length es
  unfolding how_many
  all_count t [] h o = refl
  all_count t (e ∷ es) h o =
      let head = order_head t e es o in
      let here : clock < e.time + w = omega (arith, head.0) in
      simp (lt-ltb _ _ here) (rw (all_count e.time es here head.1) (add-one (length es)))

  pub all_longest : (t longest : ℕ) (es : List Entry) → clock < t + w → in_order t es ≡ true
      → longest_over longest es ≡ max longest (longest_at w clock es)
  unfolding longest_over longest_at
  all_longest t longest [] h o = omega arith
  all_longest t longest (e ∷ es) h o =
      let head = order_head t e es o in
      let here : clock < e.time + w = omega (arith, head.0) in
      simp (lt-ltb _ _ here) (all_longest e.time (max longest e.wait) es here head.1 ∙ omega arith)
