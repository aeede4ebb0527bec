-- Laws of a ring whose first entries are gone one by one, as `Resting` tells it. Assumes nothing.
use Prim.Native.Nat.{ℕ, ◌+◌, ◌-◌, ◌≤◌, ◌<◌}
use mathlib.Core.Path.{◌≡◌, refl, sym, ap, ◌∙◌}
use mathlib.Core.Bool.{false}
use mathlib.Core.List.{List, ◌∷◌}
use native.Mathlib.Omega.{arith}
use Rattle.recent.specs.Boards.{most_kept, in_order}
use Rattle.recent.specs.Encodings.{wrapped, entry_at, ring_from}
use Rattle.recent.specs.Looking.{latest, Resting}
use Rattle.recent.proofs.Places.{wrapped_inside, wrapped_below, wrapped_on, ring_next}
use Rattle.recent.proofs.Passes.{order_next, order_falls, figures_after}

-- at first none is gone
pub resting_start : (l : List ℕ) (k n since : ℕ) → k < most_kept → Resting l k n since k n 0
resting_start l k n since h =
    record {
      inside = h;
      fewer = omega arith;
      first_is = sym (wrapped_inside (k + (n - n)) (omega arith) ∙ omega arith);
      order = refl;
      latest_is = refl;
      figures = λ w clock e. record { many = refl; longest = refl };
    }

module _ {l : List ℕ} {k n since first count time : ℕ} (so_far : Resting l k n since first count time) where
  -- the ring that is left, by its first entry
  pub ring_left : 0 < count → n ≤ most_kept → ring_from l first count ≡ entry_at l first ∷ ring_from l (wrapped (first + 1)) (count - 1)
  ring_left h g =
      let more : count ≡ count - 1 + 1 = omega arith in
      ap (ring_from l first) more ∙ ring_next l first (count - 1) so_far.inside (omega (arith, so_far.fewer))

  -- an entry that falls
  pub resting_falls : 0 < count → n ≤ most_kept → (entry_at l first).time < time → in_order 0 (ring_from l k n) ≡ false
  resting_falls h g b =
      so_far.order ∙ rw (ring_left h g) (order_falls time (entry_at l first) (ring_from l (wrapped (first + 1)) (count - 1)) b)

  next_place : 0 < count → k < most_kept → n ≤ most_kept → wrapped (first + 1) ≡ wrapped (k + (n - (count - 1)))
  next_place h p g =
      ap (λ (x : ℕ). wrapped (x + 1)) so_far.first_is ∙ wrapped_on (k + (n - count)) 1 (omega arith)
      ∙ ap wrapped (omega (arith, so_far.fewer))

  -- one more is gone
  pub resting_next : 0 < count → k < most_kept → n ≤ most_kept → time ≤ (entry_at l first).time → (entry_at l first).time < since
      → Resting l k n since (wrapped (first + 1)) (count - 1) (entry_at l first).time
  unfolding latest
  resting_next h p g b gone =
      let rest = ring_from l (wrapped (first + 1)) (count - 1) in
      record {
        inside = wrapped_below (first + 1) (omega (arith, so_far.inside));
        fewer = omega (arith, so_far.fewer);
        first_is = next_place h p g;
        order = so_far.order ∙ ap (in_order time) (ring_left h g) ∙ order_next time (entry_at l first) rest b;
        latest_is = so_far.latest_is ∙ ap (latest time) (ring_left h g);
        figures = λ w clock e. figures_after w clock (rw (ring_left h g) at (so_far.figures w clock e)) (omega arith);
      }
