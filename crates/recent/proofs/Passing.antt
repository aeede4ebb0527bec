-- Laws of a pass over entries that has come to some of them, and of one pass after another. Assumes nothing.
use Prim.Native.Nat.{ℕ, max, ◌≤◌, ◌<◌}
use mathlib.Core.Path.{◌≡◌, sym, ap, ◌∙◌}
use mathlib.Core.Bool.{false}
use mathlib.Core.List.{List, [], ◌∷◌, ◌++◌}
use Rattle.std.specs.Prelude.{Option, Some, None}
use Rattle.recent.specs.declared.rings.Pass.{Pass}
use Rattle.recent.specs.Boards.{Entry, in_order}
use Rattle.recent.specs.Looking.{latest, longest_over, Passed, Passes}
use Rattle.recent.proofs.Passes.{order_next, order_falls, order_append, latest_append, over_append}

-- of the entries `all` those in `left` are left, after the time and the longest wait so far; the pass began with time₀ and longest₀
pub record Passing (all : List Entry) (time₀ longest₀ : ℕ) (left : List Entry) (time longest : ℕ) : Type 0 where
  pub order : in_order time₀ all ≡ in_order time left
  pub latest_is : latest time₀ all ≡ latest time left
  pub longest_is : longest_over longest₀ all ≡ longest_over longest left

module _ {all : List Entry} {time₀ longest₀ : ℕ} {left : List Entry} {time longest : ℕ} (so_far : Passing all time₀ longest₀ left time longest) where
  module _ {e : Entry} {es : List Entry} (first : left ≡ e ∷ es) where
    pub passing_falls : e.time < time → in_order time₀ all ≡ false
    passing_falls h = so_far.order ∙ ap (in_order time) first ∙ order_falls time e es h

    pub passing_next : time ≤ e.time → Passing all time₀ longest₀ es e.time (max longest e.wait)
    unfolding latest longest_over
    passing_next h =
        record {
          order = so_far.order ∙ ap (in_order time) first ∙ order_next time e es h;
          latest_is = so_far.latest_is ∙ ap (latest time) first;
          longest_is = so_far.longest_is ∙ ap (longest_over longest) first;
        }

-- none is left
pub passing_end : {all : List Entry} {pass r : Pass} {left : List Entry} → Passing all pass.time pass.longest left r.time r.longest
    → left ≡ [] → Passed all pass r
unfolding in_order latest longest_over
passing_end {r = r} so_far none =
    record {
      order = so_far.order ∙ ap (in_order r.time) none;
      latest_is = sym (so_far.latest_is ∙ ap (latest r.time) none);
      longest_is = sym (so_far.longest_is ∙ ap (longest_over r.longest) none);
    }

-- One pass after another

-- what falls in the first
pub passes_fell : (t : ℕ) (es ds : List Entry) → in_order t es ≡ false → in_order t (es ++ ds) ≡ false
passes_fell t es ds f = order_append t es ds ∙ rw f

module _ {es : List Entry} (ds : List Entry) {pass mid : Pass} (first : Passed es pass mid) where
  order_both : in_order pass.time (es ++ ds) ≡ in_order mid.time ds
  order_both = order_append pass.time es ds ∙ rw (first.order, first.latest_is)

  pub passes_both : (r : Option Pass) → Passes ds mid r → Passes (es ++ ds) pass r
  passes_both None q = order_both ∙ q
  passes_both (Some r) q = record {
    order = order_both ∙ q.order;
    latest_is = q.latest_is ∙ rw first.latest_is (sym (latest_append pass.time es ds));
    longest_is = q.longest_is ∙ rw first.longest_is (sym (over_append pass.longest es ds));
  }
