-- An accepted act is a move of the view, and keeps the limits. Assumes nothing.
use Prim.Native.Nat.{ℕ, zero, suc, ◌+◌, ◌≤◌}
use mathlib.Core.Path.{◌≡◌, refl, ap}
use mathlib.Core.Logic.{⊎_elim, ◌≢◌}
use native.Mathlib.Omega.{arith}
use Rattle.model.specs.Types.{Location}
use Rattle.model.specs.Types.{Process}
use Rattle.model.specs.Types.{State}
use Rattle.model.specs.Acts.{crit_act}
use Rattle.model.specs.States.{since_of}
use Rattle.theory.specs.Soundness.{Sound}
use Rattle.theory.specs.Acceptance.{From, Effect, Waits, Acts, Allowed, Changed}
use Rattle.theory.proofs.Rows.{from_ready}
use Rattle.lists.proofs.Ranks.{at_checking, at_entering, rank_of}
use Rattle.lists.proofs.View.{View, Same, Comes, Goes, Move, Kept}
use Rattle.lists.proofs.StateView.{location_of, view_of, lock_of, location-of, view_past, view_timely}

-- The acts table

-- what an act at the time m tells by the location that it leaves
record Left (b m act : ℕ) (l : Location) : Type 0 where
  released : rank_of l ≡ at_checking → since_of l + b ≤ m
  crit : rank_of l ≡ at_entering → act ≡ crit_act

from_left : {b m act : ℕ} {l : Location} → From b m act l → Left b m act l
from_left From.try = omega arith
from_left From.test = omega arith
from_left From.set = omega arith
from_left (From.check h) = omega arith
from_left From.crit = omega arith
from_left From.exit = omega arith
from_left From.reset = omega arith
from_left From.rem = omega arith
from_left From.withdraw = omega arith

-- the views before and after an act of process p that leads from the location k and the word w to the location l and the word w'
record Leads (x y : View) (p : ℕ) (k : Location) (w : ℕ) (l : Location) (w' : ℕ) : Type 0 where
  some : 1 ≤ p
  leaves : x.rank p ≡ rank_of k
  finds : x.word ≡ w
  reaches : y.rank p ≡ rank_of l
  arrives : y.since p ≡ since_of l
  writes : y.word ≡ w'

-- the parts of a move that tell of the process that acts
record Turn (x y : View) (act p m : ℕ) : Type 0 where
  comes : Comes x y p m
  goes : Goes x y act p

effect_turn : {x y : View} {b m act p w w' : ℕ} {k l : Location} → From b m act k → Effect p m act w l w' → Leads x y p k w l w'
    → Turn x y act p m
effect_turn From.try Effect.try h = omega arith
effect_turn From.test Effect.test_free h = omega arith
effect_turn From.test (Effect.test_taken n) h = omega arith
effect_turn From.set Effect.set h = omega arith
effect_turn (From.check _) Effect.check_own h = omega arith
effect_turn (From.check _) (Effect.check_other n) h = omega arith
effect_turn From.crit Effect.crit h = omega arith
effect_turn From.exit Effect.exit h = omega arith
effect_turn From.reset Effect.reset h = omega arith
effect_turn From.rem Effect.rem h = omega arith
effect_turn From.withdraw Effect.withdraw h = omega arith

-- The limits

module _ {s : State} {act p m : ℕ} (allowed : Allowed s act p m) where
  act_left : Left s.parameters.b m act (location_of s p)
  act_left = ⊎_elim
      (λ w. rw w.nobody (omega arith))
      (λ a. rw (location-of s p a.some) (from_left a.from))
      allowed.turn

  pub limits_kept : Sound s → Kept (lock_of s.parameters) (view_of s) p m
  limits_kept sound = record { timely = view_timely sound allowed.in-time; released = act_left.released }

-- The move

module _ {s s' : State} {act p m : ℕ} (sound : Sound s) (allowed : Allowed s act p m) (changed : Changed s act p m s') where
  wait_turn : Waits act p → Turn (view_of s) (view_of s') act p m
  wait_turn w = let e = changed.wait_keeps w.wait in rw w.nobody (omega arith)

  act_turn : Acts s act p m → Turn (view_of s) (view_of s') act p m
  act_turn a = effect_turn a.from (changed.effect (from_ready a.from).not_wait) (record {
    some = a.some;
    leaves = ap rank_of (location-of s p a.some);
    finds = refl;
    reaches = ap rank_of (location-of s' p a.some);
    arrives = ap since_of (location-of s' p a.some);
    writes = refl;
  })

  turn : Turn (view_of s) (view_of s') act p m
  turn = ⊎_elim wait_turn act_turn allowed.turn

  others_same : (j : ℕ) → j ≢ p → Same (view_of s) (view_of s') j
  others_same zero n = omega arith
  others_same (suc j) n =
      let e = changed.others_stay (suc j) (omega arith) n in
      record { rank = ap (λ (q : Process). rank_of q.location) e; since = ap (λ (q : Process). since_of q.location) e }

  pub view_moves : Move (view_of s) (view_of s') act p m
  view_moves = record {
    forward = allowed.forward;
    clock_is = changed.clock_is;
    past = view_past sound;
    comes = turn.comes;
    goes = turn.goes;
    others = others_same;
    nobody = refl;
    is_crit = (act_left allowed).crit;
  }
