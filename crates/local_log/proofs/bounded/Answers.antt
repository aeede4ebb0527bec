-- `local_log::bounded` meets its contract: what the ends of the interval tell. Assumes nothing.
use Rattle.std.proofs.Common.{◌≡◌, ℕ, ◌-◌, ◌<◌, ◌≤◌, pos, sym, refl, ap, ◌∙◌, arith, to_z-of_z, w64, lt-ltb, le-ltb}
use lib.IntN.{sub_ℕ}
use Rattle.model.specs.States.{last_time}
use Rattle.local_log.specs.Comparisons.{comparison}
use Rattle.local_log.specs.Passes.{lowest, highest, bounded_of}
use Rattle.local_log.proofs.bounded.Goals as goal

-- what the interval's ends tell
empty : (smallest largest d e : ℕ) → highest smallest d e < lowest largest d e → bounded_of smallest largest d e ≡ comparison 21 (pos 0)
unfolding bounded_of
empty smallest largest d e h = rw (lt-ltb _ _ h) refl

filled : (smallest largest d e low : ℕ) → low ≡ lowest largest d e → low ≤ highest smallest d e
    → bounded_of smallest largest d e ≡ comparison 0 (sub_ℕ low last_time)
unfolding bounded_of
filled smallest largest d e low is h = rw (is, le-ltb (highest smallest d e) (lowest largest d e) (omega (arith, is, h))) refl

pub returns-then-high-low : goal.returns-then-high-low
returns-then-high-low c =
    let s = c.args in
    sym (empty s.found.smallest s.found.largest s.d s.e (omega arith))

pub returns : goal.returns
returns c =
    let s = c.args in
    let back = to_z-of_z {w = w64} {z = c.shift_of-shift.result} (record { sfits = c.shift_of-shift.type_inv }) in
    ap (comparison 0) (back ∙ c.shift_of-shift.ensures)
    ∙ sym (filled s.found.smallest s.found.largest s.d s.e (c.max.result - s.e) (omega arith) (omega arith))
