-- The unused time of an accepted action from who is critical besides its process, and how the waits so far of places in a row are gone over.
-- Any waits are taken, sound or not; `proofs/Waits` relates all this to the model. Assumes nothing.
use Rattle.std.specs.Prelude.{ℕ, zero, suc, ◌+◌, ◌-◌, ◌%◌, ◌^◌, Bool, cond, not, ◌&&◌, ◌||◌, List, drop, replicate, ◌==◌, nat_lt}
use Rattle.std.specs.Prelude.{slice_index, slice_index_or, slice_set}
use Rattle.model.specs.Types.{Process}
use Rattle.model.specs.Acts.{crit_act, exit_act}
use Rattle.model.specs.Stages.{testing, setting, checking, entering, leaving}
use Rattle.model.specs.States.{idle, stage_of}
use Rattle.model.specs.Answers.{critical_from}

-- helper: the lowest critical process past process p
abbrev pub critical_past : ℕ → List Process → ℕ
critical_past p qs = critical_from (p + 1) (drop p qs)

-- helper: who was critical besides the acting process p, from the entries qs after an accepted action that is no exit and who is `named` in the
-- answer to it
abbrev pub others_before : ℕ → List Process → ℕ → ℕ → ℕ
others_before named qs act p = cond (act == crit_act && named == p) (critical_past p qs) named

-- [5.75] whether an accepted action may have unused time, by who is `named` in the answer to it
abbrev pub may_wait : ℕ → ℕ → ℕ → ℕ → Bool
may_wait named act clock m = nat_lt clock m && not (act == exit_act) && (act == crit_act || named == 0)

-- [5.75] `others` is the lowest critical process besides the acting one, which is critical itself before an exit
abbrev pub unused_beside : ℕ → ℕ → ℕ → ℕ → ℕ
unused_beside others act clock m = cond (not (others == 0)) 0 (cond (act == exit_act) 0 (m - clock))

-- [5.80] for how much longer processes have waited, by their stages: those who are trying for d, the others not
abbrev pub gains_of : ℕ → List ℕ
gains_of d = slice_set (slice_set (slice_set (slice_set (replicate (leaving + 1) 0) testing d) setting d) checking d) entering d

-- [5.80] a wait so far that is longer by d; the sum of one that is not sound may wrap
abbrev pub longer_by : ℕ → ℕ → ℕ
longer_by d w = (w + d) % 2 ^ 64

-- helper: the stage of the entry at a place
abbrev pub stage_at : List Process → ℕ → ℕ
stage_at qs i = stage_of (slice_index_or qs i idle).location

-- [5.80] the waits so far once k of them, from place i on, are longer by what their stages gain
unfoldable pub waited_from : List ℕ → (ℕ → ℕ) → ℕ → ℕ → List ℕ → List ℕ
waited_from gains stage i zero ws = ws
waited_from gains stage i (suc k) ws =
    waited_from gains stage (i + 1) k (slice_set ws i (longer_by (slice_index gains (stage i)) (slice_index ws i)))
