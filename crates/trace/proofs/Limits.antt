-- The lines of a: that a line lies within its text, a turn of the loop that reads them, and the lines that are left to put. Assumes nothing.
use Prim.Native.Nat.{ℕ, suc, ◌+◌, ◌-◌, ◌≤◌, ◌<◌}
use mathlib.Core.Path.{◌≡◌}
use mathlib.Core.List.{List, [], ◌∷◌, ◌++◌}
use native.Mathlib.Omega.{arith}
use lib.ListN.{length, get_or, drop, set}
use lib.Seq.{drop-drop}
use Rattle.std.specs.Prelude.{Ok, Err}
use Rattle.model.specs.declared.Parsed.{Parsed}
use Rattle.model.specs.declared.Fault.{Fault}
use Rattle.model.specs.Texts.{numbers_text, limits_text}
use Rattle.model.specs.Readings.{parsed, numbers_at, limit_line, limits_from}
use Rattle.model.proofs.Lists.{drop_at, drop_end}
use Rattle.grammar.proofs.Fields.{took_le}
use Rattle.grammar.proofs.Lines.{numbers_was}
use Rattle.grammar.proofs.LinesOfA.{limit_tells}

-- Reading

pub numbers_within : (line more : ℕ) (s : List ℕ) (l : Parsed (List ℕ)) → more < 4 → numbers_at line more s ≡ Ok l → l.size ≤ length s
numbers_within line more s l h e = took_le (numbers_was line more s h l e).took

pub limit_within : (i : ℕ) (s : List ℕ) (l : Parsed (List ℕ)) → i ≤ 96 → limit_line i s ≡ Ok l → l.size ≤ length s
limit_within i s l h e = let w = rw e at (limit_tells i s (omega arith)) in took_le w.took

-- i of n lines are read, which took `at` bytes, and `a` has their values
module _ (n i at : ℕ) (a s : List ℕ) where
  module _ (more : i < n) where
    pub limits_next : (l : Parsed (List ℕ)) → limit_line (i + 1) (drop at s) ≡ Ok l
        → limits_from (n - i) (i + 1) at a (drop at s)
        ≡ limits_from (n - (i + 1)) (i + 1 + 1) (at + l.size) (set a i (get_or l.value 1 0)) (drop (at + l.size) s)
    unfolding limits_from
    limits_next l e =
        let q : n - i ≡ suc (n - (i + 1)) = omega arith in
        let p : i + 1 - 1 ≡ i = omega arith in
        rw (q, e, p, ← drop-drop l.size at s)

    pub limits_stop : (f : Fault) → limit_line (i + 1) (drop at s) ≡ Err f → limits_from (n - i) (i + 1) at a (drop at s) ≡ Err f
    unfolding limits_from
    limits_stop f e = let q : n - i ≡ suc (n - (i + 1)) = omega arith in rw (q, e)

  pub limits_end : n ≤ i → limits_from (n - i) (i + 1) at a (drop at s) ≡ Ok (parsed a at)
  unfolding limits_from
  limits_end h = let q : n - i ≡ 0 = omega arith in rw q

-- Putting

module _ (a : List ℕ) (i : ℕ) where
  pub lines_at : i < length a → limits_text (i + 1) (drop i a) ≡ numbers_text (i + 1) (get_or a i 0 ∷ []) ++ limits_text (i + 1 + 1) (drop (i + 1) a)
  unfolding limits_text
  lines_at h = rw (drop_at a i 0 h)

  pub lines_end : length a ≤ i → i ≤ length a → limits_text (i + 1) (drop i a) ≡ []
  unfolding limits_text
  lines_end h g = rw (drop_end a i h g)
