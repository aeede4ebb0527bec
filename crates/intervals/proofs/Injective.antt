-- The text of intervals tells them: its fields are read back, and the bytes of a field tell it and where it ends, so a line is told and
-- then all of them. Assumes nothing.
use Prim.Native.Nat.{ℕ, ◌<◌}
use mathlib.Core.Path.{◌≡◌, refl, sym, ap, ap₂}
use mathlib.Core.Logic.{◌≢◌}
use mathlib.Core.List.{List, [], ◌∷◌, ◌++◌, append_assoc}
use native.Mathlib.Omega.{arith}
use lib.ListN.{length, drop}
use lib.Seq.{drop-append_seam}
use Rattle.model.specs.Texts.{comma, newline, number_text}
use Rattle.model.specs.Readings.{number_from}
use Rattle.grammar.proofs.Fields.{number_reads, number_first, number_none}
use Rattle.intervals.specs.Intervals.{End, ongoing, until, Interval, interval_names, end_text, interval_text, interval_lines, intervals_text}
use Rattle.intervals.specs.Answers.{ReadsNumber, ReadsEnd, LineReads, TextTellsAll}

-- Fields are read back

number_starts : (end v : ℕ) (t : List ℕ) → end < 48 → ReadsNumber end v (number_text end v ++ t) t
number_starts end v t small = record {
  size = length (number_text end v);
  reads = λ bound h. number_reads bound end small v t h;
  then = drop-append_seam (number_text end v) t;
}

end_starts : (x : End) (t : List ℕ) → ReadsEnd x (end_text x ++ t) t
unfolding end_text
end_starts ongoing t = refl
end_starts (until m) t = number_starts newline m t (omega arith)

pub line_reads : LineReads
unfolding interval_text
line_reads i rest =
    let last : List ℕ = end_text i.to ++ rest in
    let second : List ℕ = number_text comma i.from ++ last in (
      second,
      last,
      simp append_assoc (number_starts comma i.process second (omega arith)),
      number_starts comma i.from last (omega arith),
      end_starts i.to rest,
    )

-- So they tell all

-- the last field: no number starts with a dash
end_first : (x y : End) (s t : List ℕ) → end_text x ++ s ≡ end_text y ++ t → (x ≡ y) × (s ≡ t)
unfolding end_text number_from
end_first ongoing ongoing s t e = (refl, ap (drop 2) e)
end_first ongoing (until m) s t e = absurd (number_none newline (omega arith) m t _ (λ _. refl) (sym e))
end_first (until m) ongoing s t e = absurd (number_none newline (omega arith) m s _ (λ _. refl) e)
end_first (until m) (until n) s t e = let f = number_first newline (omega arith) m n s t e in (ap until f.0, f.1)

-- a line is told, and so is what follows it
line_first : (i j : Interval) (s t : List ℕ) → interval_text i ++ s ≡ interval_text j ++ t → (i ≡ j) × (s ≡ t)
unfolding interval_text
line_first i j s t e =
    let p = number_first comma (omega arith) i.process j.process _ _ (simp append_assoc at e) in
    let f = number_first comma (omega arith) i.from j.from _ _ p.1 in
    let l = end_first i.to j.to s t f.1 in
    (λ k. record { process = p.0 k; from = f.0 k; to = l.0 k }, l.1)

-- no line is empty, as its first field is a number
line_some : (i : Interval) (s : List ℕ) → interval_text i ++ s ≢ []
unfolding interval_text number_from
line_some i s e = number_none comma (omega arith) i.process _ [] (λ _. refl) (simp append_assoc at e)

lines_tell : (is js : List Interval) → interval_lines is ≡ interval_lines js → is ≡ js
unfolding interval_lines
lines_tell [] [] e = refl
lines_tell [] (j ∷ js) e = absurd (line_some j (interval_lines js) (sym e))
lines_tell (i ∷ is) [] e = absurd (line_some i (interval_lines is) e)
lines_tell (i ∷ is) (j ∷ js) e = let l = line_first i j (interval_lines is) (interval_lines js) e in ap₂ ◌∷◌ l.0 (lines_tell is js l.1)

pub text_tells_all : TextTellsAll
unfolding intervals_text
text_tells_all is js e = lines_tell is js (ap (drop (length interval_names)) e)
