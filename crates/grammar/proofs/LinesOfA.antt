-- The lines of a: what is written for the values is read back, and what is read was so written. And the 96 values that parameters have of
-- those lines. Assumes nothing.
use Prim.Native.Nat.{ℕ, zero, suc, ◌+◌, ◌-◌, ◌*◌, ◌≤◌, ◌<◌}
use mathlib.Core.Path.{◌≡◌, refl, sym, ap, ◌∙◌}
use mathlib.Core.List.{List, [], ◌∷◌, ◌++◌, append_assoc}
use native.Mathlib.Omega.{arith}
use native.Mathlib.Nat.{add-zero, zero-add, suc-add, zero-sub, sub-zero, suc-sub-suc}
use native.Mathlib.Numerals.{add-one}
use lib.Dec.{eqb}
use lib.ListN.{length, get_or, take, drop, set, replicate, length-append, length-drop, length-replicate, get_or-replicate, take-append-drop}
use lib.Seq.{drop-append_seam, sets, sets-eq, take_all, take-append_seam, length-take-le, get_or-drop, ext_get_or}
use borrow.Author.Tests.{eq-eqb, eqb-true, eqb-false}
use Rattle.std.specs.Prelude.{Result, Ok, Err}
use Rattle.model.specs.declared.Refusal.TheVariants.{BadLine}
use Rattle.model.specs.declared.Parsed.{Parsed}
use Rattle.model.specs.declared.Fault.{Fault}
use Rattle.model.specs.States.{limits_in}
use Rattle.model.specs.Texts.{number_bound, numbers_text, limits_text}
use Rattle.model.specs.Readings.{parsed, fault, onward, line_fails, numbers_at, ordered, limit_line, limits_from}
use Rattle.model.proofs.Tests.{by_cond}
use Rattle.grammar.specs.Digits.{digits_of, Few}
use Rattle.grammar.specs.Faults.{NoLimit}
use Rattle.grammar.proofs.Fields.{Took}
use Rattle.grammar.proofs.Lines.{took_both, took_then, numbers_long, few, numbers_was, numbers_fail, numbers_reads}

-- The line of process i

pub record LimitTook (s : List ℕ) (i : ℕ) (l : Parsed (List ℕ)) : Type 0 where
  pub took : Took s (numbers_text i (get_or l.value 1 0 ∷ [])) l.size
  pub digits : digits_of (get_or l.value 1 0) ≤ 8

-- what it tells of the text that it was read from: it was written so, or no such line was
abbrev pub LimitTells : List ℕ → ℕ → Result (Parsed (List ℕ)) Fault → Type 0
LimitTells s i (Ok l) = LimitTook s i l
LimitTells s i (Err f) = (f ≡ fault BadLine (i + 3)) × NoLimit i s

-- what is read where such a line is written
module _ (i x : ℕ) (s : List ℕ) (small : i < number_bound) (h : digits_of x ≤ 8) where
  line_reads : numbers_at (i + 3) 1 (numbers_text i (x ∷ []) ++ s) ≡ Ok (parsed (i ∷ x ∷ 0 ∷ 0 ∷ []) (length (numbers_text i (x ∷ []))))
  line_reads = numbers_reads (i + 3) i (x ∷ []) s ((few i).0 small, (h, tt))

  limit_reads : limit_line i (numbers_text i (x ∷ []) ++ s) ≡ Ok (parsed (i ∷ x ∷ 0 ∷ 0 ∷ []) (length (numbers_text i (x ∷ []))))
  limit_reads = rw (line_reads, eq-eqb i i refl)

pub limit_tells : (i : ℕ) (s : List ℕ) → i < number_bound → LimitTells s i (limit_line i s)
limit_tells i s small = go (numbers_at (i + 3) 1 s) refl
  where
    go : (r : Result (Parsed (List ℕ)) Fault) → numbers_at (i + 3) 1 s ≡ r → LimitTells s i (onward r (ordered i))
    go (Err f) e = (
      numbers_fail (i + 3) 1 s (omega arith) f e,
      λ x h more q. let z = sym e ∙ (ap (numbers_at (i + 3) 1) q ∙ line_reads i x more small h) in cc,
    )
    go (Ok l) e =
        by_cond (LimitTells s i) (eqb (get_or l.value 0 0) i)
        (λ t.
        let w = numbers_was (i + 3) 1 s (omega arith) l e in
        record { took = rw (eqb-true _ _ t) at w.took; digits = w.digits.1.0 })
        (λ t. (
          refl,
          λ x h more q.
              let z = sym e ∙ (ap (numbers_at (i + 3) 1) q ∙ line_reads i x more small h) in
              let same : l ≡ parsed (i ∷ x ∷ 0 ∷ 0 ∷ []) (length (numbers_text i (x ∷ []))) = cc in
              absurd (eqb-false _ _ t (ap (λ (m : Parsed (List ℕ)). get_or m.value 0 0) same)),
        ))

-- where no such line was written, it is refused
limit_none : (i : ℕ) (s : List ℕ) → i < number_bound → NoLimit i s → limit_line i s ≡ line_fails (i + 3)
limit_none i s small none = go (limit_line i s) (limit_tells i s small)
  where
    go : (r : Result (Parsed (List ℕ)) Fault) → LimitTells s i r → r ≡ line_fails (i + 3)
    go (Ok l) w = absurd (none _ w.digits _ w.took.split)
    go (Err f) w = ap Err w.0

-- The lines from that of process i on, whose value goes to place j

-- as many lines were read
pub record LimitsTook (s : List ℕ) (many i j at : ℕ) (got : List ℕ) (l : Parsed (List ℕ)) : Type 0 where
  pub values : List ℕ
  pub counted : length values ≡ many
  pub digits : Few values
  pub bytes : ℕ
  pub sized : l.size ≡ at + bytes
  pub took : Took s (limits_text i values) bytes
  pub is : l.value ≡ sets got j values

-- lines were read up to one that is none of these
pub record LimitsStop (s : List ℕ) (many i : ℕ) (f : Fault) : Type 0 where
  pub values : List ℕ
  pub fewer : length values < many
  pub digits : Few values
  pub rest : List ℕ
  pub split : s ≡ limits_text i values ++ rest
  pub none : NoLimit (i + length values) rest
  pub told : f ≡ fault BadLine (i + length values + 3)

-- what they tell of the text that they were read from
abbrev pub LimitsTell : List ℕ → ℕ → ℕ → ℕ → ℕ → List ℕ → Result (Parsed (List ℕ)) Fault → Type 0
LimitsTell s many i j at got (Ok l) = LimitsTook s many i j at got l
LimitsTell s many i j at got (Err f) = LimitsStop s many i f

-- one value more
placed : (got : List ℕ) (i j x : ℕ) (values : List ℕ) → i - 1 ≡ j → sets (set got (i - 1) x) (j + 1) values ≡ sets got j (x ∷ values)
placed got i j x values p = rw (p, add-one j)

-- with a line before them
line_before : (many i j at : ℕ) (got s : List ℕ) (l : Parsed (List ℕ)) → i - 1 ≡ j → LimitTook s i l → (r : Result (Parsed (List ℕ)) Fault)
    → LimitsTell (drop l.size s) many (i + 1) (j + 1) (at + l.size) (set got (i - 1) (get_or l.value 1 0)) r
    → LimitsTell s (suc many) i j at got r
unfolding limits_text
line_before many i j at got s l p w (Ok m) r = record {
  values = get_or l.value 1 0 ∷ r.values;
  counted = ap suc r.counted;
  digits = (w.digits, r.digits);
  bytes = l.size + r.bytes;
  sized = omega (arith, r.sized);
  took = took_both w.took r.took;
  is = r.is ∙ placed got i j (get_or l.value 1 0) r.values p;
}
line_before many i j at got s l p w (Err f) r =
    let more : i + 1 + length r.values ≡ i + suc (length r.values) = omega arith in
    record {
      values = get_or l.value 1 0 ∷ r.values;
      fewer = omega (arith, r.fewer);
      digits = (w.digits, r.digits);
      rest = r.rest;
      split = took_then w.took (limits_text (i + 1) r.values) r.rest r.split;
      none = rw more at r.none;
      told = rw more at r.told;
    }

pub limits_tell : (many i j at : ℕ) (got s : List ℕ) → j + 1 ≡ i → i + many ≤ number_bound
    → LimitsTell s many i j at got (limits_from many i at got s)
unfolding limits_from limits_text
limits_tell zero i j at got s p h = record {
  values = [];
  counted = refl;
  digits = tt;
  bytes = 0;
  sized = omega arith;
  took = record { split = refl; size = refl };
  is = refl;
}
limits_tell (suc many) i j at got s p h =
    go (limit_line i s) (limit_tells i s (omega arith)) (λ l.
    limits_tell many (i + 1) (j + 1) (at + l.size) (set got (i - 1) (get_or l.value 1 0)) (drop l.size s) (omega arith) (omega arith))
  where
    after : Parsed (List ℕ) → Result (Parsed (List ℕ)) Fault
    after l = limits_from many (i + 1) (at + l.size) (set got (i - 1) (get_or l.value 1 0)) (drop l.size s)

    go : (r : Result (Parsed (List ℕ)) Fault) → LimitTells s i r
        → ((l : Parsed (List ℕ))
        → LimitsTell (drop l.size s) many (i + 1) (j + 1) (at + l.size) (set got (i - 1) (get_or l.value 1 0)) (after l))
        → LimitsTell s (suc many) i j at got (onward r (λ numbers size. after (parsed numbers size)))
    go (Ok l) w later = line_before many i j at got s l (omega arith) w (after l) (later l)
    go (Err f) w later =
        let here : i + 0 ≡ i = omega arith in
        record { values = []; fewer = omega arith; digits = tt; rest = s; split = refl; none = rw here w.1; told = rw here w.0 }

-- a line is read, and then what follows is
limits_next : (many i at : ℕ) (got s : List ℕ) (l : Parsed (List ℕ)) → limit_line i s ≡ Ok l
    → limits_from (suc many) i at got s ≡ limits_from many (i + 1) (at + l.size) (set got (i - 1) (get_or l.value 1 0)) (drop l.size s)
unfolding limits_from
limits_next many i at got s l e = rw e

-- lines that are written are read, and then what follows is
limits_after : (values : List ℕ) (more i j at : ℕ) (got s : List ℕ) → j + 1 ≡ i → i + length values ≤ number_bound → Few values
    → limits_from (length values + more) i at got (limits_text i values ++ s)
    ≡ limits_from more (i + length values) (at + length (limits_text i values)) (sets got j values) s
unfolding limits_text limits_from
limits_after [] more i j at got s p h d = rw (zero-add more, add-zero i, add-zero at)
limits_after (x ∷ values) more i j at got s p h d =
    let line : List ℕ = numbers_text i (x ∷ []) in
    let later : i + 1 + length values ≡ i + suc (length values) = omega arith in
    let size : at + length line + length (limits_text (i + 1) values) ≡ at + length (line ++ limits_text (i + 1) values) =
    omega (arith, length-append line (limits_text (i + 1) values)) in
    let here : i - 1 ≡ j = omega arith in
    let read = limit_reads i x (limits_text (i + 1) values ++ s) (omega arith) d.0 in
    rw (suc-add (length values) more, append_assoc line (limits_text (i + 1) values) s)
    (limits_next (length values + more) i at got (line ++ (limits_text (i + 1) values ++ s)) _ read
    ∙ rw (drop-append_seam, here, ← later, ← size, ← add-one j)
    (limits_after values more (i + 1) (j + 1) (at + length line) (set got j x) s (omega arith) (omega arith) d.1))

-- a line that is none of these ends them
pub limits_stop : (values : List ℕ) (many i j at : ℕ) (got rest : List ℕ) → j + 1 ≡ i → i + many ≤ number_bound → Few values → length values < many
    → NoLimit (i + length values) rest → limits_from many i at got (limits_text i values ++ rest) ≡ line_fails (i + length values + 3)
unfolding limits_from
limits_stop values many i j at got rest p h d fewer none =
    let split : many ≡ length values + suc (many - length values - 1) = omega arith in
    rw (
      split,
      limits_after values (suc (many - length values - 1)) i j at got rest p (omega arith) d,
      limit_none (i + length values) rest (omega arith) none,
    )

-- How many bytes they take

pub limits_long : (i : ℕ) (values : List ℕ) → 4 * length values ≤ length (limits_text i values)
unfolding limits_text
limits_long i [] = omega arith
limits_long i (x ∷ values) =
    omega (
      arith,
      length-append (numbers_text i (x ∷ [])) (limits_text (i + 1) values),
      numbers_long i (x ∷ []),
      limits_long (i + 1) values,
    )

-- The 96 values

drop_replicate : (m n x : ℕ) → drop m (replicate n x) ≡ replicate (n - m) x
drop_replicate zero n x = rw (sub-zero n)
drop_replicate (suc m) zero x = rw (zero-sub (suc m))
drop_replicate (suc m) (suc n) x = rw (suc-sub-suc n m) (drop_replicate m n x)

module _ (values : List ℕ) (h : length values ≤ 96) where
  -- values that are stored in a list of zeros
  pub limits_filled : sets (replicate 96 0) 0 values ≡ limits_in values
  unfolding limits_in
  limits_filled =
      rw (take_all 96 values h) (sets-eq values (replicate 96 0) 0 (omega arith) ∙ rw (zero-add (length values), drop_replicate (length values) 96 0))

  pub limits_front : take (length values) (limits_in values) ≡ values
  unfolding limits_in
  limits_front = rw (take_all 96 values h) (take-append_seam values (replicate (96 - length values) 0))

  -- all the lines that are written are read, from that of process 1 on
  pub limits_read : (s : List ℕ) → Few values
      → limits_from (length values) 1 0 (replicate 96 0) (limits_text 1 values ++ s) ≡ Ok (parsed (limits_in values) (length (limits_text 1 values)))
  unfolding limits_from
  limits_read s d = rw (← limits_filled) (rw (add-zero, zero-add) at (limits_after values 0 1 0 0 (replicate 96 0) s refl (omega arith) d))

-- 96 values that are 0 from n on are those of their first n
pub limits_back : (n : ℕ) (a : List ℕ) → length a ≡ 96 → n ≤ 96 → ((j : ℕ) → n ≤ j → get_or a j 0 ≡ 0) → limits_in (take n a) ≡ a
unfolding limits_in
limits_back n a l h zeros =
    let m : length (take n a) ≡ n = length-take-le n a (omega arith) in
    let tail : drop n a ≡ replicate (96 - n) 0 =
    ext_get_or 0 (drop n a) (replicate (96 - n) 0) (omega (arith, length-drop n a, length-replicate {A = ℕ} (96 - n) 0))
    (λ i g. get_or-drop n a i 0 ∙ (zeros (n + i) (omega arith) ∙ sym (get_or-replicate (96 - n) i 0 0 (omega (arith, length-drop n a))))) in
    rw (take_all 96 (take n a) (omega arith), m, ← tail) (take-append-drop n a)
