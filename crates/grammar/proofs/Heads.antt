-- The first lines as they are read, in either shape, and what a text says by them and by its steps. Assumes nothing.
use Prim.Native.Nat.{ℕ, suc, ◌+◌, ◌≤◌, ◌<◌}
use mathlib.Core.Path.{◌≡◌, refl, sym, ap, ◌∙◌, subst}
use mathlib.Core.Logic.{◌≢◌}
use mathlib.Core.Bool.{true, false, not}
use mathlib.Core.List.{List, [], ◌∷◌, ◌++◌, append_assoc}
use native.Mathlib.Omega.{arith}
use lib.Dec.{ltb}
use lib.ListN.{length, get_or, drop, set, replicate, length-append}
use lib.Seq.{drop-append_seam, drop-drop, get_or-set_other, sets}
use borrow.Author.Tests.{ltb-true, ltb-false, lt-ltb, le-ltb, eq-eqb, ne_eqb, not-true, not-false}
use Rattle.std.specs.Prelude.{Result, Ok, Err}
use Rattle.model.specs.declared.Refusal.TheVariants.{BadCount, BadLimits, BadNames, BadLine, BadLength}
use Rattle.model.specs.declared.Parsed.{Parsed}
use Rattle.model.specs.declared.Fault.{Fault as Refused}
use Rattle.model.specs.declared.Head.{Head}
use Rattle.model.specs.declared.Parameters.{Parameters}
use Rattle.model.specs.States.{parameters_of, limits_in, count_stands, limits_stand, parameters_stand}
use Rattle.model.specs.Texts.{numbers_text, value_names, values_text, limit_names, limits_text, event_names, text_limit}
use Rattle.model.specs.Texts.{former_names, former_values_text}
use Rattle.model.specs.Readings.{parsed, fault, starts_with, line_fails, numbers_at, limits_from, head, head_of, body_of, refused, trace, trace_of}
use Rattle.model.specs.Readings.{onward, after_limits, judge_limits, after_values, of_values, after_former, of_former}
use Rattle.model.proofs.Tests.{by_cond, and_true_iff}
use Rattle.grammar.specs.Digits.{Few}
use Rattle.grammar.specs.Exact.{FirstLines}
use Rattle.grammar.specs.Faults.{Differs, NoValues, NoLimit, Shape, StartsWithValues, LimitLines}
use Rattle.grammar.specs.Faults.{Fault, long, names, values, count, limit-names, limit, limits, steps}
use Rattle.grammar.proofs.Fields.{Took, starts_took, starts_here}
use Rattle.grammar.proofs.Lines.{took_both, numbers_many, numbers_was, numbers_fail, numbers_reads}
use Rattle.grammar.proofs.LinesOfA.{LimitsTook, LimitsStop, LimitsTell, limits_tell, limits_stop, limits_filled, limits_read}
use Rattle.grammar.proofs.Shapes.{count_parts, first_lines, limited, first-line}
use Rattle.grammar.proofs.Faults.{differs, starts_not}

-- A head that is read was written, and any other has a fault

pub record HeadTook (text : List ℕ) (h : Head) : Type 0 where
  pub head : List ℕ
  pub shape : FirstLines h.parameters head h.line
  pub took : Took text head h.size
  pub short : length text ≤ text_limit
  pub stand : parameters_stand h.parameters ≡ true

-- so no number of a line is too large to count
pub head_line : {text : List ℕ} {h : Head} → HeadTook text h → (0 < h.line) × (h.line ≤ h.size)
head_line t = let f = first-line t.shape t.stand in (f.0, omega (arith, t.took.size))

-- what a head tells of its text: it was written so, or there is a fault
abbrev pub HeadTells : List ℕ → Result Head Refused → Type 0
HeadTells text (Ok h) = HeadTook text h
HeadTells text (Err f) = Fault text f.refusal f.line

-- a line 2 that is written is read
second_reads : (more n : ℕ) (others rest : List ℕ) → length others ≡ more → Few (n ∷ others)
    → numbers_at 2 more (numbers_text n others ++ rest) ≡ Ok (parsed (sets (replicate 4 0) 0 (n ∷ others)) (length (numbers_text n others)))
second_reads more n others rest q h = rw (← q) (numbers_reads 2 n others rest h)

-- what is stored after the first place leaves it
first_stays : (vs l : List ℕ) (i : ℕ) → get_or (sets l (suc i) vs) 0 0 ≡ get_or l 0 0
first_stays [] l i = refl
first_stays (v ∷ vs) l i = first_stays vs (set l (suc i) v) (suc i) ∙ get_or-set_other l (suc i) 0 v 0 (λ (q : 0 ≡ suc i). omega arith)

module _ (text : List ℕ) (short : length text ≤ text_limit) where
  -- the limits have been read: they are judged, and the names of the steps follow
  judge_tells : {k : Parameters} {first : List ℕ} {line at : ℕ} → LimitLines k first line → Took text first at → count_stands k.n ≡ true
      → HeadTells text (judge_limits text at line k)
  judge_tells {k} {first} {line} {at} lines t c =
      let rest = drop at text in
      by_cond (HeadTells text) (not (limits_stand k)) (λ u. limits k first rest line lines short t.split c (not-true _ u)) (λ u.
      let stand = (and_true_iff (count_stands k.n) (limits_stand k)).1 (c, not-false _ u) in
      by_cond (HeadTells text) (not (starts_with event_names rest))
      (λ v. steps k first rest line lines short t.split stand (differs event_names rest (not-true _ v)))
      (λ v. record {
        head = first ++ event_names;
        shape = first_lines lines stand;
        took = took_both t (starts_took event_names rest (not-false _ v));
        short = short;
        stand = stand;
      }))

  -- line 2, of either shape
  second_fails : {first : List ℕ} {more : ℕ} → Shape first more → more < 4 → starts_with first text ≡ true
      → (f : Refused) → numbers_at 2 more (drop (length first) text) ≡ Err f → Fault text f.refusal f.line
  second_fails {first} {more} shape few named f e =
      let s = drop (length first) text in
      rw (numbers_fail 2 more s few f e)
      (values first s more shape short (starts_took first text named).split (λ m others q h rest p.
      let z = sym e ∙ (ap (numbers_at 2 more) p ∙ second_reads more m others rest q h) in cc))

  starts : {first : List ℕ} {n : ℕ} {others : List ℕ} {at : ℕ} → Took text (first ++ numbers_text n others) at → Few (n ∷ others)
      → StartsWithValues text first n others (drop at text)
  starts {first} {n} {others} {at} t h = record { short = short; is = t.split ∙ append_assoc first (numbers_text n others) (drop at text); digits = h }

  -- the new shape, whose lines of a start after `at` bytes
  module _ (n b c at : ℕ) (digits : Few (n ∷ b ∷ c ∷ [])) (stands : count_stands n ≡ true)
      (t : Took text (value_names ++ numbers_text n (b ∷ c ∷ []) ++ limit_names) at) where
    abbrev second : List ℕ
    second = numbers_text n (b ∷ c ∷ [])

    line-fails : (f : Refused) → LimitsStop (drop at text) n 1 f → Fault text f.refusal f.line
    line-fails f r =
        let rest : List ℕ = limits_text 1 r.values ++ r.rest in
        let is : text ≡ value_names ++ (second ++ (limit_names ++ rest)) =
        t.split ∙ (ap (λ (m : List ℕ). value_names ++ second ++ limit_names ++ m) r.split ∙ append_assoc (value_names ++ second) limit_names rest) in
        let line : 1 + length r.values + 3 ≡ 4 + length r.values = omega arith in
        rw (r.told, line)
        (limit n b c r.values r.rest (record { short = short; is = is; digits = digits }) stands r.digits r.fewer r.none)

    lines_read : (l : Parsed (List ℕ)) → LimitsTook (drop at text) n 1 0 0 (replicate 96 0) l
        → HeadTells text (judge_limits text (at + l.size) (n + 3) (parameters_of n b c l.value))
    unfolding values_text
    lines_read l r =
        let v = r.values in
        let p = count_parts n stands in
        let many = r.counted in
        let filled : l.value ≡ limits_in v = r.is ∙ limits_filled v (omega arith) in
        let size : at + r.bytes ≡ at + l.size = omega (arith, r.sized) in
        let took : Took text (value_names ++ (second ++ (limit_names ++ limits_text 1 v))) (at + l.size) =
        rw (append_assoc second limit_names (limits_text 1 v), size) at (took_both t r.took) in
        subst (λ (a : List ℕ). HeadTells text (judge_limits text (at + l.size) (n + 3) (parameters_of n b c a))) (sym filled)
        (judge_tells (LimitLines.new n b c v many (digits.0, (digits.1.0, (digits.1.1.0, r.digits)))) took stands)

    lines_tell : (r : Result (Parsed (List ℕ)) Refused) → LimitsTell (drop at text) n 1 0 0 (replicate 96 0) r
        → HeadTells text (onward r (λ a size. judge_limits text (at + size) (n + 3) (parameters_of n b c a)))
    lines_tell (Ok l) tells = lines_read l tells
    lines_tell (Err f) tells = line-fails f tells

  values_tell : (at n b c : ℕ) → Took text (value_names ++ numbers_text n (b ∷ c ∷ [])) at → Few (n ∷ b ∷ c ∷ [])
      → HeadTells text (after_values text at n b c)
  values_tell at n b c t digits =
      let rest = drop at text in
      let s = starts {others = b ∷ c ∷ []} t digits in
      by_cond (HeadTells text) (not (count_stands n)) (λ u. count value_names n (b ∷ c ∷ []) rest Shape.new s (not-true _ u)) (λ u.
      by_cond (HeadTells text) (not (starts_with limit_names rest))
      (λ v. limit-names n b c rest s (not-false _ u) (differs limit_names rest (not-true _ v)))
      (λ v.
      let at' : ℕ = at + length limit_names in
      lines_tell n b c at' digits (not-false _ u) (took_both t (starts_took limit_names rest (not-false _ v))) _
      (limits_tell n 1 0 0 (replicate 96 0) (drop at' text) refl (omega (arith, count_parts n (not-false _ u))))))

  new_tells : starts_with value_names text ≡ true → (l : Result (Parsed (List ℕ)) Refused)
      → numbers_at 2 2 (drop (length value_names) text) ≡ l → HeadTells text (of_values text l)
  new_tells named (Err f) e = second_fails Shape.new (omega arith) named f e
  new_tells named (Ok l) e =
      let w = numbers_was 2 2 (drop (length value_names) text) (omega arith) l e in
      values_tell (length value_names + l.size) _ _ _ (took_both (starts_took value_names text named) w.took) w.digits

  -- the former shape
  former_values_tell : (at n a b c : ℕ) → Took text (former_names ++ numbers_text n (a ∷ b ∷ c ∷ [])) at → Few (n ∷ a ∷ b ∷ c ∷ [])
      → HeadTells text (after_former text at n a b c)
  unfolding former_values_text
  former_values_tell at n a b c t digits =
      by_cond (HeadTells text) (not (count_stands n))
      (λ u. count former_names n (a ∷ b ∷ c ∷ []) (drop at text) Shape.former (starts {others = a ∷ b ∷ c ∷ []} t digits) (not-true _ u))
      (λ u. judge_tells (LimitLines.former n a b c digits) t (not-false _ u))

  former_tells : starts_with former_names text ≡ true → (l : Result (Parsed (List ℕ)) Refused)
      → numbers_at 2 3 (drop (length former_names) text) ≡ l → HeadTells text (of_former text l)
  former_tells named (Err f) e = second_fails Shape.former (omega arith) named f e
  former_tells named (Ok l) e =
      let w = numbers_was 2 3 (drop (length former_names) text) (omega arith) l e in
      former_values_tell (length former_names + l.size) _ _ _ _ (took_both (starts_took former_names text named) w.took) w.digits

pub head_tells : (text : List ℕ) → HeadTells text (head_of text)
unfolding head_of
head_tells text =
    by_cond (HeadTells text) (ltb text_limit (length text)) (λ t. long (omega (arith, ltb-true text_limit (length text) t))) (λ t.
    let short = ltb-false text_limit (length text) t in
    by_cond (HeadTells text) (starts_with value_names text) (λ u. new_tells text short u _ refl) (λ u.
    by_cond (HeadTells text) (starts_with former_names text) (λ v. former_tells text short v _ refl) (λ v.
    names short (differs value_names text u) (differs former_names text v))))

-- A head that is written is read

-- line 1 tells the shape
module _ {text : List ℕ} (short : length text ≤ text_limit) (rest : List ℕ) where
  new_read : text ≡ value_names ++ rest → head_of text ≡ of_values text (numbers_at 2 2 rest)
  unfolding head_of starts_with
  new_read is = rw (le-ltb text_limit (length text) short, is)

  former_read : text ≡ former_names ++ rest → head_of text ≡ of_former text (numbers_at 2 3 rest)
  unfolding head_of starts_with
  former_read is = rw (le-ltb text_limit (length text) short, is)

-- the new shape, whose line 3 starts after `seconds` bytes
module _ {text : List ℕ} {n b c : ℕ} {rest : List ℕ} (s : StartsWithValues text value_names n (b ∷ c ∷ []) rest) where
  abbrev seconds : ℕ
  seconds = length value_names + length (numbers_text n (b ∷ c ∷ []))

  values_read : head_of text ≡ after_values text seconds n b c
  values_read =
      new_read s.short (numbers_text n (b ∷ c ∷ []) ++ rest) s.is ∙ ap (of_values text) (numbers_reads 2 n (b ∷ c ∷ []) rest s.digits)

  values_left : drop seconds text ≡ rest
  values_left = rw (← drop-drop (length (numbers_text n (b ∷ c ∷ []))) (length value_names) text, s.is, drop-append_seam)

  pub fails_limit_names : count_stands n ≡ true → Differs limit_names rest → head_of text ≡ Err (fault BadNames 3)
  fails_limit_names e d = values_read ∙ rw (e, values_left, starts_not limit_names rest d)

-- whose lines of a start after `thirds` bytes
module _ {text : List ℕ} {n b c : ℕ} {rest : List ℕ} (s : StartsWithValues text value_names n (b ∷ c ∷ []) (limit_names ++ rest))
    (e : count_stands n ≡ true) where
  abbrev thirds : ℕ
  thirds = seconds s + length limit_names

  names_read : head_of text
      ≡ onward (limits_from n 1 0 (replicate 96 0) rest) (λ a size. judge_limits text (thirds + size) (n + 3) (parameters_of n b c a))
  unfolding starts_with
  names_read =
      let left : drop thirds text ≡ rest = rw (← drop-drop (length limit_names) (seconds s) text, values_left s) in
      values_read s ∙ rw (e, left, values_left s)

pub fails_limit : {text : List ℕ} {n b c : ℕ} (a rest : List ℕ)
    → StartsWithValues text value_names n (b ∷ c ∷ []) (limit_names ++ (limits_text 1 a ++ rest))
    → count_stands n ≡ true → Few a → length a < n → NoLimit (1 + length a) rest → head_of text ≡ Err (fault BadLine (4 + length a))
fails_limit {n = n} a rest s e h fewer none =
    let line : 1 + length a + 3 ≡ 4 + length a = omega arith in
    names_read s e ∙ rw (limits_stop a n 1 0 0 (replicate 96 0) rest refl (omega (arith, count_parts n e)) h fewer none, line)

-- the limits have been read, in either shape: they are judged, and the names of the steps follow
module _ {text : List ℕ} (short : length text ≤ text_limit) where
  limits_judged : {k : Parameters} {first : List ℕ} {line : ℕ} → LimitLines k first line → (rest : List ℕ) → text ≡ first ++ rest
      → count_stands k.n ≡ true → head_of text ≡ judge_limits text (length first) line k
  unfolding values_text former_values_text
  limits_judged (LimitLines.new n b c a many digits) rest is e =
      let second : List ℕ = numbers_text n (b ∷ c ∷ []) in
      let s : StartsWithValues text value_names n (b ∷ c ∷ []) (limit_names ++ (limits_text 1 a ++ rest)) =
      record {
        short = short;
        is = is ∙ ap (λ (l : List ℕ). value_names ++ l) (append_assoc second (limit_names ++ limits_text 1 a) rest);
        digits = (digits.0, (digits.1.0, (digits.1.1.0, tt)));
      } in
      let p = count_parts n e in
      let read = rw many at (limits_read a (omega arith) rest digits.1.1.1) in
      let size : thirds s e + length (limits_text 1 a) ≡ length (value_names ++ (second ++ (limit_names ++ limits_text 1 a))) =
      omega (arith, length-append second (limit_names ++ limits_text 1 a)) in
      names_read s e ∙ rw (read, size)
  limits_judged (LimitLines.former n a b c digits) rest is e =
      let second : List ℕ = numbers_text n (a ∷ b ∷ c ∷ []) in
      let size : length former_names + length second ≡ length (former_names ++ second) = omega arith in
      former_read short (second ++ rest) is ∙ (ap (of_former text) (numbers_reads 2 n (a ∷ b ∷ c ∷ []) rest digits) ∙ rw (e, size))

  module _ {k : Parameters} {first : List ℕ} {line : ℕ} (lines : LimitLines k first line) (rest : List ℕ) (is : text ≡ first ++ rest) where
    pub fails_limits : count_stands k.n ≡ true → limits_stand k ≡ false → head_of text ≡ Err (fault BadLimits line)
    fails_limits c l = limits_judged lines rest is c ∙ rw l

    limits-stand : parameters_stand k ≡ true → head_of text ≡ after_limits text (length first) (line + 1) k
    limits-stand e = let f = (and_true_iff (count_stands k.n) (limits_stand k)).0 e in limits_judged lines rest is f.0 ∙ rw f.1

    limits_left : drop (length first) text ≡ rest
    limits_left = rw (is, drop-append_seam)

    pub fails_steps : parameters_stand k ≡ true → Differs event_names rest → head_of text ≡ Err (fault BadNames (line + 1))
    fails_steps e d = limits-stand e ∙ rw (limits_left, starts_not event_names rest d)

    steps_named : parameters_stand k ≡ true → starts_with event_names rest ≡ true
        → head_of text ≡ Ok (head (line + 1 + 1) k (length first + length event_names))
    steps_named e w = limits-stand e ∙ rw (limits_left, w)

pub head_reads : {k : Parameters} {first : List ℕ} {line : ℕ} → FirstLines k first line → (s : List ℕ) → parameters_stand k ≡ true
    → length (first ++ s) ≤ text_limit → head_of (first ++ s) ≡ Ok (head line k (length first))
head_reads {k} {first} {line} shape s e short =
    let r = limited shape e in
    let is : first ++ s ≡ r.first ++ (event_names ++ s) = ap (λ (l : List ℕ). l ++ s) r.head_is ∙ append_assoc r.first event_names s in
    let size : length r.first + length event_names ≡ length first = sym (ap length r.head_is ∙ length-append r.first event_names) in
    steps_named short r.lines (event_names ++ s) is e (starts_here event_names s) ∙ (λ i. Ok (head (sym r.line-is i) k (size i)))

-- A text that fails before its limits

pub fails_long : (text : List ℕ) → text_limit < length text → head_of text ≡ Err (fault BadLength 0)
unfolding head_of
fails_long text h = rw (lt-ltb text_limit (length text) h)

pub fails_names : (text : List ℕ) → length text ≤ text_limit → Differs value_names text → Differs former_names text → head_of text ≡ Err (fault BadNames 1)
unfolding head_of
fails_names text h d f = rw (le-ltb text_limit (length text) h, starts_not value_names text d, starts_not former_names text f)

-- no line 2 is written, and none is read
second_none : (more : ℕ) (rest : List ℕ) → more < 4 → NoValues more rest → numbers_at 2 more rest ≡ line_fails 2
second_none more rest h d = go (numbers_at 2 more rest) refl
  where
    go : (r : Result (Parsed (List ℕ)) Refused) → numbers_at 2 more rest ≡ r → r ≡ line_fails 2
    go (Err f) e = ap Err (numbers_fail 2 more rest h f e)
    go (Ok l) e = let w = numbers_was 2 more rest h l e in absurd (d _ _ (numbers_many more 1 _) w.digits _ w.took.split)

pub fails_values : {text first : List ℕ} {more : ℕ} → Shape first more → (rest : List ℕ) → length text ≤ text_limit → text ≡ first ++ rest
    → NoValues more rest → head_of text ≡ Err (fault BadLine 2)
fails_values {text} Shape.new rest h e d = new_read h rest e ∙ ap (of_values text) (second_none 2 rest (omega arith) d)
fails_values {text} Shape.former rest h e d = former_read h rest e ∙ ap (of_former text) (second_none 3 rest (omega arith) d)

pub fails_count : {text first : List ℕ} {more n : ℕ} {others rest : List ℕ} → Shape first more → length others ≡ more
    → StartsWithValues text first n others rest → count_stands n ≡ false → head_of text ≡ Err (fault BadCount 2)
fails_count {text} {n = n} {others} {rest} Shape.new q s c =
    new_read s.short (numbers_text n others ++ rest) s.is
    ∙ (ap (of_values text) (second_reads 2 n others rest q s.digits) ∙ rw (first_stays others (n ∷ 0 ∷ 0 ∷ 0 ∷ []) 0, c))
fails_count {text} {n = n} {others} {rest} Shape.former q s c =
    former_read s.short (numbers_text n others ++ rest) s.is
    ∙ (ap (of_former text) (second_reads 3 n others rest q s.digits) ∙ rw (first_stays others (n ∷ 0 ∷ 0 ∷ 0 ∷ []) 0, c))

-- What a text says, by its head and its body

pub trace_refused : (text : List ℕ) (f : Refused) → head_of text ≡ Err f → trace_of text ≡ refused f.refusal f.line
unfolding trace_of
trace_refused text f e = rw e

module _ (text : List ℕ) (h : Head) (e : head_of text ≡ Ok h) where
  pub head_was : HeadTook text h
  head_was = rw e at (head_tells text)

  pub trace_events : (body_of h.line (drop h.size text)).fault ≡ 0
      → trace_of text ≡ trace h.line h.parameters (body_of h.line (drop h.size text)).events
  unfolding trace_of
  trace_events f = rw e (simp (eq-eqb _ _ f))

  pub trace_fault : (body_of h.line (drop h.size text)).fault ≢ 0
      → trace_of text ≡ refused BadLine (body_of h.line (drop h.size text)).fault
  unfolding trace_of
  trace_fault f = rw e (simp (ne_eqb _ _ f))
