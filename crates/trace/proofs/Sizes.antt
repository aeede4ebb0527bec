-- Putting a text that may be too long, part by part, with its size. Assumes nothing.
use Prim.Native.Nat.{ℕ, ◌+◌, ◌≤◌, ◌<◌}
use mathlib.Core.Path.{◌≡◌, refl, ◌∙◌}
use mathlib.Core.List.{List, [], ◌∷◌, ◌++◌}
use native.Mathlib.Omega.{arith}
use native.Mathlib.Nat.{zero-add}
use lib.ListN.{length}
use borrow.Author.Tests.{lt-ltb, le-ltb}
use Rattle.model.specs.Texts.{text_limit}
use Rattle.model.proofs.Tests.{if_lt}
use Rattle.std.specs.Prelude.{Option, Some, None}
use Rattle.text.specs.Puts.{Put}
use Rattle.trace.specs.Passes.{PutSized}
use Rattle.text.proofs.Putting.{Left, left_all, left_next}

pub left_nothing : {old whole new : List ℕ} {start at : ℕ}
    → Left old start whole new at [] → at ≤ text_limit → PutSized old new start whole (Some at)
left_nothing {whole = whole} {start = start} {at = at} f h =
    let e : start + length whole ≡ at = omega (arith, f.ends) in
    record { sized = rw e (rw (le-ltb text_limit at h)); same = f.same; put = λ _. f.put }

pub left_long : {old whole new rest : List ℕ} {start at : ℕ}
    → Left old start whole new at rest → text_limit < at → PutSized old new start whole None
left_long {whole = whole} {start = start} f h =
    record {
      sized = rw (lt-ltb text_limit (start + length whole) (omega (arith, f.ends)));
      same = f.same;
      put = λ (s : start + length whole ≤ text_limit). absurd (omega (arith, f.ends));
    }

-- the rest is put
pub left_rest : {old whole mid new rest : List ℕ} {start at : ℕ} {size : Option ℕ}
    → Left old start whole mid at rest → PutSized mid new at rest size → PutSized old new start whole size
left_rest {whole = whole} {start = start} f p =
    record {
      sized = rw f.ends at p.sized;
      same = p.same ∙ f.same;
      put = λ (h : start + length whole ≤ text_limit). p.put (omega (arith, f.ends)) ∙ f.put;
    }

-- a text at the start, and one after it
pub put_sized : {old mid new x y : List ℕ} {k : ℕ} {size : Option ℕ}
    → Put old mid 0 x k → PutSized mid new k y size → PutSized old new 0 (x ++ y) size
put_sized {y = y} p q = left_rest (rw zero-add at (left_next {y = y} left_all p)) q

-- What a size says

pub size_bytes : {old new text : List ℕ} {k : ℕ} → PutSized old new 0 text (Some k) → (k ≡ length text) × (length text ≤ text_limit)
size_bytes {text = text} {k = k} p =
    if_lt text_limit (0 + length text)
    (λ h. let e : Some k ≡ None = rw (lt-ltb text_limit (0 + length text) h) at p.sized in cc)
    (λ h. let e : Some k ≡ Some (0 + length text) = rw (le-ltb text_limit (0 + length text) h) at p.sized in
    let q : k ≡ 0 + length text = cc in
    (omega arith, omega arith))

pub size_long : {old new text : List ℕ} → PutSized old new 0 text None → text_limit < length text
size_long {text = text} p =
    if_lt text_limit (0 + length text)
    (λ h. omega arith)
    (λ h. let e : None ≡ Some (0 + length text) = rw (le-ltb text_limit (0 + length text) h) at p.sized in cc)

-- nothing is put where there is no room
pub nothing_put : {new text : List ℕ} {at : ℕ} {size : Option ℕ} (l : List ℕ) → PutSized [] new at text size → new ++ l ≡ l
nothing_put {new = []} l p = refl
nothing_put {new = x ∷ new} l p = absurd (omega (arith, p.same))
