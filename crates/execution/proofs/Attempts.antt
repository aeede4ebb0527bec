-- What was attempted by the steps of a trace: of steps one after the other, of one more answer, and of steps that are taken block by block.
-- Assumes nothing.
use Prim.Native.Nat.{ℕ, ◌+◌, ◌-◌, ◌<◌}
use mathlib.Core.Path.{◌≡◌, refl, sym, ap, ◌∙◌}
use mathlib.Core.List.{List, [], ◌∷◌, ◌++◌, map, map-append, map-map}
use native.Mathlib.Omega.{arith}
use lib.ListN.{length, get_or, take, drop, length-map, take-append-drop}
use lib.Seq.{take-nil, drop-drop}
use Rattle.model.specs.Types.{State}
use Rattle.model.specs.declared.Answer.{Answer}
use Rattle.model.specs.Answers.{answer_numbers}
use Rattle.model.specs.Tallies.{Attempt, attempted}
use Rattle.model.specs.Texts.{Event}
use Rattle.model.specs.Readings.{Lists, room}
use Rattle.model.specs.Writings.{events_of, event_in}
use Rattle.model.specs.Executions.{state_from, answers_from, codes_from, attempts_of, attempts_from}
use Rattle.model.proofs.Lists.{drop_at}
use Rattle.model.proofs.Folds.{results_append, length_results}
use Rattle.model.proofs.Steps.{from, steps_from, steps_next}
use Rattle.execution.specs.declared.running.Run.{Run}
use Rattle.execution.specs.Blocks.{attempts_by, Taken, Took}

-- Steps with codes

pub no_codes : (es : List Event) → attempts_of es [] ≡ []
unfolding attempts_of
no_codes [] = refl
no_codes (e ∷ es) = refl

-- steps past the codes are of no account
pub codes_front : (es : List Event) (codes : List ℕ) → attempts_of es codes ≡ attempts_of (take (length codes) es) codes
unfolding attempts_of
codes_front [] codes = rw take-nil
codes_front (e ∷ es) [] = refl
codes_front (e ∷ es) (code ∷ codes) = ap (λ (rest : List Attempt). attempted e code ∷ rest) (codes_front es codes)

codes_append : (xs ys : List Event) (cs ds : List ℕ) → length cs ≡ length xs
    → attempts_of (xs ++ ys) (cs ++ ds) ≡ attempts_of xs cs ++ attempts_of ys ds
unfolding attempts_of
codes_append [] ys [] ds h = refl
codes_append [] ys (c ∷ cs) ds h = absurd (omega arith)
codes_append (x ∷ xs) ys [] ds h = absurd (omega arith)
codes_append (x ∷ xs) ys (c ∷ cs) ds h = ap (λ (rest : List Attempt). attempted x c ∷ rest) (codes_append xs ys cs ds (omega arith))

length_codes : (s : State) (events : List Event) → length (codes_from s events) ≡ length events
length_codes s events = simp (length-map, length_results)

attempts_append : (s : State) (xs ys : List Event) → attempts_from s (xs ++ ys) ≡ attempts_from s xs ++ attempts_from (state_from s xs) ys
attempts_append s xs ys =
    simp (results_append, map-append) (codes_append xs ys (codes_from s xs) (codes_from (state_from s xs) ys) (length_codes s xs))

-- Steps with the answers to them

-- the attempt of answer i, and those after it
pub attempts_next : (l : Lists) (answers : List Answer) (i : ℕ) (d : Answer) → i < room l → i < length answers
    → attempts_by (from i l) (drop i answers) ≡ attempted (event_in l i) (get_or answers i d).code ∷ attempts_by (from (i + 1) l) (drop (i + 1) answers)
unfolding attempts_of
attempts_next l answers i d h g = rw (steps_next l i h, drop_at answers i d g)

-- the codes stand first in the rows
codes_in : (answers : List Answer) → map (λ (row : List ℕ). get_or row 0 0) (map answer_numbers answers) ≡ map (λ (a : Answer). a.code) answers
codes_in answers = map-map (λ (row : List ℕ). get_or row 0 0) answer_numbers answers

-- One block

-- of the steps in the lists i have been taken, which led to s; the block is the next k, which led to t and left the answers m
module _ (s : State) (l : Lists) (i k : ℕ) where
  abbrev rest : List Event
  rest = drop i (events_of l)

  module _ {t : State} {m : List Answer} (h : Taken s (take k rest) k t m) where
    block_codes : map (λ (a : Answer). a.code) (take k m) ≡ codes_from s (take k rest)
    block_codes =
        sym (codes_in (take k m))
        ∙ ap (map (λ (row : List ℕ). get_or row 0 0)) h.rows
        ∙ codes_in (answers_from s (take k rest))

    -- its answers tell its attempts
    block_is : attempts_by (from i l) (take k m) ≡ attempts_from s (take k rest)
    block_is =
        let size = length_codes s (take k rest) ∙ h.size in
        rw (block_codes, steps_from l i)
        (codes_front rest (codes_from s (take k rest)) ∙ ap (λ (n : ℕ). attempts_of (take n rest) (codes_from s (take k rest))) size)

    -- its attempts, and then those of the steps that are left
    pub block_next : attempts_from s rest ≡ attempts_by (from i l) (take k m) ++ attempts_from t (drop (i + k) (events_of l))
    block_next =
        ap (attempts_from s) (sym (take-append-drop k rest))
        ∙ rw (block_is, h.led, ← drop-drop k i (events_of l)) (attempts_append s (take k rest) (drop k rest))

-- the attempts of a block that was taken, and then those of the steps that are left
pub took_next : {r t : Run} {l : Lists} {k : ℕ} → Took r l k t
    → attempts_from r.state (drop r.taken (events_of l))
    ≡ attempts_by (from (t.taken - k) l) (take k t.answers) ++ attempts_from t.state (drop t.taken (events_of l))
took_next {r} {t} {l} {k} h =
    let at : t.taken - k ≡ r.taken = omega (arith, h.counted) in
    rw (at, h.counted) (block_next r.state l r.taken k h.block)
