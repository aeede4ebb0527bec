-- What comes of a call on a board: a refusal, which leaves it, or what is accepted, and why. Assumes nothing.
use Prim.Native.Nat.{ℕ}
use mathlib.Core.Path.{◌≡◌, refl}
use mathlib.Core.Logic.{◌≢◌, ◌↔◌}
use mathlib.Core.Bool.{true, not}
use mathlib.Core.List.{[], ◌∷◌}
use native.Mathlib.Omega.{arith}
use lib.Dec.{leb, ltb, eqb}
use borrow.Author.Tests.{ltb-true, ltb-false, eqb-true, eqb-false, leb-true, le-leb, not-true, not-false}
use Rattle.model.specs.declared.Answer.{Answer}
use Rattle.model.specs.Answers.{beyond}
use Rattle.model.proofs.Tests.{by_test, by_cond, clash, and_true_iff}
use Rattle.recent.specs.Boards.{entry_with, Board, most_kept, board_sound, how_many}
use Rattle.recent.specs.Boards.{BoardOutcome, outcome_with, keeps, unless_barred, is_process, width_stands, set_up_of, add_of, show_of}
use Rattle.recent.specs.Facts.{InTime, IsProcess, Barred, Adds, Shows, WidthStands, EverySetUp}
use Rattle.recent.proofs.Expiry.{left-of}
use Rattle.recent.proofs.Soundness.{board_sound_iff_plain}

-- a refusal leaves the board, and `good` comes of what is accepted, for which `Good` holds
pub data Came (b : Board) (Good : Type 0) (good : BoardOutcome) : BoardOutcome → Type 0 where
  refused : {r : Answer} → r.code ≢ 0 → Came b Good good (outcome_with r b)
  accepted : Good → Came b Good good good

-- what holds of each refusal of a time, and of what comes of a call in time, holds of a call
in-time : (b : Board) (t : ℕ) (P : BoardOutcome → Type 0) {after : BoardOutcome}
    → ((r : Answer) → r.code ≢ 0 → Barred b t r.code r.process r.time → P (outcome_with r b)) → (InTime b t → P after)
    → P (unless_barred b t after)
in-time b t P untimely timely =
    by_cond P (not (board_sound b))
    (λ e. untimely _ (λ z. omega arith) (Barred.unsound (λ s. clash ((board_sound_iff_plain b).1 s) (not-true _ e))))
    (λ e. let sound = (board_sound_iff_plain b).0 (not-false _ e) in
    by_cond P (ltb t b.last)
    (λ f. untimely _ (λ z. omega arith) (Barred.backward sound (ltb-true _ _ f)))
    (λ f. let forward = ltb-false _ _ f in
    by_cond P (beyond t)
    (λ g. untimely _ (λ z. omega arith) (Barred.beyond sound forward (ltb-true _ _ g)))
    (λ g. timely (record { sound = sound; forward = forward; within = ltb-false _ _ g }))))

module _ (b : Board) (t : ℕ) where
  -- what holds of each refusal, and of what is accepted, holds of a showing
  pub show_cases : (P : BoardOutcome → Type 0) → ((r : Answer) → r.code ≢ 0 → Shows b t r.code r.process r.time b → P (outcome_with r b))
      → (InTime b t → P (keeps b t [])) → P (show_of b t)
  unfolding show_of
  show_cases P refusal success = in-time b t P (λ r n u. refusal r n (Shows.barred u)) success

  pub show_came : Came b ((board_sound b ≡ true) × InTime b t) (keeps b t []) (show_of b t)
  show_came =
      show_cases (Came b ((board_sound b ≡ true) × InTime b t) (keeps b t [])) (λ r n _. Came.refused n)
      (λ h. Came.accepted ((board_sound_iff_plain b).1 h.sound, h))

pub is_process_iff : (p : ℕ) → (is_process p ≡ true) ↔ IsProcess p
is_process_iff p = (
  λ e. let h = (and_true_iff (leb 1 p) _).0 e in record { some = leb-true _ _ h.0; most = leb-true _ _ h.1 },
  λ h. (and_true_iff _ _).1 (le-leb _ _ h.some, le-leb _ _ h.most),
)

-- an adding is accepted
pub record Addable (b : Board) (t p : ℕ) : Type 0 where
  pub timely : InTime b t
  pub process : IsProcess p
  pub room : how_many b.width t b.kept ≢ most_kept

module _ (b : Board) (t p wait : ℕ) where
  abbrev many : ℕ
  many = how_many b.width t b.kept

  -- what holds of each refusal, and of what is accepted, holds of an adding
  pub add_cases : (P : BoardOutcome → Type 0) → ((r : Answer) → r.code ≢ 0 → Adds b t p wait r.code r.process r.time b → P (outcome_with r b))
      → (Addable b t p → P (keeps b t (entry_with t p wait ∷ []))) → P (add_of b t p wait)
  unfolding add_of
  add_cases P refusal success =
      in-time b t P (λ r n u. refusal r n (Adds.barred u))
      (λ timely. by_cond P (not (is_process p))
      (λ e. refusal _ (λ z. omega arith) (Adds.misnamed timely (λ h. clash ((is_process_iff p).1 h) (not-true _ e))))
      (λ e. let process = (is_process_iff p).0 (not-false _ e) in
      by_cond P (eqb many most_kept)
      (λ f. let all : many ≡ most_kept = eqb-true _ _ f in
      let left = rw all at (left-of b.width t b.kept) in
      refusal _ (λ z. omega arith) (Adds.full _ _ timely process left))
      (λ f. success (record { timely = timely; process = process; room = eqb-false _ _ f }))))

  pub add_came : Came b ((board_sound b ≡ true) × Addable b t p) (keeps b t (entry_with t p wait ∷ [])) (add_of b t p wait)
  add_came =
      add_cases (Came b ((board_sound b ≡ true) × Addable b t p) (keeps b t (entry_with t p wait ∷ []))) (λ r n _. Came.refused n)
      (λ h. Came.accepted ((board_sound_iff_plain b).1 h.timely.sound, h))

-- Setting up

pub width_stands_iff : (w : ℕ) → (width_stands w ≡ true) ↔ WidthStands w
width_stands_iff w = (
  λ e. let h = (and_true_iff (leb 1 w) _).0 e in record { least = leb-true _ _ h.0; most = leb-true _ _ h.1 },
  λ h. (and_true_iff _ _).1 (le-leb _ _ h.least, le-leb _ _ h.most),
)

pub every_set_up : EverySetUp
unfolding set_up_of
every_set_up w =
    by_test (width_stands w)
    (λ e. record {
      accepted = simp e (λ _. (width_stands_iff w).0 e, λ _. refl);
      answer = simp e (λ _. refl);
      board = simp e (λ _. refl);
      refused = simp e (λ n. absurd (n refl));
      no-board = simp e (λ n. absurd (n refl));
      unsound = simp e (λ n. absurd (n refl));
    })
    (λ e. record {
      accepted = simp e (λ z. absurd (omega arith), λ h. clash ((width_stands_iff w).1 h) e);
      answer = simp e (λ z. absurd (omega arith));
      board = simp e (λ z. absurd (omega arith));
      refused = simp e (λ _. refl);
      no-board = simp e (λ _. refl);
      unsound = simp e (λ _ s. omega (arith, s.width.least));
    })
