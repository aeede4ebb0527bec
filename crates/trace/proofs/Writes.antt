-- The answers to a writing: one law for each row of `write_of`, in the order of its tests. Assumes nothing.
use Prim.Native.Nat.{ℕ, ◌≤◌, ◌<◌}
use mathlib.Core.Path.{◌≡◌, ◌∙◌}
use mathlib.Core.Bool.{true, false}
use mathlib.Core.List.{List}
use lib.ListN.{length}
use lib.Seq.{sets}
use Rattle.std.specs.Prelude.{Option, Some, None}
use Rattle.model.specs.declared.Parameters.{Parameters}
use Rattle.model.specs.States.{count_stands, limits_stand, parameters_stand}
use Rattle.model.specs.Answers.{answer_of}
use Rattle.model.specs.Texts.{Event, first_line, trace_text, text_limit}
use Rattle.model.specs.Writings.{formless_from, Written, unwritten, write_of}
use Rattle.model.proofs.Tests.{and_true_iff}
use Rattle.grammar.proofs.Answers.{fitted_short, write_long, write_fitted, write_is}
use Rattle.text.proofs.Putting.{sets_over}

-- what is to be written, and the lent bytes
pub record Task : Type 0 where
  pub parameters : Parameters
  pub events : List Event
  pub out : List ℕ

abbrev pub text_of : Task → List ℕ
text_of t = trace_text t.parameters t.events

-- the line of its first step without a form, if there is one
abbrev pub formless : Task → Option ℕ
formless t = formless_from (first_line t.parameters) t.events

abbrev pub done : Task → Written
done t = write_of t.parameters t.events t.out

module _ (t : Task) where
  pub write_uncounted : count_stands t.parameters.n ≡ false → done t ≡ unwritten 11 0 t.out
  unfolding write_of
  write_uncounted e = rw e

  pub write_unlimited : count_stands t.parameters.n ≡ true → parameters_stand t.parameters ≡ false → done t ≡ unwritten 12 0 t.out
  unfolding write_of
  write_unlimited e f = let g : limits_stand t.parameters ≡ false = rw e at f in rw (e, g)

  pub write_formless : parameters_stand t.parameters ≡ true → (line : ℕ) → formless t ≡ Some line → done t ≡ unwritten 14 line t.out
  unfolding write_of
  write_formless e line g =
      let f = (and_true_iff (count_stands t.parameters.n) (limits_stand t.parameters)).0 e in
      rw (f.0, f.1, g)

-- parameters and forms are as they should be
pub record Sound (t : Task) : Type 0 where
  pub stand : parameters_stand t.parameters ≡ true
  pub formed : formless t ≡ None

module _ {t : Task} (s : Sound t) where
  pub write_too_long : text_limit < length (text_of t) → done t ≡ unwritten 15 0 t.out
  write_too_long h = write_long t.parameters t.events t.out s.stand s.formed h

  module _ (short : length (text_of t) ≤ text_limit) where
    pub write_roomless : length t.out < length (text_of t) → done t ≡ unwritten 16 0 t.out
    write_roomless h = write_fitted t.parameters t.events t.out s.stand s.formed short ∙ fitted_short (text_of t) t.out h

    pub write_done : length (text_of t) ≤ length t.out
        → done t ≡ record { answer = answer_of 0 0 (length (text_of t)); out = sets t.out 0 (text_of t) }
    write_done h =
        rw (sets_over (text_of t) t.out h)
        (write_is t.parameters t.events t.out (record { stand = s.stand; forms = s.formed; short = short }) h)
