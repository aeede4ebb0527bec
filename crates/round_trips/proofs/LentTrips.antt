-- What `read_to` gave back tells what a reading by value gives back, and so a text of the shape that is written comes back. Assumes nothing.
use Prim.Native.Nat.{ℕ}
use mathlib.Core.Path.{◌≡◌, refl, ap, ◌∙◌}
use mathlib.Core.List.{List}
use native.Mathlib.Omega.{arith}
use lib.Dec.{ltb}
use lib.ListN.{length, drop}
use borrow.Author.Tests.{le-ltb}
use Rattle.model.specs.declared.Parameters.{Parameters}
use Rattle.std.specs.Prelude.{Result, Ok, Err}
use Rattle.model.specs.declared.Answer.{Answer}
use Rattle.model.specs.declared.Reading.{Reading}
use Rattle.model.specs.States.{parameters_of, limits_in, count_stands, limits_stand}
use Rattle.model.specs.Readings.{Lists, room, over, found, scanned_of, read_of}
use Rattle.model.specs.Answers.{fresh_of}
use Rattle.model.specs.Executions.{started_of}
use Rattle.model.specs.Writings.{events_of, write_of}
use Rattle.grammar.specs.RoundTrips.{first_of, rewritten}
use Rattle.trace.specs.ReadingTo.{ReadTo, read_to_from, read_to_of}
use Rattle.round_trips.specs.LentTrips.{parameters_told, events_told, TellsRead, ReadToTells, ReadToThenWrite, ReadToThenFresh}
use Rattle.model.proofs.Tests.{by_cond, and_true_iff}
use Rattle.model.proofs.OwnLimits.{limits_parts, limits_whole}
use Rattle.grammar.proofs.Exact.{read_exactly}
use Rattle.grammar.proofs.Answers.{read_as, refused_some}
use Rattle.grammar.proofs.RoundTrips.{read_then_write}

module _ (text a : List ℕ) (l : Lists) (q : Reading) (e : (read_of text l).reading ≡ Ok q) where
  -- what is read has 96 values of a
  size : length q.parameters.a ≡ 96
  size =
      let r = read_as text l q e in
      let k = r.k in
      ap (λ (p : Reading). length p.parameters.a) r.is
      ∙ (limits_parts k ((and_true_iff (count_stands k.n) (limits_stand k)).0 r.readable.says.stand).1).size

  told : parameters_of q.parameters.n q.parameters.b q.parameters.c (limits_in (over q.parameters.a a)) ≡ q.parameters
  told =
      let k = q.parameters in
      ap (λ (v : List ℕ). parameters_of k.n k.b k.c v) (limits_whole k.a (drop (length k.a) a) size)

pub read_to_tells : ReadToTells
unfolding read_to_of
read_to_tells text a l = go (read_of text l).reading refl
  where
    Tells : ReadTo → Type 0
    Tells x = x.reading.answer.code ≡ 0
        → (q : Reading) × ((read_of text l).reading ≡ Ok q) × TellsRead x q (read_of text l).kept

    go : (r : Result Reading Answer) → (read_of text l).reading ≡ r → Tells (read_to_from a l r (read_of text l).kept)
    go (Err answer) e = λ z. absurd (refused_some text l answer e z)
    go (Ok q) e =
        by_cond Tells (ltb (length a) 96)
        (λ _ z. absurd (omega arith))
        (λ _ z. (q, e, record { answer = refl; parameters = told text a l q e; kept_is = refl }))

-- what is written goes by these three alone
same_written : {r : ReadTo} {q : Reading} {kept : Lists} (out : List ℕ) → TellsRead r q kept
    → write_of (parameters_told r) (events_told r) out ≡ rewritten q kept out
same_written out t = λ i. write_of (t.parameters i) (events_of (first_of (t.answer i).time (t.kept_is i))) out

pub read_to_then_write : ReadToThenWrite
read_to_then_write text a l out s z h =
    let t = read_to_tells text a l z in
    same_written out t.2 ∙ read_then_write text l out t.0 s t.1 h

pub read_to_then_fresh : ReadToThenFresh
unfolding started_of scanned_of
read_to_then_fresh text a l z =
    let t = read_to_tells text a l z in
    let f = read_as text l t.0 t.1 in
    let says = f.readable.says in (
      record { found = found f.line f.k (length f.events); state = (fresh_of f.k).state },
      rw ((read_exactly text f.line f.k f.events).1 says, le-ltb (room l) (length f.events) f.readable.fits),
      ap (λ (p : Parameters). (fresh_of p).state) (t.2.parameters ∙ ap (λ (p : Reading). p.parameters) f.is),
    )
