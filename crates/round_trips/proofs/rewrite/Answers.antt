-- `round_trips::rewrite` meets its contract: what `read` gave is `read_of`, and `ReadThenWrite` is the round trip. Assumes nothing.
use Rattle.std.proofs.Common.{ℕ, ◌≡◌, List, sym, ap, ◌∙◌}
use mathlib.Core.Path.{subst}
use lib.Seq.{length-take-le}
use Rattle.model.specs.Readings.{Lists, lists, Read, read_of}
use Rattle.model.specs.Writings.{Written}
use Rattle.model.proofs.Given.{gave_out}
use Rattle.round_trips.specs.Trips.{rewrite_of, ReadsAlike}
use Rattle.round_trips.proofs.Trips.{held, rewrite_refused, rewrite_done, rewrite_same, rewrite_alike}
use Rattle.round_trips.proofs.rewrite.Goals as goal

-- what is due of what is given
given-alike : (text : List ℕ) (to : Lists) (out : List ℕ) {w : Written} → w ≡ rewrite_of (read_of text to) out → ReadsAlike text to w
given-alike text to out e = subst (ReadsAlike text to) (sym e) (rewrite_alike text to out)

pub returns-in-Err : goal.returns-in-Err
returns-in-Err c =
    let a = c.args in
    let to = lists a.times.now a.processes.now a.actions.now in
    let e = c.read.ensures in
    let new = lists c.read.new.times c.read.new.processes c.read.new.actions in
    let w = sym (rewrite_refused new a.out.now c.in-Err.answer c.in-Err.is) ∙ ap (λ (x : Read). rewrite_of x a.out.now) e in
    record {
      kept = ap (λ (x : Read). x.kept) e;
      written = w;
      trip = λ q s z h. gave_out w ∙ rewrite_same a.text.now to a.out.now q s z h;
      alike = given-alike a.text.now to a.out.now w;
    }

-- as many steps as were answered stand in the lists
pub slice_bounds-write-end : goal.slice_bounds-write-end
slice_bounds-write-end c =
    let a = c.args in
    let h = held a.text.now (lists a.times.now a.processes.now a.actions.now) c.read.ensures c.in-Ok.is in
    h.times

pub slice_bounds-write-end-2 : goal.slice_bounds-write-end-2
slice_bounds-write-end-2 c =
    let a = c.args in
    let h = held a.text.now (lists a.times.now a.processes.now a.actions.now) c.read.ensures c.in-Ok.is in
    sym (length-take-le _ _ h.times)

pub slice_bounds-write-end-3 : goal.slice_bounds-write-end-3
slice_bounds-write-end-3 c =
    let a = c.args in
    let h = held a.text.now (lists a.times.now a.processes.now a.actions.now) c.read.ensures c.in-Ok.is in
    h.processes

pub slice_bounds-write-end-4 : goal.slice_bounds-write-end-4
slice_bounds-write-end-4 c =
    let a = c.args in
    let h = held a.text.now (lists a.times.now a.processes.now a.actions.now) c.read.ensures c.in-Ok.is in
    sym (length-take-le _ _ h.processes)

pub slice_bounds-write-end-5 : goal.slice_bounds-write-end-5
slice_bounds-write-end-5 c =
    let a = c.args in
    let h = held a.text.now (lists a.times.now a.processes.now a.actions.now) c.read.ensures c.in-Ok.is in
    h.actions

pub slice_bounds-write-end-6 : goal.slice_bounds-write-end-6
slice_bounds-write-end-6 c =
    let a = c.args in
    let h = held a.text.now (lists a.times.now a.processes.now a.actions.now) c.read.ensures c.in-Ok.is in
    sym (length-take-le _ _ h.actions)

pub returns : goal.returns
returns c =
    let a = c.args in
    let to = lists a.times.now a.processes.now a.actions.now in
    let e = c.read.ensures in
    let new = lists c.read.new.times c.read.new.processes c.read.new.actions in
    let done = sym (rewrite_done new a.out.now c.in-Ok.reading c.in-Ok.is) in
    let w = c.write.ensures ∙ (done ∙ ap (λ (x : Read). rewrite_of x a.out.now) e) in
    record {
      kept = ap (λ (x : Read). x.kept) e;
      written = w;
      trip = λ q s z h. gave_out w ∙ rewrite_same a.text.now to a.out.now q s z h;
      alike = given-alike a.text.now to a.out.now w;
    }
