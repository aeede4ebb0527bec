-- Storing the steps of a text, one after the other, in the lent lists. Assumes nothing.
use Prim.Native.Nat.{ℕ, ◌+◌, ◌≤◌, ◌<◌}
use mathlib.Core.Path.{◌≡◌, refl, ap, ◌∙◌}
use mathlib.Core.List.{List, [], map}
use native.Mathlib.Omega.{arith}
use native.Mathlib.Nat.{add-zero}
use native.Mathlib.Numerals.{add-one}
use lib.ListN.{length, drop, set, length-set, length-map}
use lib.Seq.{sets}
use Rattle.std.specs.Prelude.{Ok, Err}
use Rattle.model.specs.declared.Parsed.{Parsed}
use Rattle.model.specs.declared.Fault.{Fault}
use Rattle.model.specs.Texts.{Event}
use Rattle.model.specs.Readings.{event_at, Body, body_of, Lists, lists, room, over, stored}
use Rattle.model.proofs.Lists.{drop_end}
use Rattle.text.proofs.Putting.{sets_over}
use Rattle.trace.proofs.Rows.{Walk, walk_start, walk_past, walk_more, walk_step}
use Rattle.grammar.proofs.Bodies.{Along, along_start, along_step, along_turn, body_end, body_fault, some_left}

-- One list

-- f of each step before `at` has been stored in `new`, which was `old`: storing the others gives the whole
pub record Stored (f : Event → ℕ) (s : List ℕ) (first at i : ℕ) (old new : List ℕ) : Type 0 where
  pub long : length new ≡ length old
  pub done : sets new i (map f (body_of (first + i) (drop at s)).events) ≡ sets old 0 (map f (body_of first s).events)

module _ (f : Event → ℕ) (s : List ℕ) (first : ℕ) where
  stored_start : (old : List ℕ) → Stored f s first 0 0 old old
  stored_start old = record { long = refl; done = rw add-zero }

  module _ (at i : ℕ) (old new : List ℕ) (st : Stored f s first at i old new) where
    stored_step : (row : Parsed Event) → at < length s → event_at (first + i) (drop at s) ≡ Ok row
        → Stored f s first (at + row.size) (i + 1) old (set new i (f row.value))
    stored_step row h e =
        record {
          long = length-set new i (f row.value) ∙ st.long;
          done = rw add-one (rw (along_turn s first at i row h e, add-one) at st.done);
        }

    stored_all : (body_of (first + i) (drop at s)).events ≡ [] → length (body_of first s).events ≤ length old
        → new ≡ over (map f (body_of first s).events) old
    stored_all e fits = rw e at st.done ∙ sets_over (map f (body_of first s).events) old (rw length-map fits)

-- The three lists

abbrev time_of : Event → ℕ
time_of e = e.time

abbrev process_of : Event → ℕ
process_of e = e.process

abbrev action_of : Event → ℕ
action_of e = e.action

-- the steps before `at` have been stored in `new`, which were `old` and have room for all
pub record Storing (s : List ℕ) (first at i : ℕ) (old new : Lists) : Type 0 where
  pub along : Along s first at i
  pub fits : length (body_of first s).events ≤ room old
  pub times : Stored time_of s first at i old.times new.times
  pub processes : Stored process_of s first at i old.processes new.processes
  pub actions : Stored action_of s first at i old.actions new.actions

pub storing_start : (s : List ℕ) (first : ℕ) (l : Lists) → length (body_of first s).events ≤ room l → Storing s first 0 0 l l
storing_start s first l h =
    record {
      along = along_start s first;
      fits = h;
      times = stored_start time_of s first l.times;
      processes = stored_start process_of s first l.processes;
      actions = stored_start action_of s first l.actions;
    }

module _ {s : List ℕ} {first at i : ℕ} {old new : Lists} (st : Storing s first at i old new) where
  module _ (row : Parsed Event) (h : at < length s) (e : event_at (first + i) (drop at s) ≡ Ok row) where
    pub storing_step : Storing s first (at + row.size) (i + 1) old
        (lists (set new.times i row.value.time) (set new.processes i row.value.process) (set new.actions i row.value.action))
    storing_step =
        record {
          along = along_step s first at i row h e st.along;
          fits = st.fits;
          times = stored_step time_of s first at i old.times new.times st.times row h e;
          processes = stored_step process_of s first at i old.processes new.processes st.processes row h e;
          actions = stored_step action_of s first at i old.actions new.actions st.actions row h e;
        }

    -- there is a place for the next step
    pub storing_place : i < room new
    storing_place =
        let turn = ap (λ (b : Body). length b.events) (along_turn s first at i row h e) in
        omega (arith, st.times.long, st.processes.long, st.actions.long, st.along.counted, st.fits)

  all_stored : (body_of (first + i) (drop at s)).events ≡ [] → new ≡ stored (body_of first s).events old
  all_stored e =
      let fits = st.fits in
      let ts = stored_all time_of s first at i old.times new.times st.times e (omega arith) in
      let ps = stored_all process_of s first at i old.processes new.processes st.processes e (omega arith) in
      let qs = stored_all action_of s first at i old.actions new.actions st.actions e (omega arith) in
      λ j. lists (ts j) (ps j) (qs j)

  pub storing_end : length s ≤ at → new ≡ stored (body_of first s).events old
  storing_end h = all_stored (rw (drop_end s at h st.along.inside) (ap (λ (b : Body). b.events) (body_end (first + i))))

  pub storing_fault : (f : Fault) → at < length s → event_at (first + i) (drop at s) ≡ Err f
      → new ≡ stored (body_of first s).events old
  storing_fault f h e =
      all_stored (ap (λ (b : Body). b.events) (body_fault (first + i) (drop at s) (some_left s at h) f e))

-- such a walk that has come to where `rest` starts
pub record StoreWalk (s : List ℕ) (first : ℕ) (rest : List ℕ) (i : ℕ) (old new : Lists) : Type 0 where
  pub walk : Walk s first rest i
  pub storing : Storing s first walk.at i old new

pub store_start : (s : List ℕ) (first : ℕ) (l : Lists) → length (body_of first s).events ≤ room l → StoreWalk s first s 0 l l
unfolding walk_start
store_start s first l h = record { walk = walk_start s first; storing = storing_start s first l h }

module _ {s : List ℕ} {first : ℕ} {rest : List ℕ} {i : ℕ} {old new : Lists} (w : StoreWalk s first rest i old new) where
  pub store_end : length rest ≡ 0 → new ≡ stored (body_of first s).events old
  store_end z = storing_end w.storing (walk_past w.walk z)

  module _ (some : 0 < length rest) where
    pub store_fault : (f : Fault) → event_at (first + i) rest ≡ Err f → new ≡ stored (body_of first s).events old
    store_fault f e = storing_fault w.storing f (walk_more w.walk some) (rw w.walk.rest_is at e)

    module _ (row : Parsed Event) (e : event_at (first + i) rest ≡ Ok row) where
      pub store_place : i < room new
      store_place = storing_place w.storing row (walk_more w.walk some) (rw w.walk.rest_is at e)

      pub store_step : StoreWalk s first (drop row.size rest) (i + 1) old
          (lists (set new.times i row.value.time) (set new.processes i row.value.process) (set new.actions i row.value.action))
      unfolding walk_step
      store_step = record {
        walk = walk_step w.walk some row e;
        storing = storing_step w.storing row (walk_more w.walk some) (rw w.walk.rest_is at e);
      }
