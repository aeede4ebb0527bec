-- The owed wait, on views: until some process becomes critical one of four phases holds, and each bounds the clock by the time W.
-- Only one process is followed, w, which was trying at the start and does not withdraw. Assumes nothing.
use Prim.Native.Nat.{ℕ, ◌+◌, ◌*◌, ◌≤◌, ◌<◌}
use mathlib.Core.Path.{◌≡◌, refl, ap}
use mathlib.Core.Logic.{◌≢◌}
use native.Mathlib.Omega.{arith}
use Rattle.model.specs.Acts.{withdraw_act}
use Rattle.model.proofs.Tests.{if_eq, if_lt}
use Rattle.lists.proofs.Ranks.{at_testing, at_setting, at_checking, at_entering, at_critical, at_resetting}
use Rattle.lists.proofs.View.{Lock, View, Owns, Sets, Same, Comes, Goes, Move, Timely, Kept, split}
use Rattle.lists.proofs.Exclusion.{Inv, from_one, other_word_stays}

-- The phases
-- Once the word is set, those who are setting follow within a; the last of them checks within c and is critical within the tail. Each
-- phase leaves time for that and for all that comes before it.

-- who may yet write the word does so in time
abbrev Setters : Lock → ℕ → View → Type 0
Setters L W x = (j : ℕ) → Sets x j → x.since j + L.a + L.c + L.tail ≤ W

-- process k is about to become critical
pub record Ahead (L : Lock) (W : ℕ) (x : View) (k : ℕ) : Type 0 where
  pub at : x.rank k ≡ at_entering
  pub left : x.since k + L.a ≤ W

-- process k has set the word
pub record Taken (L : Lock) (W : ℕ) (x : View) (k : ℕ) : Type 0 where
  pub word : x.word ≡ k
  pub at : x.rank k ≡ at_checking
  pub left : x.since k + L.c + L.tail ≤ W
  pub setters : Setters L W x

-- w is before its check, or at one that is to fail
pub record Waiting (L : Lock) (w W : ℕ) (x : View) : Type 0 where
  pub low : at_testing ≤ x.rank w
  pub high : x.rank w ≤ at_checking
  pub checks : x.rank w ≡ at_checking → x.since w + 3 * L.a + 2 * L.c + L.tail ≤ W

-- the word is free, and w sets it in time if nobody else does
pub record Free (L : Lock) (w W : ℕ) (x : View) : Type 0 where
  pub word : x.word ≡ 0
  pub waiting : Waiting L w W x
  pub tests : x.rank w ≡ at_testing → x.since w + 3 * L.a + L.c + L.tail ≤ W
  pub sets : x.rank w ≡ at_setting → x.since w + 2 * L.a + L.c + L.tail ≤ W

-- process k is about to free the word, for which w waits
pub record Resets (L : Lock) (w W : ℕ) (x : View) (k : ℕ) : Type 0 where
  pub at : x.rank k ≡ at_resetting
  pub left : x.since k + 4 * L.a + L.c + L.tail ≤ W
  pub waiting : Waiting L w W x
  pub not_setting : x.rank w ≢ at_setting

pub data Phase (L : Lock) (w W : ℕ) (x : View) : Type 0 where
  ahead : (k : ℕ) → Ahead L W x k → Phase L w W x
  taken : (k : ℕ) → Taken L W x k → Phase L w W x
  free : Free L w W x → Phase L w W x
  resets : (k : ℕ) → Resets L w W x k → Phase L w W x

-- The start: w is trying, and nobody is critical

-- what is asked of a bound B: time for a reset and all that follows, and for a check of w that is to fail
pub record Room (L : Lock) (x : View) (w B : ℕ) : Type 0 where
  pub reset : 4 * L.a + L.c + L.tail ≤ B
  pub check_free : x.word ≡ 0 → x.rank w ≡ at_checking → x.since w + 3 * L.a + 2 * L.c + L.tail ≤ x.clock + B
  pub check_owned : (k : ℕ) → Owns x k → x.rank w ≡ at_checking → x.since w + 3 * L.a + 2 * L.c + L.tail ≤ x.clock + B

module _ {L : Lock} {x : View} (inv : Inv L x) (past : (j : ℕ) → x.since j ≤ x.clock) (w B : ℕ) (room : Room L x w B)
    (low : at_testing ≤ x.rank w) (high : x.rank w ≤ at_entering) (none : (i : ℕ) → x.rank i ≢ at_critical) where
  not_entering : (k : ℕ) → x.word ≡ k → k ≢ w → x.rank w ≤ at_checking
  not_entering k e n = if_lt at_checking (x.rank w) (λ h. absurd (n (omega (arith, inv.owner w (omega arith))))) (λ h. h)

  start_free : x.word ≡ 0 → Free L w (x.clock + B) x
  start_free e = record {
    word = e;
    waiting = record {
      low = low;
      high = not_entering 0 e (omega (arith, from_one inv w (omega arith)));
      checks = room.check_free e;
    };
    tests = λ f. omega (arith, past w);
    sets = λ f. omega (arith, past w);
  }

  start_taken : (k : ℕ) → x.word ≡ k → x.rank k ≡ at_checking → Taken L (x.clock + B) x k
  start_taken k e f = record { word = e; at = f; left = omega (arith, past k); setters = λ j g. omega (arith, past j) }

  start_resets : (k : ℕ) → x.word ≡ k → x.rank k ≡ at_resetting → Resets L w (x.clock + B) x k
  start_resets k e f = record {
    at = f;
    left = omega (arith, past k);
    waiting = record {
      low = low;
      high = not_entering k e (λ z. omega (arith, ap x.rank z));
      checks = room.check_owned k (omega arith);
    };
    not_setting = λ g. inv.unset k w (omega arith) (omega arith);
  }

  start_named : (k : ℕ) → x.word ≡ k → 0 < k → Phase L w (x.clock + B) x
  start_named k e h =
      let r = inv.named k e h in
      if_eq (x.rank k) at_checking (λ f. taken k (start_taken k e f))
      (λ n. if_eq (x.rank k) at_resetting (λ f. resets k (start_resets k e f))
      (λ o. ahead k (omega (arith, none k, past k))))

  pub phase_start : Phase L w (x.clock + B) x
  phase_start = if_eq x.word 0 (λ e. free (start_free e)) (λ n. start_named x.word refl (omega arith))

-- A phase bounds the time

module _ {L : Lock} {w W m : ℕ} {x : View} (t : Timely L x m) where
  free_time : Free L w W x → m + L.a + L.c + L.tail ≤ W
  free_time f = if_eq (x.rank w) at_checking
      (λ e. omega (arith, f.waiting.checks e, t.long w (omega arith)))
      (λ n. let h = t.short w (omega arith) in
      if_eq (x.rank w) at_testing (λ e. omega (arith, f.tests e)) (λ o. omega (arith, f.sets (omega arith))))

  pub phase_time : Phase L w W x → m ≤ W
  phase_time (ahead k h) = omega (arith, t.short k (omega arith))
  phase_time (taken k h) = omega (arith, t.long k (omega arith))
  phase_time (free h) = omega (arith, free_time h)
  phase_time (resets k h) = omega (arith, t.short k (omega arith))

-- An act other than a crit, and other than a withdraw of w, leads from a phase to a phase

module _ {L : Lock} (tail : L.a ≤ L.tail) {x y : View} {act p m : ℕ} (move : Move x y act p m) (kept : Kept L x p m)
    (inv : Inv L x) (w W : ℕ) (stays : w ≡ p → act ≢ withdraw_act) where
  comes : Comes x y p m
  comes = move.comes

  goes : Goes x y act p
  goes = move.goes

  -- from `ahead`

  from_ahead : x.rank p ≢ at_entering → (k : ℕ) → Ahead L W x k → Phase L w W y
  from_ahead n = split move (λ h. absurd (n h.at)) (λ k o s h. ahead k (omega arith))

  -- from `taken`

  set_taken : x.rank p ≡ at_setting → m + L.c + L.tail ≤ W → Setters L W x → Taken L W y p
  set_taken e h g =
      let r = goes.set e in
      let t = comes.arrival (omega arith) (omega arith) in
      record {
        word = r.1;
        at = r.0;
        left = omega arith;
        setters = split move (λ s. omega arith) (λ j n u s. omega (arith, g j (omega arith)));
      }

  check_ahead : Taken L W x p → Ahead L W y p
  check_ahead h =
      let r = goes.check_own h.at h.word in
      omega (arith, comes.arrival (omega arith) (omega arith), kept.timely.long p (omega arith))

  -- while the word is taken nobody comes to set it
  taken_stays : (k : ℕ) → k ≢ p → Same x y k → x.rank p ≢ at_setting → Taken L W x k → Taken L W y k
  taken_stays k n s q h =
      let z = from_one inv k (omega arith) in
      record {
        word = other_word_stays move inv q k n h.word;
        at = omega arith;
        left = omega arith;
        setters = split move (λ g. omega (arith, comes.to_set g)) (λ j o u g. omega (arith, h.setters j (omega arith)));
      }

  from_taken : (k : ℕ) → Taken L W x k → Phase L w W y
  from_taken = split move
      (λ h. ahead p (check_ahead h))
      (λ k n s h. if_eq (x.rank p) at_setting
      (λ q. taken p (set_taken q (omega (arith, h.setters p (omega arith), kept.timely.short p (omega arith))) h.setters))
      (λ q. taken k (taken_stays k n s q h)))

  -- where w acts, and where it does not

  record Own : Type 0 where
    rank : x.rank w ≡ x.rank p
    since : x.since w ≡ x.since p
    rank' : y.rank w ≡ y.rank p
    since' : y.since w ≡ y.since p

  own : w ≡ p → Own
  own e = record { rank = ap x.rank e; since = ap x.since e; rank' = ap y.rank e; since' = ap y.since e }

  waiting_stays : w ≢ p → Waiting L w W x → Waiting L w W y
  waiting_stays n h =
      let s = move.others w n in
      record { low = omega arith; high = omega arith; checks = λ e. omega (arith, h.checks (omega arith)) }

  -- from `free`

  word_free : x.rank p ≢ at_setting → Free L w W x → y.word ≡ 0
  word_free q h = if_eq (x.rank p) at_resetting
      (λ r. omega (arith, goes.reset r))
      (λ r. omega (arith, goes.word_stays q r))

  test_free : w ≡ p → x.rank w ≡ at_testing → Free L w W x → Free L w W y
  test_free z e h =
      let o = own z in
      let g = goes.test_free (stays z) (omega arith) h.word in
      let t = comes.arrival (omega arith) (omega arith) in
      let v = kept.timely.short p (omega arith) in
      let f = word_free (omega arith) h in
      record { word = f; waiting = omega arith; tests = λ r. omega arith; sets = λ r. omega (arith, h.tests e) }

  check_free : w ≡ p → x.rank w ≡ at_checking → Free L w W x → Free L w W y
  check_free z e h =
      let o = own z in
      let g = goes.check_other (omega arith) (omega (arith, from_one inv p (omega arith))) in
      let t = comes.arrival (omega arith) (omega arith) in
      let v = kept.timely.long p (omega arith) in
      let f = word_free (omega arith) h in
      record { word = f; waiting = omega arith; tests = λ r. omega (arith, h.waiting.checks e); sets = λ r. omega arith }

  stays_free : w ≢ p → x.rank p ≢ at_setting → Free L w W x → Free L w W y
  stays_free z q h =
      let s = move.others w z in
      record {
        word = word_free q h;
        waiting = waiting_stays z h.waiting;
        tests = λ r. omega (arith, h.tests (omega arith));
        sets = λ r. omega (arith, h.sets (omega arith));
      }

  from_free : x.rank p ≢ at_setting → Free L w W x → Free L w W y
  from_free q h = if_eq w p
      (λ z. let o = own z in if_eq (x.rank w) at_testing
      (λ e. test_free z e h)
      (λ n. check_free z (omega arith) h))
      (λ z. stays_free z q h)

  -- the first to set the word does so while it may be free
  free_set : x.rank p ≡ at_setting → Free L w W x → Taken L W y p
  free_set q h =
      let t = free_time kept.timely h in
      set_taken q (omega arith) (λ j s. omega (arith, move.past j))

  -- from `resets`

  reset_free : Resets L w W x p → Free L w W y
  reset_free h =
      let n : w ≢ p = λ z. omega (arith, ap x.rank z) in
      let s = move.others w n in
      let v = kept.timely.short p (omega arith) in
      record {
        word = (goes.reset h.at).1;
        waiting = waiting_stays n h.waiting;
        tests = λ r. omega (arith, move.past w);
        sets = λ r. omega arith;
      }

  -- while another process has the word, w comes from a test or a check to the next test
  resets_stay : (k : ℕ) → k ≢ p → Same x y k → Resets L w W x k → Resets L w W y k
  resets_stay k n s h =
      let e = inv.owner k (omega arith) in
      let f = from_one inv k (omega arith) in
      if_eq w p
      (λ z. let o = own z in
      let g = if_eq (x.rank p) at_testing
      (λ t. goes.test_taken (stays z) t (omega arith))
      (λ t. goes.check_other (omega arith) (omega arith)) in
      omega arith)
      (λ z. let u = move.others w z in
      record { at = omega arith; left = omega arith; waiting = waiting_stays z h.waiting; not_setting = omega arith })

  from_resets : (k : ℕ) → Resets L w W x k → Phase L w W y
  from_resets = split move (λ h. free (reset_free h)) (λ k n s h. resets k (resets_stay k n s h))

  pub phase_step : x.rank p ≢ at_entering → Phase L w W x → Phase L w W y
  phase_step n (ahead k h) = from_ahead n k h
  phase_step n (taken k h) = from_taken k h
  phase_step n (free h) = if_eq (x.rank p) at_setting (λ q. taken p (free_set q h)) (λ q. free (from_free q h))
  phase_step n (resets k h) = from_resets k h
