-- At most one process owns the word: the invariants of a view by which that holds, each kept by every move that keeps the limits.
-- Assumes nothing.
use Prim.Native.Nat.{ℕ, zero, suc, ◌+◌, ◌≤◌, ◌<◌}
use mathlib.Core.Path.{◌≡◌, ◌∙◌}
use mathlib.Core.Logic.{◌≢◌}
use native.Mathlib.Omega.{arith}
use Rattle.model.proofs.Tests.{if_eq}
use Rattle.lists.proofs.Ranks.{at_remainder, at_setting, at_checking, at_resetting}
use Rattle.lists.proofs.View.{Lock, View, Fresh, Owns, Sets, Comes, Goes, Move, Kept, split}

-- The invariants

-- the delay before a check is enough: who may yet overwrite the word of i has to do so before i may check it
abbrev Delay : Lock → View → Type 0
Delay L x = (i j : ℕ) → x.word ≡ i → x.rank i ≡ at_checking → Sets x j → x.since j + L.a < x.since i + L.b

-- an owner is the word, and nobody is about to overwrite it
abbrev Owner : View → Type 0
Owner x = (i : ℕ) → Owns x i → x.word ≡ i

abbrev Unset : View → Type 0
Unset x = (i j : ℕ) → Owns x i → Sets x j → ⊥

-- a word that is not free is a process that has set it and not yet reset it
abbrev Named : View → Type 0
Named x = (i : ℕ) → x.word ≡ i → 0 < i → (at_checking ≤ x.rank i) × (x.rank i ≤ at_resetting)

pub record Inv (L : Lock) (x : View) : Type 0 where
  pub nobody : x.rank 0 ≡ at_remainder
  pub delay : Delay L x
  pub owner : Owner x
  pub unset : Unset x
  pub named : Named x

pub fresh_inv : {L : Lock} {x : View} → Fresh x → Inv L x
fresh_inv f = record {
  nobody = f.all 0;
  delay = λ i j e g h. omega (arith, f.all i);
  owner = λ i h. omega (arith, f.all i);
  unset = λ i j h g. omega (arith, f.all i);
  named = λ i e h. omega (arith, f.word);
}

-- What they tell

module _ {L : Lock} {x : View} (inv : Inv L x) where
  pub one_owner : (i j : ℕ) → Owns x i → Owns x j → i ≡ j
  one_owner i j h k = omega (arith, inv.owner i h, inv.owner j k)

  pub from_one : (i : ℕ) → x.rank i ≢ at_remainder → 0 < i
  from_one zero h = absurd (h inv.nobody)
  from_one (suc i) h = omega arith

-- A move keeps them

module _ {L : Lock} {x y : View} {act p m : ℕ} (move : Move x y act p m) (inv : Inv L x) where
  comes : Comes x y p m
  comes = move.comes

  goes : Goes x y act p
  goes = move.goes

  -- only an owner resets the word
  pub other_word_stays : x.rank p ≢ at_setting → (i : ℕ) → i ≢ p → x.word ≡ i → y.word ≡ i
  other_word_stays h i n e = goes.word_stays h (λ r. n (omega (arith, inv.owner p (omega arith)))) ∙ e

  -- who comes to own the word had set it
  own_before : Owns y p → x.word ≡ p
  own_before h =
      let r = comes.to_own h in
      if_eq (x.rank p) at_checking
      (λ e. if_eq x.word p (λ f. f) (λ n. omega (arith, goes.check_other e n)))
      (λ n. inv.owner p (omega arith))

  module _ (apart : L.a < L.b) (kept : Kept L x p m) where
    -- who sets the word arrives at its check after all who are setting then, and a < b; nobody joins these while the word is taken
    delay_kept : Delay L y
    delay_kept = split move
        (split move
        (λ e f g. omega arith)
        (λ j n s e f g. omega (arith, move.past j, comes.arrival (omega arith) (omega arith))))
        (λ i n s. split move
        (λ e f g. omega (arith, comes.to_set g, from_one inv i (omega arith)))
        (λ j o u e f g.
        omega (arith, inv.delay i j (comes.other_word i n (from_one inv i (omega arith)) e) (omega arith) (omega arith))))

    owner_kept : Owner y
    owner_kept = split move
        (λ h. omega (arith, own_before h, comes.to_own h))
        (λ i n s h. other_word_stays (λ e. inv.unset i p (omega arith) (omega arith)) i n (inv.owner i (omega arith)))

    -- at a check that finds its own word, who was setting would be late
    unset_kept : Unset y
    unset_kept = split move
        (split move
        (λ h g. omega arith)
        (λ j n s h g. let r = comes.to_own h in
        if_eq (x.rank p) at_checking
        (λ e. omega (arith, kept.released e, kept.timely.short j (omega arith), inv.delay p j (own_before h) e (omega arith)))
        (λ o. inv.unset p j (omega arith) (omega arith))))
        (λ i n s. split move
        (λ h g. omega (arith, comes.to_set g, from_one inv i (omega arith), inv.owner i (omega arith)))
        (λ j o u h g. inv.unset i j (omega arith) (omega arith)))

    named_kept : Named y
    named_kept = split move
        (λ e h. if_eq (y.rank p) at_checking (λ f. omega arith)
        (λ n. let w = comes.own_word e n in let r = inv.named p w h in
        if_eq (x.rank p) at_resetting
        (λ f. omega (arith, goes.reset f))
        (λ o. omega (arith, goes.own_on w r.0 (omega arith)))))
        (λ i n s e h. omega (arith, inv.named i (comes.other_word i n h e) h))

    pub move_inv : Inv L y
    move_inv = record {
      nobody = move.nobody;
      delay = delay_kept;
      owner = owner_kept;
      unset = unset_kept;
      named = named_kept;
    }
