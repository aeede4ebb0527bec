-- What `array::from_fn` gives where each call answers what h gives of its index; the lists of a case; and a step more. Assumes nothing.
use Rattle.std.proofs.Common.{ℕ, zero, suc, ◌≡◌, ◌+◌, ◌-◌, ◌<◌, ◌≤◌, ◌≢◌, List, length, get_or, refl, sym, ◌∙◌, subst, arith, replicate, slice_set, length-set}
use Rattle.std.proofs.lemmas.Grind.{get_or-set_at}
use Rattle.std.proofs.lemmas.List.{get_or-set_other, same_lists, length-replicate}
use Rattle.std.specs.Array.{IsFromFnResult, IsFromFnResultFrom}
use Rattle.std.specs.Fn.{Called}
use denote.Param.Members.{Mut}
use Rattle.model.specs.declared.Answer.{Answer}
use Rattle.workload.specs.declared.acts.Act.{Act}
use Rattle.model.specs.States.{entry, idle}
use Rattle.workload.specs.Work.{limit_for, limits_for, location_in, entries_in, act_in, added, Sums}

module _ {B : Type 0} (h : ℕ → B) where
  -- a list whose first elements are those that h gives
  abbrev pub filled : List B → ℕ → List B
  filled start zero = start
  filled start (suc n) = slice_set (filled start n) n (h n)

  filled_long : (start : List B) (n : ℕ) → length (filled start n) ≡ length start
  filled_long start zero = refl
  filled_long start (suc n) = simp length-set (filled_long start n)

  filled_at : (start : List B) (n k : ℕ) (d : B) → n ≤ length start → k < n → get_or (filled start n) k d ≡ h k
  filled_at start zero k d fits low = absurd (omega arith)
  filled_at start (suc n) k d fits low =
      let long = filled_long start n in
      let before : k < n → get_or (filled start n) k d ≡ h k = filled_at start n k d (omega arith) in
      let put : get_or (slice_set (filled start n) n (h n)) n d ≡ h n =
      get_or-set_at (filled start n) n n (h n) d refl (omega (arith, long)) in
      let other : k ≢ n → get_or (slice_set (filled start n) n (h n)) k d ≡ get_or (filled start n) k d =
      get_or-set_other (filled start n) n k (h n) d in
      grind (arith, before, put, other)

  module _ {F : Type 0} (g : Mut F (ℕ × Unit {0}) B) where
    each_made : (f : F) (ys : List B) (n i : ℕ)
        → ((j : ℕ) (y : B) (q : F) → Called g f (j, tt) y q → (y ≡ h j) × (q ≡ f))
        → IsFromFnResultFrom g f ys i n → (k : ℕ) (d : B) → i ≤ k → k < i + n → get_or ys k d ≡ h k
    each_made f ys zero i law made k d low high = absurd (omega arith)
    each_made f ys (suc n) i law made k d low high =
        let said = law i made.1 made.0 made.3 in
        let here : get_or ys i d ≡ h i = made.2.1 d ∙ said.0 in
        let rest = subst (λ (q : F). IsFromFnResultFrom g q ys (i + 1) n) said.1 made.4 in
        let later : i + 1 ≤ k → k < i + 1 + n → get_or ys k d ≡ h k = each_made f ys n (i + 1) law rest k d in
        grind (arith, here, later)

    pub made_filled : (f : F) (ys : List B) (x : B) (n : ℕ)
        → ((j : ℕ) (y : B) (q : F) → Called g f (j, tt) y q → (y ≡ h j) × (q ≡ f))
        → IsFromFnResult g f ys n → ys ≡ filled (replicate n x) n
    made_filled f ys x n law made =
        let start = replicate n x in
        let long : length start ≡ n = length-replicate n x in
        same_lists ys (filled start n) (made.long ∙ sym long ∙ sym (filled_long start n)) (λ k d below.
        each_made f ys n 0 law made.each k d (omega arith) (omega (arith, made.long))
        ∙ sym (filled_at start n k d (omega (arith, long)) (omega (arith, made.long))))

pub limits_filled : (case k : ℕ) → filled (limit_for case) (replicate 96 0) k ≡ limits_for case k
unfolding limits_for
limits_filled case zero = refl
limits_filled case (suc k) = λ i. slice_set (limits_filled case k i) k (limit_for case k)

pub entries_filled : (case k : ℕ) → filled (λ (n : ℕ). entry (location_in case n)) (replicate 96 idle) k ≡ entries_in case k
unfolding entries_in
entries_filled case zero = refl
entries_filled case (suc k) = λ i. slice_set (entries_filled case k i) k (entry (location_in case k))

-- a step more, before those that are left
pub sums_more : {M : Type 0} (step : M → Act → Answer → M → Type 0) (case i n sum more total : ℕ) (machine next last : M) (act : Act)
    (answer : Answer) → step machine act answer next → act ≡ act_in case i → more ≡ added sum answer → i < n
    → Sums step case (i + 1) (n - (i + 1)) next last more total → Sums step case i (n - i) machine last sum total
sums_more step case i n sum more total machine next last act answer met acts adds below rest =
    let left : n - i ≡ suc (n - (i + 1)) = omega (arith, below) in
    rw left (
      answer,
      next,
      subst (λ (a : Act). step machine a answer next) acts met,
      subst (λ (s : ℕ). Sums step case (i + 1) (n - (i + 1)) next last s total) adds rest,
    )
