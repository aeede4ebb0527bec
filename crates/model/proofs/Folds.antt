-- Laws of a list of calls, whatever is called: of two lists one after the other, of one call more, how many results there are, the loop
-- that makes the calls and writes down what they give back, and chains. Assumes nothing.
use Prim.Native.Nat.{ℕ, suc, ◌+◌, ◌≤◌, ◌<◌}
use mathlib.Core.Path.{◌≡◌, refl, sym, ap, ◌∙◌}
use mathlib.Core.List.{List, [], ◌∷◌, ◌++◌, map}
use native.Mathlib.Numerals.{add-one}
use native.Mathlib.Omega.{arith}
use lib.ListN.{length, get_or, take}
use lib.Seq.{length-take-le, take-suc, take_all}
use Rattle.model.specs.Folds.{end_by, results_by, Chained, last_of}
use Rattle.model.specs.Readings.{over}
use Rattle.model.proofs.Lists.{rows_long}

module _ {S D R : Type 0} (gives : S → D → R) (next : R → S) where
  -- Two lists

  pub end_append : (s : S) (ds es : List D) → end_by gives next s (ds ++ es) ≡ end_by gives next (end_by gives next s ds) es
  unfolding end_by
  end_append s [] es = refl
  end_append s (d ∷ ds) es = end_append (next (gives s d)) ds es

  pub results_append : (s : S) (ds es : List D)
      → results_by gives next s (ds ++ es) ≡ results_by gives next s ds ++ results_by gives next (end_by gives next s ds) es
  unfolding end_by results_by
  results_append s [] es = refl
  results_append s (d ∷ ds) es = ap (λ (rs : List R). gives s d ∷ rs) (results_append (next (gives s d)) ds es)

  -- One call more

  pub end_snoc : (s : S) (ds : List D) (d : D) → end_by gives next s (ds ++ (d ∷ [])) ≡ next (gives (end_by gives next s ds) d)
  unfolding end_by
  end_snoc s ds d = end_append s ds (d ∷ [])

  pub results_snoc : (s : S) (ds : List D) (d : D)
      → results_by gives next s (ds ++ (d ∷ [])) ≡ results_by gives next s ds ++ (gives (end_by gives next s ds) d ∷ [])
  unfolding results_by
  results_snoc s ds d = results_append s ds (d ∷ [])

  pub length_results : (s : S) (ds : List D) → length (results_by gives next s ds) ≡ length ds
  unfolding results_by
  length_results s [] = refl
  length_results s (d ∷ ds) = ap suc (length_results (next (gives s d)) ds)

-- The loop

-- of the calls ds from s on the first i have been made: they gave back rs, and led to t
pub record Made {S D R : Type 0} (gives : S → D → R) (next : R → S) (s : S) (ds : List D) (i : ℕ) (t : S) (rs : List R) : Type 0 where
  pub within : i ≤ length ds
  pub state : t ≡ end_by gives next s (take i ds)
  pub results : rs ≡ results_by gives next s (take i ds)

module _ {S D R : Type 0} {gives : S → D → R} {next : R → S} {s : S} {ds : List D} where
  pub begins : Made gives next s ds 0 s []
  unfolding end_by results_by
  begins = record { within = omega arith; state = refl; results = refl }

  module _ {i : ℕ} {t : S} {rs : List R} (made : Made gives next s ds i t rs) where
    pub count_made : length rs ≡ i
    count_made = rw made.results (length_results gives next s (take i ds) ∙ length-take-le i ds made.within)

    -- d is the next call; e is of no account
    pub goes_on : i < length ds → (d e : D) → get_or ds i e ≡ d → Made gives next s ds (i + 1) (next (gives t d)) (rs ++ (gives t d ∷ []))
    goes_on h d e at =
        let more : take (i + 1) ds ≡ take i ds ++ (d ∷ []) = rw (add-one, ← at) (take-suc ds i e h) in
        record {
          within = omega arith;
          state = rw (more, made.state) (sym (end_snoc gives next s (take i ds) d));
          results = rw (more, made.state, made.results) (sym (results_snoc gives next s (take i ds) d));
        }

    -- all have been made
    pub end_made : length ds ≤ i → t ≡ end_by gives next s ds
    end_made h = made.state ∙ ap (end_by gives next s) (take_all i ds h)

    pub results_made : length ds ≤ i → rs ≡ results_by gives next s ds
    results_made h = made.results ∙ ap (results_by gives next s) (take_all i ds h)

-- The loop that writes down what the calls give back

-- `read` tells the calls that stand in what is lent, a and l, and `write` puts results into l: of the n calls from s on the first i have
-- been made, they led to t, and l has become m
pub record Going {S D R A L : Type 0} (gives : S → D → R) (next : R → S) (read : A → L → List D) (write : List R → L → L)
    (s : S) (a : A) (l : L) (n i : ℕ) (t : S) (m : L) : Type 0 where
  pub results : List R
  pub made : Made gives next s (read a l) i t results
  pub all : n ≡ length (read a l)
  pub written : m ≡ write results l

module _ {S D R A L : Type 0} {gives : S → D → R} {next : R → S} {read : A → L → List D} {write : List R → L → L}
    {s : S} {a : A} {l : L} {n : ℕ} where
  pub sets_out : n ≡ length (read a l) → l ≡ write [] l → Going gives next read write s a l n 0 s l
  sets_out h none = record { results = []; made = begins; all = h; written = none }

  module _ {i : ℕ} {t : S} {m : L} (g : Going gives next read write s a l n i t m) where
    pub count_going : length g.results ≡ i
    count_going = count_made g.made

    -- a list with a row for each call is as long after a row of each result has been stored over its front
    pub long_going : {B : Type 0} (f : R → B) (rows : List B) → n ≤ length rows → length (over (map f g.results) rows) ≡ length rows
    long_going f rows h = rows_long f g.results rows i count_going (omega (arith, g.made.within, g.all))

    -- d is the next call; e is of no account
    pub moves_on : i < n → (d e : D) → get_or (read a l) i e ≡ d → {u : S} {k : L} → u ≡ next (gives t d)
        → k ≡ write (g.results ++ (gives t d ∷ [])) l → Going gives next read write s a l n (i + 1) u k
    moves_on h d e at led put = record {
      results = g.results ++ (gives t d ∷ []);
      made = rw led (goes_on g.made (omega (arith, g.all)) d e at);
      all = g.all;
      written = put;
    }

    -- all have been made
    pub end_reached : n ≤ i → t ≡ end_by gives next s (read a l)
    end_reached h = end_made g.made (omega (arith, g.all))

    pub all_written : n ≤ i → m ≡ write (results_by gives next s (read a l)) l
    all_written h = g.written ∙ ap (λ (rs : List R). write rs l) (results_made g.made (omega (arith, g.all)))

-- Chains

-- where one result alone is allowed, a chain is the list of calls
module _ {S D R : Type 0} {Allows : S → D → R → Type 0} {gives : S → D → R} (next : R → S)
    (only : (s : S) (d : D) (r : R) → Allows s d r → r ≡ gives s d) where
  pub chain_results : {s : S} {ds : List D} {rs : List R} → Chained Allows next s ds rs → rs ≡ results_by gives next s ds
  unfolding results_by
  chain_results Chained.ended = refl
  chain_results (Chained.made {s} {d} {ds} {r} m ch) =
      λ i. only s d r m i ∷ (chain_results ch ∙ ap (λ (q : R). results_by gives next (next q) ds) (only s d r m)) i

  pub chain_last : {s : S} {ds : List D} {rs : List R} → Chained Allows next s ds rs → last_of next s rs ≡ end_by gives next s ds
  unfolding end_by
  chain_last Chained.ended = refl
  chain_last (Chained.made {s} {d} {ds} {r} m ch) = chain_last ch ∙ ap (λ (q : R). end_by gives next (next q) ds) (only s d r m)

-- where each call has a result that is allowed, so has each list
module _ {S D R : Type 0} {Allows : S → D → R → Type 0} (gives : S → D → R) (next : R → S) (some : (s : S) (d : D) → Allows s d (gives s d)) where
  pub list_chain : (s : S) (ds : List D) → Chained Allows next s ds (results_by gives next s ds)
  unfolding results_by
  list_chain s [] = Chained.ended
  list_chain s (d ∷ ds) = Chained.made (some s d) (list_chain (next (gives s d)) ds)
