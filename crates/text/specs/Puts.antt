-- What the functions that put a text into a lent output ensure. Assumes nothing.
use Rattle.std.specs.Prelude.{ℕ, ◌≡◌, List, length}
use Rattle.std.proofs.lemmas.List.Edits.{sets}

-- helper: `text` has been put into `old` from place `at` on, as much of it as there is room for: it is `new` now. `width` is how many
-- bytes the whole text has.
pub record Put (old new : List ℕ) (at : ℕ) (text : List ℕ) (width : ℕ) : Type 0 where
  pub put : new ≡ sets old at text
  pub wide : width ≡ length text

-- helper: so many numbers at most follow the first of a line that is put
unfoldable pub most_numbers : ℕ
most_numbers = 4_294_967_295
