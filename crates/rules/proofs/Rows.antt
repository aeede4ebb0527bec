-- The row of an act by the word alone is that of the table, for an act that has one. Assumes nothing.
use Rattle.std.proofs.Common.{◌≡◌, ℕ, ◌≤◌, ◌≢◌, le-ltb, ne_eqb}
use Rattle.model.specs.Acts.{wait_act, last_act}
use Rattle.model.specs.Actions.{transition_of}
use Rattle.rules.specs.Judging.{row_of}

pub row_is : (word act p m : ℕ) → act ≢ wait_act → act ≤ last_act → row_of act p m word ≡ transition_of word act p m
unfolding row_of transition_of
row_is word act p m some known = simp (ne_eqb act wait_act some, le-ltb last_act act known)
