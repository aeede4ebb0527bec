-- Section 13 of the specification, the cases of comparisons. Assumes nothing.
use Rattle.std.specs.Prelude.{ℕ, List, [], ◌∷◌, pos, negsuc}
use Rattle.local_log.specs.Comparisons.{Entry, entries_of, comparison, Compared}

-- [13.150] the local log
abbrev pub behind_log : List Entry
behind_log = entries_of (18800 ∷ 19800 ∷ 23800 ∷ []) (1 ∷ 2 ∷ 3 ∷ [])

-- [13.150] the other one, which is 1,200 later
abbrev pub right_log : List Entry
right_log = entries_of (20000 ∷ 21000 ∷ 25000 ∷ []) (1 ∷ 2 ∷ 3 ∷ [])

-- [13.150]
abbrev pub Behind : Type 0
Behind =
    Compared 5000 0 behind_log right_log (comparison 0 (pos 1200))
    × Compared 5000 100 behind_log right_log (comparison 0 (pos 1100))
    × Compared 1000 100 behind_log right_log (comparison 21 (pos 0))
    × Compared 1000 200 behind_log right_log (comparison 0 (pos 1000))
    × Compared 5000 100 right_log behind_log (comparison 0 (negsuc 1299))

-- [13.155] the differences are 1,200, 1,260 and 1,170
abbrev pub shaken_log : List Entry
shaken_log = entries_of (20000 ∷ 21060 ∷ 24970 ∷ []) (1 ∷ 2 ∷ 3 ∷ [])

-- [13.155]
abbrev pub Shaken : Type 0
Shaken = Compared 5000 45 behind_log shaken_log (comparison 0 (pos 1215)) × Compared 5000 44 behind_log shaken_log (comparison 21 (pos 0))

-- [13.160] the first time past the clock's end
abbrev pub past_time : ℕ
past_time = 1_000_000_000_001

-- [13.160]
abbrev pub BoundsFirst : Type 0
BoundsFirst =
    Compared 5000 0 (entries_of (7 ∷ past_time ∷ []) (1 ∷ 2 ∷ [])) (entries_of (7 ∷ 8 ∷ []) (1 ∷ 3 ∷ [])) (comparison 19 (pos 0))
    × Compared 5000 0 (entries_of (7 ∷ past_time ∷ []) (1 ∷ [])) (entries_of (7 ∷ 8 ∷ []) (1 ∷ 3 ∷ [])) (comparison 20 (pos 0))
    × Compared 5000 0 (entries_of (7 ∷ 1_000_000_000_000 ∷ []) (1 ∷ 2 ∷ [])) (entries_of (7 ∷ 8 ∷ []) (1 ∷ 3 ∷ [])) (comparison 20 (pos 0))
    × Compared 1_000_001 0 [] [] (comparison 19 (pos 0))
    × Compared 0 1_000_001 [] [] (comparison 19 (pos 0))
    × Compared 1_000_000 1_000_000 [] [] (comparison 0 (negsuc 999_999))
