-- Section 4 of the specification: the number of each refusal in the answers table. Assumes nothing.
use Rattle.std.specs.Prelude.{ℕ}
use Rattle.model.specs.declared.Refusal.{Refusal}
use Rattle.model.specs.declared.Refusal.TheVariants as refusal

-- [4.1] [4.2] [4.3] [4.4] [4.5] [4.6] [4.7] [4.8] [4.9] [4.10] [4.11] [4.12] [4.13] [4.14] [4.15] [4.16] [4.17] [4.18] [4.19] [4.20] [4.21]
-- the number of a refusal
abbrev pub code_of : Refusal → ℕ
code_of refusal.NoTable = 1
code_of refusal.NoSummary = 2
code_of refusal.SummaryFull = 3
code_of refusal.Backward = 4
code_of refusal.EndOfClock = 5
code_of refusal.NoAction = 6
code_of refusal.NoProcess = 7
code_of refusal.Late = 8
code_of refusal.OutOfPlace = 9
code_of refusal.Early = 10
code_of refusal.BadCount = 11
code_of refusal.BadLimits = 12
code_of refusal.BadNames = 13
code_of refusal.BadLine = 14
code_of refusal.BadLength = 15
code_of refusal.ShortOutput = 16
code_of refusal.BadWidth = 17
code_of refusal.BoardFull = 18
code_of refusal.PastBounds = 19
code_of refusal.OtherActions = 20
code_of refusal.NoShift = 21
