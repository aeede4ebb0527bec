-- Numbers and moves, then states, then lists
pub mod Ranks
pub mod View
pub mod Exclusion
pub mod Wait
pub mod StateView
pub mod Moves
pub mod Calls
pub mod Sizes
pub mod Reached
pub mod Guarded
pub mod Progress
pub mod Spans
pub mod Demand3
pub mod Withdrawals
pub mod SlowProcess
