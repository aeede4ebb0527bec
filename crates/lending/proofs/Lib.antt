pub mod LentSteps
pub mod Sizes
pub mod Refusals
pub mod Writes
pub mod LentLists
pub mod LentTakenBack
pub mod LentTallies
