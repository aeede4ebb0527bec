pub mod Intervals
pub mod Runs
pub mod Answers
pub mod Cases
pub mod Parts
