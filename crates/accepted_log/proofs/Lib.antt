pub mod Keeping
pub mod Taking
pub mod Given
pub mod Runs
pub mod Answers
pub mod Cases
