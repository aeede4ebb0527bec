pub mod Soundness
pub mod Acceptance
pub mod Lateness
pub mod OwnDeadlines
pub mod Refusals
pub mod Lowest
pub mod Summaries
