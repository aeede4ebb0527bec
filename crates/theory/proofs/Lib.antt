-- A state and a step
pub mod OwnLimits
pub mod Entries
pub mod Locations
pub mod Rows
pub mod Soundness
pub mod Lateness
pub mod Conditions
pub mod Steps
pub mod Refusals
pub mod Acceptance
pub mod Lowest
pub mod StaysSound
pub mod TakenBack
pub mod OwnDeadlines
-- A recorded step
pub mod RecordedSteps
pub mod Waits
pub mod Countings
pub mod Summaries
pub mod SoundSummaries
