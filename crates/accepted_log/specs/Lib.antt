pub mod AcceptedLogs
pub mod Answers
pub mod Cases
pub mod Keeping
