pub mod Chains
pub mod Lists
pub mod RecordedRuns
