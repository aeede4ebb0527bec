pub mod Types
pub mod Deadlines
pub mod Matching
pub mod Looks
pub mod Search
