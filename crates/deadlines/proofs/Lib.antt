pub mod Matched
pub mod Passing
pub mod Judging
pub mod Search
