pub mod Passes
pub mod ReadingTo
