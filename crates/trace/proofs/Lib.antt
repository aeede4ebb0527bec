pub mod Rows
pub mod Limits
pub mod Stores
pub mod Readings
pub mod ReadingsTo
pub mod Sizes
pub mod Traces
pub mod Writes
