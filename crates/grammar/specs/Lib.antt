pub mod Digits
pub mod Exact
pub mod Faults
pub mod Answers
pub mod RoundTrips
pub mod Wholes
