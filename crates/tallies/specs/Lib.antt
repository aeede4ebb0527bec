pub mod Tallies
pub mod Cases
