pub mod Facts
pub mod Engines
pub mod Lists
pub mod Chains
pub mod Cases
pub mod Search
