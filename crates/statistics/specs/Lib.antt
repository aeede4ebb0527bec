pub mod Countings
pub mod Waitings
