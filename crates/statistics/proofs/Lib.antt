pub mod Counted
pub mod Laws
pub mod Waits
