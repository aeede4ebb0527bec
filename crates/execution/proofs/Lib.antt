pub mod Starts
pub mod Fresh
pub mod Lent
pub mod Blocks
pub mod Turns
pub mod Attempts
