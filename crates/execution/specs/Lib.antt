pub mod Steps
pub mod Blocks
