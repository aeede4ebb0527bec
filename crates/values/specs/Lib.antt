pub mod Bits
pub mod Within
