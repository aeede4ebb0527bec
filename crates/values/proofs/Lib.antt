pub mod Bits
pub mod Zeros
pub mod Values
