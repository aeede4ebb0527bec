pub mod Critical
pub mod Entries
pub mod Notes
pub mod Rows
pub mod Slots
pub mod Pass
pub mod Judged
pub mod Search
