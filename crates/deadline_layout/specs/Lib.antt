pub mod Encodings
pub mod Interface
pub mod Numbers
pub mod Places
pub mod Steps
pub mod Search
