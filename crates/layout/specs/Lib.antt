pub mod Encodings
pub mod Layouts
pub mod Numbers
pub mod Interface
pub mod Places
pub mod Steps
pub mod Countings
pub mod Search
