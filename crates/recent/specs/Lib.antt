pub mod Boards
pub mod Encodings
pub mod Lists
pub mod Tellings
pub mod Facts
pub mod Looking
