pub mod Turns
pub mod RecordedTurns
pub mod Chain
