pub mod Lending
pub mod TableChain
pub mod Chain
pub mod DeadlineChain
