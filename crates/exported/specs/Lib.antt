pub mod Lending
pub mod TableChains
pub mod Chains
pub mod DeadlineChains
