pub mod Demand3
pub mod Withdrawals
pub mod SlowProcess
