pub mod Trips
pub mod LentTrips
