pub mod FedLaws
pub mod Feeding
pub mod Turns
pub mod Opening
pub mod Trips
pub mod Keyed
pub mod Viable
pub mod Advancing
