pub mod Stops
pub mod Moving
pub mod Growing
pub mod Drawing
pub mod Written
