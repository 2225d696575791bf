pub mod Questions
pub mod Stored
pub mod Asked
