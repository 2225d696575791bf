pub mod Copies
pub mod Asking
