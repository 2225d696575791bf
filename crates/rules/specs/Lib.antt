pub mod Effects
pub mod Tasks
pub mod Places
pub mod Rules
pub mod Starting
