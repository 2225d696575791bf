pub mod BitSteps
pub mod Counts
pub mod Places
pub mod SparseSteps
