pub mod Numbers
pub mod Stacking
pub mod Rowwise
pub mod Decomposing
pub mod Passing
pub mod Leaving
