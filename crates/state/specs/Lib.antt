pub mod BitFacts
pub mod Facts
pub mod SparseFacts
pub mod WrappedFacts
