pub mod Verdicts
pub mod Judged
pub mod Stacks
pub mod Reports
