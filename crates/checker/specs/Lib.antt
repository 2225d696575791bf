pub mod Judging
pub mod Reports
