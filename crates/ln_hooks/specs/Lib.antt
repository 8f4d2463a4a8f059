pub mod Amount
pub mod Event
pub mod Verdict
pub mod Chain
pub mod Table
