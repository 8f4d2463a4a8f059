pub mod Invariant
pub mod Clauses
pub mod Lists
pub mod Moves
pub mod Rebuild
pub mod Law
pub mod Runs
pub mod Recovery
