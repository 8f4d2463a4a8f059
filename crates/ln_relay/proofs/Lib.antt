pub mod Merges
pub mod Histories
pub mod Owners
pub mod Steps
pub mod Positions
pub mod Passing
