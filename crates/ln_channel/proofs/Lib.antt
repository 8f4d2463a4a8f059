pub mod Accepting
pub mod Halting
pub mod Kept
pub mod Meeting
pub mod Taken
pub mod Turning
pub mod Based
pub mod Held
