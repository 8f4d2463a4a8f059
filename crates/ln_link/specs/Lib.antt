pub mod Record
pub mod Loading
pub mod Saving
pub mod Calls
