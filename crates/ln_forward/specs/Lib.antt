pub mod Payload
pub mod Failure
pub mod Checks
