pub mod Messages
pub mod Greetings
pub mod Looks
pub mod Calls
