pub mod Dispatcher
pub mod World
pub mod Promises
pub mod Slots
pub mod Hooked
pub mod Kept
